-- What is kept of bytes that come in pieces.
use Rattle.std.proofs.Common.{◌≡◌, ℕ, ◌+◌, ◌<◌, true, false, List, [], ◌∷◌, ◌++◌, length, None, Some, Result, Ok, Err, refl, ap, sym, ◌∙◌, subst, arith, append_assoc, append-nil, inl, inr, OnOk}
use Rattle.std.specs.Result.{IfErr}
use Rattle.std.specs.Str.Lines.{strip_carriage_return}
use Rattle.sdc_base.specs.Answers.{Fails, Gives}
use Rattle.sdc_base.specs.Lines.{HasNoFeed}
use Rattle.sdc_base.specs.Steps.{◌>>=◌}
use Rattle.plain_text.proofs.FirstLine.{NoFeeds, lines-open, lines-ended}
use Rattle.microdata.specs.Feeding.{is_too_long, fed_says, all_says, fed_of, SaysAsFrom, HasFault, IsKeptOf, StopsLong, ReaderView, HasRead}
use Rattle.microdata.specs.Faults.{row_fault_of}
use Rattle.microdata.specs.Layouts.{measures_of}
use Rattle.microdata.specs.Microdata.{records_of, records_behind, closed_records}
use Rattle.microdata.specs.OneRecord.{line_says, lines_say, record_says, no_records}
use Rattle.microdata.specs.declared.faults.RowError.{RowError}
use Rattle.microdata.specs.declared.faults.RowError.TheVariants as row_error
use Rattle.microdata.specs.declared.faults.RowWhy.{RowWhy}
use Rattle.microdata.specs.declared.faults.RowWhy.TheVariants.{TooLong}
use Rattle.microdata.specs.declared.layout.Layout.{Layout}
use Rattle.microdata.specs.declared.layout.Measures.{Measures}
use Rattle.microdata.specs.declared.record.ReaderProgress.{ReaderProgress}
use Rattle.microdata.proofs.FeedLines.{no-feeds, no-feed, no-feeds-both, long-open, at-feed, ended-next, begun-next, begun-open, ended-open, is-above, long-more}

-- no bytes more
pub says-same : (m : Measures) (so_far : ReaderProgress) (bytes : List ℕ) → SaysAsFrom m so_far bytes so_far bytes
says-same m so_far bytes = record { all = λ more. refl; fed = λ more. refl }

-- one piece after another
pub says-on : (m : Measures) (first so_far last : ReaderProgress) (bytes rest piece end : List ℕ) → SaysAsFrom m first bytes so_far rest → SaysAsFrom m so_far (rest ++ piece) last end → SaysAsFrom m first (bytes ++ piece) last end
says-on m first so_far last bytes rest piece end one two = record {
  all = λ more. ap (all_says m first) (append_assoc bytes piece more) ∙ one.all (piece ++ more) ∙ ap (all_says m so_far) (sym (append_assoc rest piece more)) ∙ two.all more;
  fed = λ more. ap (fed_says m first) (append_assoc bytes piece more) ∙ one.fed (piece ++ more) ∙ ap (fed_says m so_far) (sym (append_assoc rest piece more)) ∙ two.fed more;
}

pub fault-on : (m : Measures) (first so_far : ReaderProgress) (bytes rest piece : List ℕ) (fault : ℕ × RowWhy) → SaysAsFrom m first bytes so_far rest → HasFault m so_far (rest ++ piece) fault → HasFault m first (bytes ++ piece) fault
fault-on m first so_far bytes rest piece fault one two = record {
  all = λ more. ap (all_says m first) (append_assoc bytes piece more) ∙ one.all (piece ++ more) ∙ ap (all_says m so_far) (sym (append_assoc rest piece more)) ∙ two.all more;
  fed = λ more. ap (fed_says m first) (append_assoc bytes piece more) ∙ one.fed (piece ++ more) ∙ ap (fed_says m so_far) (sym (append_assoc rest piece more)) ∙ two.fed more;
}

pub fault-more : (m : Measures) (first : ReaderProgress) (bytes piece : List ℕ) (fault : ℕ × RowWhy) → HasFault m first bytes fault → HasFault m first (bytes ++ piece) fault
fault-more m first bytes piece fault one = record {
  all = λ more. ap (all_says m first) (append_assoc bytes piece more) ∙ one.all (piece ++ more);
  fed = λ more. ap (fed_says m first) (append_assoc bytes piece more) ∙ one.fed (piece ++ more);
}

-- an error behind what was said so far
pub kept-on : (m : Measures) (first so_far : ReaderProgress) (bytes rest piece : List ℕ) (e : RowError) → SaysAsFrom m first bytes so_far rest → IsKeptOf (Some e) m so_far (rest ++ piece) so_far rest → IsKeptOf (Some e) m first (bytes ++ piece) so_far rest
kept-on m first so_far bytes rest piece row_error.Memory one two = tt
kept-on m first so_far bytes rest piece (row_error.At number why) one two = fault-on m first so_far bytes rest piece (number, why) one two

-- an error stays, whatever follows
pub kept-more : (m : Measures) (first so_far : ReaderProgress) (bytes rest piece : List ℕ) (e : RowError) → IsKeptOf (Some e) m first bytes so_far rest → IsKeptOf (Some e) m first (bytes ++ piece) so_far rest
kept-more m first so_far bytes rest piece row_error.Memory one = tt
kept-more m first so_far bytes rest piece (row_error.At number why) one = fault-more m first bytes piece (number, why) one

-- what is kept of an error is not what the records say
pub kept-any : (m : Measures) (first a b : ReaderProgress) (bytes c d : List ℕ) (e : RowError) → IsKeptOf (Some e) m first bytes a c → IsKeptOf (Some e) m first bytes b d
kept-any m first a b bytes c d row_error.Memory one = tt
kept-any m first a b bytes c d (row_error.At number why) one = one

-- an error of the bytes that are left
pub kept-rest : (m : Measures) (first so_far : ReaderProgress) (bytes rest a b : List ℕ) (e : RowError) → SaysAsFrom m first bytes so_far rest → IsKeptOf (Some e) m so_far rest so_far a → IsKeptOf (Some e) m first bytes first b
kept-rest m first so_far bytes rest a b row_error.Memory one two = tt
kept-rest m first so_far bytes rest a b (row_error.At number why) one two = record {
  all = λ more. one.all more ∙ two.all more;
  fed = λ more. one.fed more ∙ two.fed more;
}

-- the bytes that are left, up to the end of their first line and from there on
parted : (front line behind rest more : List ℕ) → rest ≡ line ++ 10 ∷ behind → (front ++ rest) ++ more ≡ ((front ++ line) ++ 10 ∷ []) ++ (behind ++ more)
parted front line behind rest more is =
    ap (λ r. (front ++ r) ++ more) is
    ∙ append_assoc front (line ++ 10 ∷ behind) more
    ∙ ap (λ r. front ++ r) (append_assoc line (10 ∷ behind) more)
    ∙ sym (append_assoc front line (10 ∷ (behind ++ more)))
    ∙ sym (append_assoc (front ++ line) (10 ∷ []) (behind ++ more))

-- an error of the first line of the bytes that are left
pub kept-line : (m : Measures) (first so_far : ReaderProgress) (bytes front line behind rest a b : List ℕ) (e : RowError) → rest ≡ line ++ 10 ∷ behind → SaysAsFrom m first bytes so_far (front ++ rest) → IsKeptOf (Some e) m so_far ((front ++ line) ++ 10 ∷ []) so_far a → IsKeptOf (Some e) m first bytes first b
kept-line m first so_far bytes front line behind rest a b row_error.Memory is one two = tt
kept-line m first so_far bytes front line behind rest a b (row_error.At number why) is one two = record {
  all = λ more. one.all more ∙ ap (all_says m so_far) (parted front line behind rest more is) ∙ two.all (behind ++ more);
  fed = λ more. one.fed more ∙ ap (fed_says m so_far) (parted front line behind rest more is) ∙ two.fed (behind ++ more);
}

-- a line ends
pub line-ends : (m : Measures) (so_far next : ReaderProgress) (line : List ℕ) → HasNoFeed line → line_says m so_far (strip_carriage_return line) ≡ Ok next → SaysAsFrom m so_far (line ++ 10 ∷ []) next []
unfolding fed_says lines_say
line-ends m so_far next line plain said =
    let feeds = no-feeds line plain in
    record {
      all = λ more. ap (all_says m so_far) (append_assoc line (10 ∷ []) more) ∙ ap (lines_say m so_far) (lines-ended line more feeds) ∙ rw said refl;
      fed = λ more. ap (fed_says m so_far) (append_assoc line (10 ∷ []) more) ∙ rw (ended-next line more feeds, begun-next line more, said) refl;
    }

pub line-fault : (m : Measures) (so_far : ReaderProgress) (line : List ℕ) (fault : ℕ × RowWhy) → HasNoFeed line → line_says m so_far (strip_carriage_return line) ≡ Err fault → HasFault m so_far (line ++ 10 ∷ []) fault
unfolding fed_says lines_say
line-fault m so_far line fault plain said =
    let feeds = no-feeds line plain in
    record {
      all = λ more. ap (all_says m so_far) (append_assoc line (10 ∷ []) more) ∙ ap (lines_say m so_far) (lines-ended line more feeds) ∙ rw said refl;
      fed = λ more. ap (fed_says m so_far) (append_assoc line (10 ∷ []) more) ∙ rw (ended-next line more feeds, said) refl;
    }

says-too-long : (m : Measures) (so_far : ReaderProgress) (line : List ℕ) → 1000 < length line → line_says m so_far line ≡ Err (so_far.number + 1, TooLong)
unfolding record_says
says-too-long m so_far [] h = absurd (omega arith)
says-too-long m so_far (b ∷ line) h = rw (is-above 1000 (length (b ∷ line)) h) refl

-- a line that ends with an error
pub line-stops : (m : Measures) (so_far : ReaderProgress) (line rest : List ℕ) (e : RowError) → HasNoFeed line → Fails (row_fault_of e) (line_says m so_far (strip_carriage_return line)) → IsKeptOf (Some e) m so_far (line ++ 10 ∷ []) so_far rest
line-stops m so_far line rest row_error.Memory plain h = tt
line-stops m so_far line rest (row_error.At number why) plain h = line-fault m so_far line (number, why) plain h

-- a line that ended, as its taking in answered
pub ended-says : (m : Measures) (so_far next : ReaderProgress) (line text : List ℕ) (result : Result (Unit {0}) RowError) → HasNoFeed line → text ≡ strip_carriage_return line → Gives row_fault_of (λ _. next) result (line_says m so_far text) → OnOk result (SaysAsFrom m so_far (line ++ 10 ∷ []) next [])
ended-says m so_far next line text (Ok done) plain is h = line-ends m so_far next line plain (ap (line_says m so_far) (sym is) ∙ h)
ended-says m so_far next line text (Err e) plain is h = tt

pub ended-stops : (m : Measures) (so_far next : ReaderProgress) (line text : List ℕ) (result : Result (Unit {0}) RowError) → HasNoFeed line → text ≡ strip_carriage_return line → Gives row_fault_of (λ _. next) result (line_says m so_far text) → IfErr result (λ e. IsKeptOf (Some e) m so_far (line ++ 10 ∷ []) so_far line)
ended-stops m so_far next line text (Ok done) plain is h = tt
ended-stops m so_far next line text (Err e) plain is h = line-stops m so_far line line e plain (subst (λ (t : List ℕ). Fails (row_fault_of e) (line_says m so_far t)) is h)

tail-all : (m : Measures) (so_far : ReaderProgress) (whole rest : List ℕ) → NoFeeds whole → 1000 < length (strip_carriage_return whole) → all_says m so_far (whole ++ 10 ∷ rest) ≡ Err (so_far.number + 1, TooLong)
unfolding lines_say
tail-all m so_far whole rest none above = ap (lines_say m so_far) (lines-ended whole rest none) ∙ rw (says-too-long m so_far (strip_carriage_return whole) above) refl

tail-fed : (m : Measures) (so_far : ReaderProgress) (whole rest : List ℕ) → NoFeeds whole → 1000 < length (strip_carriage_return whole) → fed_says m so_far (whole ++ 10 ∷ rest) ≡ Err (so_far.number + 1, TooLong)
unfolding fed_says lines_say
tail-fed m so_far whole rest none above = rw (ended-next whole rest none, says-too-long m so_far (strip_carriage_return whole) above) refl

open-all : (m : Measures) (so_far : ReaderProgress) (whole : List ℕ) → 1000 < length whole → NoFeeds whole → all_says m so_far whole ≡ Err (so_far.number + 1, TooLong)
unfolding lines_say
open-all m so_far [] above none = absurd (omega arith)
open-all m so_far (b ∷ whole) above none = ap (lines_say m so_far) (lines-open b whole none) ∙ rw (says-too-long m so_far (b ∷ whole) above) refl

open-fed : (m : Measures) (so_far : ReaderProgress) (whole : List ℕ) → is_too_long whole ≡ true → NoFeeds whole → fed_says m so_far whole ≡ Err (so_far.number + 1, TooLong)
unfolding fed_says lines_say
open-fed m so_far whole above none = rw (ended-open whole (no-feed whole none), begun-open whole (no-feed whole none), above) refl

regrouped : (line more front rest : List ℕ) → more ≡ front ++ 10 ∷ rest → line ++ more ≡ (line ++ front) ++ 10 ∷ rest
regrouped line more front rest is = ap (λ r. line ++ r) is ∙ sym (append_assoc line front (10 ∷ rest))

-- a line that has begun and is too long
pub begun-too-long : (m : Measures) (so_far : ReaderProgress) (line : List ℕ) → HasNoFeed line → is_too_long line ≡ true → HasFault m so_far line (so_far.number + 1, TooLong)
begun-too-long m so_far line plain long =
    let feeds = no-feeds line plain in
    record {
      all = λ more. elim (at-feed more) [
        | inl none ↦ open-all m so_far (line ++ more) (long-open line more long) (no-feeds-both line more feeds none)
        | inr found ↦ ap (all_says m so_far) (regrouped line more found.0 found.1 found.3) ∙ tail-all m so_far (line ++ found.0) found.1 (no-feeds-both line found.0 feeds found.2) (long-more line found.0 long)
      ];
      fed = λ more. elim (at-feed more) [
        | inl none ↦ open-fed m so_far (line ++ more) (is-above 1000 _ (long-more line more long)) (no-feeds-both line more feeds none)
        | inr found ↦ ap (fed_says m so_far) (regrouped line more found.0 found.1 found.3) ∙ tail-fed m so_far (line ++ found.0) found.1 (no-feeds-both line found.0 feeds found.2) (long-more line found.0 long)
      ];
    }

-- an error of a line that goes on
pub grown-stops : (m : Measures) (so_far : ReaderProgress) (line rest : List ℕ) (e : RowError) → HasNoFeed line → StopsLong e so_far.number line → IsKeptOf (Some e) m so_far line so_far rest
grown-stops m so_far line rest row_error.Memory plain h = tt
grown-stops m so_far line rest (row_error.At number why) plain h = rw (h.0, h.1) (begun-too-long m so_far line plain h.2)

-- a line without a line feed, and bytes behind it
pub both-plain : (a b : List ℕ) → HasNoFeed a → HasNoFeed b → HasNoFeed (a ++ b)
both-plain a b one two = no-feed (a ++ b) (no-feeds-both a b (no-feeds a one) (no-feeds b two))

-- a line that has begun and isn't too long
pub begun-says : (m : Measures) (so_far : ReaderProgress) (line : List ℕ) → HasNoFeed line → is_too_long line ≡ false → fed_says m so_far line ≡ Ok tt
unfolding fed_says lines_say
begun-says m so_far line plain short = rw (ended-open line plain, begun-open line plain, short) refl

-- the last line, which has no end
pub last-says : (m : Measures) (so_far : ReaderProgress) (line : List ℕ) → HasNoFeed line → all_says m so_far line ≡ line_says m so_far line
unfolding lines_say
last-says m so_far [] plain = refl
last-says m so_far (b ∷ line) plain = ap (lines_say m so_far) (lines-open b line (no-feeds (b ∷ line) plain)) ∙ one (line_says m so_far (b ∷ line))
  where
    one : (read : Result ReaderProgress (ℕ × RowWhy)) → (read >>= λ next. Ok next) ≡ read
    one (Ok next) = refl
    one (Err fault) = refl

-- ---- a reader

kept-none : (r : ReaderView) (first : ReaderProgress) (bytes : List ℕ) → r.error ≡ None → IsKeptOf r.error r.measures first bytes r.so_far r.begun → SaysAsFrom r.measures first bytes r.so_far r.begun
kept-none r first bytes none kept = subst (λ e. IsKeptOf e r.measures first bytes r.so_far r.begun) none kept

-- a piece without a fault
pub feed-fine : (r : ReaderView) (layout : Layout) (bytes piece : List ℕ) (next : ReaderProgress) (end : List ℕ) → r.error ≡ None → HasRead r layout bytes → SaysAsFrom r.measures r.so_far (r.begun ++ piece) next end
    → HasNoFeed end → is_too_long end ≡ false → fed_of layout (bytes ++ piece) ≡ Ok tt
feed-fine r layout bytes piece next end none read says plain short =
    let all = says-on r.measures (no_records layout) r.so_far next bytes r.begun piece end (kept-none r (no_records layout) bytes none read.kept) says in
    subst (λ m. fed_says m (no_records layout) (bytes ++ piece) ≡ Ok tt) read.measures
    (ap (fed_says r.measures (no_records layout)) (sym (append-nil (bytes ++ piece))) ∙ all.fed [] ∙ ap (fed_says r.measures next) (append-nil end) ∙ begun-says r.measures next end plain short)

pub feed-stops : (r : ReaderView) (layout : Layout) (bytes piece : List ℕ) (e : RowError) → r.error ≡ None → HasRead r layout bytes → IsKeptOf (Some e) r.measures r.so_far (r.begun ++ piece) r.so_far r.begun
    → IsKeptOf (Some e) r.measures (no_records layout) (bytes ++ piece) r.so_far r.begun
feed-stops r layout bytes piece e none read stops = kept-on r.measures (no_records layout) r.so_far bytes r.begun piece e (kept-none r (no_records layout) bytes none read.kept) stops

pub kept-fails : (r : ReaderView) (layout : Layout) (bytes : List ℕ) (e : RowError) (so_far : ReaderProgress) (rest : List ℕ) → r.measures ≡ measures_of layout → IsKeptOf (Some e) r.measures (no_records layout) bytes so_far rest → Fails (row_fault_of e) (fed_of layout bytes)
kept-fails r layout bytes row_error.Memory so_far rest same kept = tt
kept-fails r layout bytes (row_error.At number why) so_far rest same kept =
    subst (λ m. fed_says m (no_records layout) bytes ≡ Err (number, why)) same (ap (fed_says r.measures (no_records layout)) (sym (append-nil bytes)) ∙ kept.fed [])

pub all-fails : (r : ReaderView) (layout : Layout) (bytes : List ℕ) (e : RowError) → r.measures ≡ measures_of layout → IsKeptOf (Some e) r.measures (no_records layout) bytes r.so_far r.begun → Fails (row_fault_of e) (records_of layout bytes)
unfolding records_of
all-fails r layout bytes row_error.Memory same kept = tt
all-fails r layout bytes (row_error.At number why) same kept =
    let all : all_says (measures_of layout) (no_records layout) bytes ≡ Err (number, why) =
    subst (λ m. all_says m (no_records layout) bytes ≡ Err (number, why)) same (ap (all_says r.measures (no_records layout)) (sym (append-nil bytes)) ∙ kept.all []) in
    rw all refl

-- what all bytes say is what the rest of them says after the records so far
pub all-read : (r : ReaderView) (layout : Layout) (bytes : List ℕ) → r.error ≡ None → HasRead r layout bytes → HasNoFeed r.begun → records_of layout bytes ≡ records_behind r.measures r.so_far r.begun
unfolding records_of records_behind
all-read r layout bytes none read plain =
    let says = kept-none r (no_records layout) bytes none read.kept in
    ap (λ m. all_says m (no_records layout) bytes >>= closed_records) (sym read.measures)
    ∙ ap (λ whole. all_says r.measures (no_records layout) whole >>= closed_records) (sym (append-nil bytes))
    ∙ ap (λ said. said >>= closed_records) (says.all [])
    ∙ ap (λ rest. all_says r.measures r.so_far rest >>= closed_records) (append-nil r.begun)
    ∙ ap (λ said. said >>= closed_records) (last-says r.measures r.so_far r.begun plain)

-- what an error says, said in other words
pub said-so : {X : Type 0} (r : Result X RowError) (P Q : RowError → Type 0) → ((e : RowError) → P e → Q e) → IfErr r P → IfErr r Q
said-so (Ok x) P Q turn h = tt
said-so (Err e) P Q turn h = turn e h
