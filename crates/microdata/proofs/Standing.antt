-- A fault that is found before all bytes are there stands, whatever follows.
use Rattle.std.proofs.Common.{◌≡◌, ℕ, zero, suc, ◌+◌, ◌≤◌, Bool, true, false, List, [], ◌∷◌, ◌++◌, length, Result, Ok, Err, refl, ap, sym, ◌∙◌, subst, arith, append_assoc, length-append, inl, inr}
use Rattle.std.specs.Str.Lines.{strip_carriage_return}
use Rattle.sdc_base.specs.Steps.{◌>>=◌, refuse}
use Rattle.sdc_base.proofs.StepLemmas.{bind_err}
use Rattle.plain_text.proofs.FirstLine.{NoFeeds}
use Rattle.microdata.specs.Feeding.{ended_lines, begun_line, is_too_long, fed_says, HasFault}
use Rattle.microdata.specs.Layouts.{measures_of}
use Rattle.microdata.specs.Laws.{FaultsStand}
use Rattle.microdata.specs.Microdata.{records_of}
use Rattle.microdata.specs.OneRecord.{line_says, lines_say, no_records}
use Rattle.microdata.specs.declared.faults.RowWhy.{RowWhy}
use Rattle.microdata.specs.declared.faults.RowWhy.TheVariants.{TooLong}
use Rattle.microdata.specs.declared.layout.Measures.{Measures}
use Rattle.microdata.specs.declared.record.ReaderProgress.{ReaderProgress}
use Rattle.microdata.proofs.FeedLines.{no-feed, at-feed, ended-next, begun-next, begun-open, ended-open}
use Rattle.microdata.proofs.Cuts.{line-ends, line-fault, fault-on, fault-more, begun-too-long}

fault-of-err : (a b : ℕ × RowWhy) → ◌≡◌ {A = Result (Unit {0}) (ℕ × RowWhy)} (Err a) (Err b) → a ≡ b
fault-of-err a b h = cc

-- bytes without a line feed
open-stands : (m : Measures) (so_far : ReaderProgress) (bytes : List ℕ) (fault : ℕ × RowWhy) → NoFeeds bytes → fed_says m so_far bytes ≡ Err fault → HasFault m so_far bytes fault
unfolding fed_says lines_say
open-stands m so_far bytes fault none said =
    let plain = no-feed bytes none in
    by (is_too_long bytes) refl (ap (λ lines. lines_say m so_far lines >>= λ all. refuse (all.number + 1, TooLong) (is_too_long bytes)) (sym (ended-open bytes plain)) ∙ ap (λ line. lines_say m so_far (ended_lines bytes) >>= λ all. refuse (all.number + 1, TooLong) (is_too_long line)) (sym (begun-open bytes plain)) ∙ said)
  where
    by : (b : Bool) → is_too_long bytes ≡ b → refuse (so_far.number + 1, TooLong) b ≡ Err fault → HasFault m so_far bytes fault
    by true is h = subst (HasFault m so_far bytes) (fault-of-err _ fault h) (begun-too-long m so_far bytes (no-feed bytes none) is)
    by false is h = cc

-- what a line that ends says, and then the rest
first-line : (m : Measures) (so_far : ReaderProgress) (line rest : List ℕ) → NoFeeds line → fed_says m so_far (line ++ 10 ∷ rest) ≡ (line_says m so_far (strip_carriage_return line) >>= λ next. fed_says m next rest)
unfolding fed_says lines_say
first-line m so_far line rest none = rw (ended-next line rest none, begun-next line rest) (regrouped (line_says m so_far (strip_carriage_return line)))
  where
    regrouped : (read : Result ReaderProgress (ℕ × RowWhy)) → ((read >>= λ next. lines_say m next (ended_lines rest)) >>= λ all. refuse (all.number + 1, TooLong) (is_too_long (begun_line rest))) ≡ (read >>= λ next. lines_say m next (ended_lines rest) >>= λ all. refuse (all.number + 1, TooLong) (is_too_long (begun_line rest)))
    regrouped (Ok next) = refl
    regrouped (Err fault) = refl

at-line : (m : Measures) (so_far : ReaderProgress) (bytes : List ℕ) (fault : ℕ × RowWhy) (line rest : List ℕ) → NoFeeds line → bytes ≡ line ++ 10 ∷ rest → fed_says m so_far bytes ≡ Err fault
    → ((next : ReaderProgress) → fed_says m next rest ≡ Err fault → HasFault m next rest fault) → HasFault m so_far bytes fault
at-line m so_far bytes fault line rest none is said later =
    let plain = no-feed line none in
    subst (λ whole. HasFault m so_far whole fault) (append_assoc line (10 ∷ []) rest ∙ sym is)
    (elim (bind_err (line_says m so_far (strip_carriage_return line)) (λ next. fed_says m next rest) fault (sym (first-line m so_far line rest none) ∙ sym (ap (fed_says m so_far) is) ∙ said)) [
      | inl here ↦ fault-more m so_far (line ++ 10 ∷ []) rest fault (line-fault m so_far line fault plain here)
      | inr next ↦ fault-on m so_far next.0 (line ++ 10 ∷ []) [] rest fault (line-ends m so_far next.0 line plain next.1) (later next.0 next.2)
    ])

stands : (n : ℕ) (m : Measures) (so_far : ReaderProgress) (bytes : List ℕ) (fault : ℕ × RowWhy) → length bytes ≤ n → fed_says m so_far bytes ≡ Err fault → HasFault m so_far bytes fault
stands zero m so_far bytes fault few said = elim (at-feed bytes) [
  | inl none ↦ open-stands m so_far bytes fault none said
  | inr found ↦ absurd (omega (arith, few, ap length found.3, length-append found.0 (10 ∷ found.1)))
]
stands (suc n) m so_far bytes fault few said =
    let later = λ (rest : List ℕ) (short : length rest ≤ n) (next : ReaderProgress) (h : fed_says m next rest ≡ Err fault). stands n m next rest fault short h in
    elim (at-feed bytes) [
      | inl none ↦ open-stands m so_far bytes fault none said
      | inr found ↦ at-line m so_far bytes fault found.0 found.1 found.2 found.3 said (later found.1 (omega (arith, few, ap length found.3, length-append found.0 (10 ∷ found.1))))
    ]

pub faults_stand : FaultsStand
unfolding records_of
faults_stand layout bytes more fault said =
    let both = stands (length bytes) (measures_of layout) (no_records layout) bytes fault (omega arith) said in
    (both.fed more, rw (both.all more) refl)
