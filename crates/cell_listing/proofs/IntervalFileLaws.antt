-- What is read of an interval file is its ranges, and the file of ranges is read as these.
use Rattle.std.proofs.Common.{◌≡◌, ℕ, suc, ◌+◌, ◌<◌, ◌==◌, ◌^◌, ◌||◌, inl, Bool, true, false, not, cond, if◌then◌else◌, List, [], ◌∷◌, ◌++◌, drop, length, map, Option, None, Some, Result, Ok, Err, IfOk, refl, ap, ap₂, sym, subst, ◌∙◌, arith, decimal, get_or}
use Rattle.std.specs.List.{AllByRecursion, after_first, before_first, list_any, position_or_len}
use Rattle.std.specs.Str.{bytes_eq}
use Rattle.std.proofs.lemmas.List.Folds.{list_any-append}
use Rattle.sdc_base.specs.Answers.{Gives}
use Rattle.sdc_base.specs.Steps.{or_fault, refuse}
use Rattle.sdc_base.proofs.StepLemmas.{bind_ok}
use Rattle.plain_text.specs.Stops.{why_of}
use Rattle.plain_text.specs.declared.stop.Stop.{Stop}
use Rattle.plain_text.specs.declared.stop.Stop.TheVariants as stop
use Rattle.cell_listing.proofs.Numerals.{decimal_apart}
use Rattle.cell_listing.proofs.Marks.{after_at, before_at, cut_again, equal_bytes, mark_in, next-drop, same_bytes}
use Rattle.sdc_base.specs.Lines.{is_line_feed}
use Rattle.cell_listing.specs.IntervalFiles.{file_read, has_heading, HasEnds, heading, is_comma, is_fraction, is_range, is_upper_end, IsIntervalFileOf, IsNoIntervalFile, range_in, range_line, range_lines, ranges_read}
use Rattle.cell_listing.specs.declared.cell_range.CellRange.{CellRange}
use Rattle.cell_listing.proofs.IntervalEnds.{and_parts, fraction_apart, fraction_good, fraction_is, split, upper_apart, upper_good, upper_is}
use Rattle.cell_listing.proofs.IntervalLines.{is_zero}

-- ---- what is read is so

refuse_fine : (number : ℕ) (wrong : Bool) (x : Unit {0}) → refuse number wrong ≡ Ok x → wrong ≡ false
refuse_fine number true x h = absurd cc
refuse_fine number false x h = refl

or_some : {A : Type 0} (number : ℕ) (o : Option A) (x : A) → or_fault number o ≡ Ok x → o ≡ Some x
or_some number None x h = absurd cc
or_some number (Some y) x h = cc

not_false : (b : Bool) → not b ≡ false → b ≡ true
not_false true h = refl
not_false false h = absurd cc

-- nothing stands behind a mark that isn't there
none_behind : (mark : ℕ) (text : List ℕ) → list_any (λ b. b == mark) text ≡ false → after_first (λ b. b == mark) text ≡ []
none_behind mark [] h = refl
none_behind mark (b ∷ text) h = elim (b == mark) as (λ t. (t || list_any (λ c. c == mark) text) ≡ false → drop (cond (not t) (1 + position_or_len (λ c. c == mark) text) 0 + 1) (b ∷ text) ≡ []) [
  | true ↦ λ g. absurd cc
  | false ↦ λ g. next-drop (position_or_len (λ c. c == mark) text) b text ∙ none_behind mark text g
] h

-- a comma stands before what is an upper end, and before what begins with a fraction
comma_before_high : (ends : List ℕ) → is_upper_end (after_first is_comma ends) ≡ true → list_any is_comma ends ≡ true
comma_before_high ends high =
    split (list_any is_comma ends) (list_any is_comma ends ≡ true) (λ some. some)
    (λ none. let bad : is_upper_end [] ≡ true = subst (λ (t : List ℕ). is_upper_end t ≡ true) (none_behind 44 ends none) high in absurd cc)

comma_before_low : (line : List ℕ) → is_fraction (before_first is_comma (after_first is_comma line)) ≡ true → list_any is_comma line ≡ true
comma_before_low line low =
    split (list_any is_comma line) (list_any is_comma line ≡ true) (λ some. some)
    (λ none. let bad : is_fraction [] ≡ true = subst (λ (t : List ℕ). is_fraction (before_first is_comma t) ≡ true) (none_behind 44 line none) low in absurd cc)

-- a range that its line says
pub record IsOfLine (cell : ℕ) (line : List ℕ) (range : CellRange) : Type 0 where
  pub number : range.cell ≡ cell
  pub ends : HasEnds range
  pub line_is : line ≡ range_line range

if_some : {A : Type 0} (test : Bool) (x y : A) → (if test then Some x else None) ≡ Some y → (test ≡ true) × (x ≡ y)
if_some true x y h = (refl, cc)
if_some false x y h = absurd cc

range_good : (cell : ℕ) (line : List ℕ) (range : CellRange) → range_in cell line ≡ Some range → IsOfLine cell line range
range_good cell line range h =
    let digits : List ℕ = before_first is_comma line in
    let ends : List ℕ = after_first is_comma line in
    let low : List ℕ = before_first is_comma ends in
    let high : List ℕ = after_first is_comma ends in
    let said : CellRange = record { cell = cell; low = low; high = high } in
    let found = if_some (is_range (decimal cell) digits low high) said range h in
    let own = and_parts (bytes_eq digits (decimal cell)) _ found.0 in
    let both = and_parts (is_fraction low) (is_upper_end high) own.1 in
    let first : line ≡ digits ++ 44 ∷ ends = cut_again 44 line (comma_before_low line both.0) in
    let second : ends ≡ low ++ 44 ∷ high = cut_again 44 ends (comma_before_high ends both.1) in
    subst (λ (one : CellRange). IsOfLine cell line one) found.1 (record {
      number = refl;
      ends = record { low = fraction_is low both.0; high = upper_is high both.1 };
      line_is = first ∙ ap₂ (λ (a b : List ℕ). a ++ 44 ∷ b) (equal_bytes digits (decimal cell) own.0) second;
    })

-- ranges that their lines say
pub record AreOfLines (hidden text : List ℕ) (ranges : List CellRange) : Type 0 where
  pub cells : map (λ (range : CellRange). range.cell) ranges ≡ hidden
  pub ends : AllByRecursion HasEnds ranges
  pub text_is : text ≡ range_lines ranges

empty : (text : List ℕ) → length text ≡ 0 → text ≡ []
empty [] none = refl
empty (b ∷ text) none = absurd (omega (arith, none))

pub ranges_good : (hidden text : List ℕ) (number : ℕ) (ranges : List CellRange) → ranges_read hidden text number ≡ Ok ranges → AreOfLines hidden text ranges
unfolding ranges_read
ranges_good [] text number ranges h =
    let over = bind_ok (refuse number (not (length text == 0))) (λ over. Ok []) ranges h in
    let none : text ≡ [] = empty text (is_zero (length text) (not_false (length text == 0) (refuse_fine number (not (length text == 0)) over.0 over.1))) in
    let same : [] ≡ ranges = (let got = over.2 in cc) in
    subst (λ (all : List CellRange). AreOfLines [] text all) same (record { cells = refl; ends = tt; text_is = none })
ranges_good (cell ∷ hidden) text number ranges h =
    let line : List ℕ = before_first is_line_feed text in
    let rest : List ℕ = after_first is_line_feed text in
    let ended = bind_ok (refuse number (not (list_any is_line_feed text))) _ ranges h in
    let feed : list_any is_line_feed text ≡ true = not_false (list_any is_line_feed text) (refuse_fine number (not (list_any is_line_feed text)) ended.0 ended.1) in
    let first = bind_ok (or_fault number (range_in cell line)) _ ranges ended.2 in
    let others = bind_ok (ranges_read hidden rest (number + 1)) _ ranges first.2 in
    let one = range_good cell line first.0 (or_some number (range_in cell line) first.0 first.1) in
    let more = ranges_good hidden rest (number + 1) others.0 others.1 in
    let same : first.0 ∷ others.0 ≡ ranges = (let got = others.2 in cc) in
    subst (λ (all : List CellRange). AreOfLines (cell ∷ hidden) text all) same (record {
      cells = ap₂ (λ (n : ℕ) (ns : List ℕ). n ∷ ns) one.number more.cells;
      ends = (one.ends, more.ends);
      text_is = cut_again 10 text feed ∙ ap₂ (λ (a b : List ℕ). a ++ 10 ∷ b) one.line_is more.text_is;
    })

pub file_good : (hidden text : List ℕ) (ranges : List CellRange) → file_read hidden text ≡ Ok ranges → IsIntervalFileOf hidden ranges text
unfolding file_read
file_good hidden text ranges h =
    let begun = bind_ok (refuse 1 (not (has_heading text))) _ ranges h in
    let headed : has_heading text ≡ true = not_false (has_heading text) (refuse_fine 1 (not (has_heading text)) begun.0 begun.1) in
    let parts = and_parts (list_any is_line_feed text) (bytes_eq (before_first is_line_feed text) heading) headed in
    let are = ranges_good hidden (after_first is_line_feed text) 2 ranges begun.2 in
    record {
      cells = are.cells;
      ends = are.ends;
      text_is = cut_again 10 text parts.0 ∙ ap₂ (λ (a b : List ℕ). a ++ 10 ∷ b) (equal_bytes (before_first is_line_feed text) heading parts.1) are.text_is;
    }

-- ---- what is so is read

-- each cell's number is one of 32 bits
abbrev pub AreShort : List ℕ → Type 0
AreShort cells = AllByRecursion (λ cell. cell < 2 ^ 32) cells

number_apart : (mark cell : ℕ) → mark < 48 → cell < 2 ^ 32 → list_any (λ b. b == mark) (decimal cell) ≡ false
number_apart mark cell low short = decimal_apart mark cell (omega (arith, short)) (inl low)

range_again : (range : CellRange) → HasEnds range → range.cell < 2 ^ 32 → range_in range.cell (range_line range) ≡ Some range
range_again range are short =
    let digits : List ℕ = decimal range.cell in
    let ends : List ℕ = range.low ++ 44 ∷ range.high in
    let own = number_apart 44 range.cell (omega arith) short in
    let low = fraction_apart 44 range.low (omega arith) are.low in
    rw (before_at 44 digits ends own, after_at 44 digits ends own, before_at 44 range.low range.high low, after_at 44 range.low range.high low, same_bytes digits, fraction_good range.low are.low, upper_good range.high are.high) refl

line_apart : (range : CellRange) → HasEnds range → range.cell < 2 ^ 32 → list_any (λ b. b == 10) (range_line range) ≡ false
line_apart range are short =
    list_any-append (λ b. b == 10) (decimal range.cell) (44 ∷ (range.low ++ 44 ∷ range.high))
    ∙ ap₂ (λ (a b : Bool). a || b) (number_apart 10 range.cell (omega arith) short)
    (list_any-append (λ b. b == 10) range.low (44 ∷ range.high)
    ∙ ap₂ (λ (a b : Bool). a || b) (fraction_apart 10 range.low (omega arith) are.low) (upper_apart 10 range.high (omega arith) refl are.high))

pub ranges_again : (ranges : List CellRange) (number : ℕ) → AllByRecursion HasEnds ranges → AreShort (map (λ (range : CellRange). range.cell) ranges) → ranges_read (map (λ (range : CellRange). range.cell) ranges) (range_lines ranges) number ≡ Ok ranges
unfolding ranges_read
ranges_again [] number are short = refl
ranges_again (range ∷ ranges) number are short =
    let line : List ℕ = range_line range in
    let rest : List ℕ = range_lines ranges in
    let apart = line_apart range are.0 short.0 in
    rw (mark_in 10 line rest, before_at 10 line rest apart, after_at 10 line rest apart, range_again range are.0 short.0, ranges_again ranges (number + 1) are.1 short.1) refl

file_of : (ranges : List CellRange) → AllByRecursion HasEnds ranges → AreShort (map (λ (range : CellRange). range.cell) ranges) → file_read (map (λ (range : CellRange). range.cell) ranges) (heading ++ 10 ∷ range_lines ranges) ≡ Ok ranges
unfolding file_read
file_of ranges are short = ranges_again ranges 2 are short

pub file_again : (hidden text : List ℕ) (ranges : List CellRange) → AreShort hidden → IsIntervalFileOf hidden ranges text → file_read hidden text ≡ Ok ranges
file_again hidden text ranges short it =
    ap₂ (λ (cells bytes : List ℕ). file_read cells bytes) (sym it.cells) it.text_is
    ∙ file_of ranges it.ends (subst (λ (cells : List ℕ). AreShort cells) (sym it.cells) short)

pub none_of : (hidden text : List ℕ) (number : ℕ) → AreShort hidden → file_read hidden text ≡ Err number → IsNoIntervalFile hidden text number
none_of hidden text number short is = record { first = is; none = λ ranges it. (let bad = sym is ∙ file_again hidden text ranges short it in absurd cc) }

pub short_by_place : (cells : List ℕ) → ((i : ℕ) → get_or cells i 0 < 2 ^ 32) → AreShort cells
short_by_place [] each = tt
short_by_place (cell ∷ cells) each = (each 0, short_by_place cells (λ i. each (suc i)))

-- ---- as a call answers

pub unheaded : (hidden text : List ℕ) → has_heading text ≡ false → file_read hidden text ≡ Err 1
unfolding file_read
unheaded hidden text bad = rw bad refl

pub headed : (hidden text : List ℕ) → has_heading text ≡ true → file_read hidden text ≡ ranges_read hidden (after_first is_line_feed text) 2
unfolding file_read
headed hidden text good = rw good refl

pub given_good : (hidden text : List ℕ) (answer : Result (List CellRange) (Stop ℕ)) → Gives why_of (λ ranges. ranges) answer (file_read hidden text) → IfOk answer (λ ranges. IsIntervalFileOf hidden ranges text)
given_good hidden text (Ok ranges) given = file_good hidden text ranges given
given_good hidden text (Err e) given = tt

pub given_none : (hidden text : List ℕ) (answer : Result (List CellRange) (Stop ℕ)) (line : ℕ) → AreShort hidden → Gives why_of (λ ranges. ranges) answer (file_read hidden text) → answer ≡ Err (stop.Fault line) → IsNoIntervalFile hidden text line
given_none hidden text (Ok ranges) line short given is = absurd cc
given_none hidden text (Err stop.Memory) line short given is = absurd cc
given_none hidden text (Err (stop.Fault why)) line short given is = (let same : why ≡ line = cc in none_of hidden text line short (given ∙ ap (λ (n : ℕ). Err n) same))
