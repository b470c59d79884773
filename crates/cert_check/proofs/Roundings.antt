-- Values that have no fault are a rounding.
use Rattle.std.proofs.Common.{◌≡◌, ℕ, zero, suc, ◌+◌, ◌<◌, ◌&&◌, true, false, List, [], ◌∷◌, length, map, slice_get, All, None, Some, Result, Ok, Err, ℤ, pos, ◌+ℤ◌, ◌-ℤ◌, ◌<ℤ◌, ◌≤ℤ◌, int_lt, arith, refl, ap, sym, ◌∙◌, subst, if◌then◌else◌}
use Rattle.std.specs.Ordering.{int_eq}
use Rattle.std.specs.Prelude.{int_div}
use Rattle.std.proofs.lemmas.List.{length-map}
use Rattle.std.specs.Int.RustNames.{int_rem}
use Rattle.std.proofs.lemmas.Int.{ints, quot-rem}
use Rattle.std.proofs.lemmas.Bool.Decides.{Decides-int_eq}
use Rattle.std.proofs.lemmas.List.Elements.{All-nil, All-cons}
use Rattle.sdc_base.specs.Steps.{map_fault}
use Rattle.sdc_base.proofs.StepLemmas.{bind_ok}
use Rattle.sdc_base.specs.Answers.{Fails}
use Rattle.sdc_base.specs.declared.cell.Cell.{Cell}
use Rattle.sdc_base.specs.declared.relation.Relation.{Relation}
use Rattle.sdc_base.specs.declared.system.System.{System}
use Rattle.sdc_base.specs.Systems.{Numbers, form, HoldOn, number_at}
use Rattle.sdc_base.specs.Roundings.{IsAdjacent, IsRounding}
use Rattle.linked_tables.specs.declared.mark.Mark.{Mark}
use Rattle.linked_tables.specs.BookViews.{BookView}
use Rattle.linked_tables.specs.BookCells.{cells as cells_in}
use Rattle.release_writer.specs.ReleaseReading.{LinePlace, rounded_read}
use Rattle.release_writer.specs.ReadingLaws.{AreTexts, IsReleased}
use Rattle.release_writer.specs.Sheets.{release_fault_of as line_of}
use Rattle.release_writer.specs.declared.release_fault.ReleaseFault.{ReleaseFault}
use Rattle.release_writer.specs.declared.release_fault.ReleaseFault.TheVariants as release
use Rattle.release_writer.proofs.Rounded.{rounded_have_texts}
use Rattle.worlds.specs.WorldFaults.{refuse_at}
use Rattle.worlds.proofs.TrueTests.{and_true}
use Rattle.worlds.proofs.WorldLaws.{none_refused}
use Rattle.worlds.proofs.ProtectLaws.{start}
use Rattle.cert_check.specs.declared.faults.CheckFault.{CheckFault}
use Rattle.cert_check.specs.declared.faults.CheckFault.TheVariants as fault
use Rattle.cert_check.specs.FirstFault.{check_fault_of}
use Rattle.cert_check.specs.RoundedRelease.{is_adjacent, first_unrounded, first_broken, values_fault, at_line, fault_for}

-- ---- what is read

pub read_ok : (r : Result (List ℤ) LinePlace) (values : List ℤ) → map_fault at_line r ≡ Ok values → r ≡ Ok values
read_ok (Ok x) values is = let same : x ≡ values = cc in ap Ok same
read_ok (Err e) values is = absurd cc

pub read_stops : (e : ReleaseFault) (made : CheckFault) (meant : Result (List ℤ) LinePlace) → made ≡ fault_for e → Fails (line_of e) meant → Fails (check_fault_of made) (map_fault at_line meant)
read_stops (release.At table line) made meant is told = rw (is, told) refl
read_stops release.Memory made meant is told = rw is tt

pub read_goes : (values : List ℤ) (meant : Result (List ℤ) LinePlace) → meant ≡ Ok values → map_fault at_line meant ≡ Ok values
read_goes values meant is = rw is refl

pub record HaveTexts (book : BookView) (names : List (List (List ℕ))) (decimals : ℕ) (files : List (List ℕ)) (numbers : List ℤ) : Type 0 where
  pub each : length numbers ≡ length book.marks
  pub released : IsReleased numbers
  pub texts : AreTexts book decimals (slice_get numbers) book.tables names files

pub have_texts : (book : BookView) (names : List (List (List ℕ))) (decimals : ℕ) (files : List (List ℕ)) (numbers : List ℤ) → length book.marks ≡ length (cells_in book) → length names ≡ length book.tables → length files ≡ length book.tables → rounded_read book names decimals files ≡ Ok numbers → HaveTexts book names decimals files numbers
have_texts book names decimals files numbers each named written read =
    let told = rounded_have_texts book names decimals files numbers each named written read in
    record { each = told.0; released = told.1; texts = told.2 }

pub from_zero : (numbers : List ℤ) → IsReleased numbers → All (λ number. pos 0 ≤ℤ number) numbers
from_zero [] released = All-nil (λ (number : ℤ). pos 0 ≤ℤ number)
from_zero (number ∷ numbers) released =
    let is : number ≡ pos released.0.0 = released.0.1 in
    All-cons (λ (one : ℤ). pos 0 ≤ℤ one) number numbers (omega (arith, ints, is)) (from_zero numbers released.1)

pub truths_each : (marks : List Mark) (cells : List Cell) → map (λ mark. mark.facts.truth) marks ≡ map (λ cell. cell.truth) cells → length marks ≡ length cells
truths_each marks cells same =
    sym (length-map marks (λ (mark : Mark). mark.facts.truth)) ∙ ap (λ (l : List ℤ). length l) same ∙ length-map cells (λ (cell : Cell). cell.truth)

-- ---- adjacent values

less : (x y : ℤ) → int_lt x y ≡ true → x <ℤ y
less x y is = grind (arith, ints, is)

pub adjacent : (base truth value : ℤ) → is_adjacent base truth value ≡ true → IsAdjacent base truth value
adjacent base truth value is =
    let a = and_true (int_eq (int_rem value base) (pos 0)) (int_lt (truth -ℤ base) value && int_lt value (truth +ℤ base)) is in
    let b = and_true (int_lt (truth -ℤ base) value) (int_lt value (truth +ℤ base)) a.1 in
    let none : int_rem value base ≡ pos 0 = (Decides-int_eq (int_rem value base) (pos 0)).0 a.0 in
    record {
      multiple = (int_div value base, omega (arith, ints, quot-rem value base, none));
      not_below = less (truth -ℤ base) value b.0;
      not_above = less value (truth +ℤ base) b.1;
    }

adjacent_from : (base : ℤ) (numbers : Numbers) (number : ℕ) (cell : Cell) (cells : List Cell) (k : ℕ) → k < length (cell ∷ cells) → IsAdjacent base cell.truth (numbers number) → ((i : ℕ) → i < length cells → IsAdjacent base (number_at (map (λ (one : Cell). one.truth) cells) i) (numbers (number + 1 + i))) → IsAdjacent base (number_at (map (λ (one : Cell). one.truth) (cell ∷ cells)) k) (numbers (number + k))
adjacent_from base numbers number cell cells zero within here later = let same : number + 0 ≡ number = omega arith in subst (λ n. IsAdjacent base cell.truth (numbers n)) (sym same) here
adjacent_from base numbers number cell cells (suc k) within here later = let same : number + suc k ≡ number + 1 + k = omega arith in subst (λ n. IsAdjacent base (number_at (map (λ (one : Cell). one.truth) cells) k) (numbers n)) (sym same) (later k (omega (arith, within)))

all_adjacent : (base : ℤ) (numbers : Numbers) (number : ℕ) (cells : List Cell) → first_unrounded base numbers number cells ≡ None → (k : ℕ) → k < length cells → IsAdjacent base (number_at (map (λ cell. cell.truth) cells) k) (numbers (number + k))
all_adjacent base numbers number [] none k within = absurd (omega (arith, within))
all_adjacent base numbers number (cell ∷ cells) none k within =
    elim (is_adjacent base cell.truth (numbers number)) as (λ b. is_adjacent base cell.truth (numbers number) ≡ b → (if b then first_unrounded base numbers (number + 1) cells else Some number) ≡ None → IsAdjacent base (number_at (map (λ (one : Cell). one.truth) (cell ∷ cells)) k) (numbers (number + k))) [
      | true ↦ λ is later. adjacent_from base numbers number cell cells k within (adjacent base cell.truth (numbers number) is) (all_adjacent base numbers (number + 1) cells later)
      | false ↦ λ is bad. absurd cc
    ] refl none

-- ---- relations

all_hold : (numbers : Numbers) (number : ℕ) (relations : List Relation) → first_broken numbers number relations ≡ None → HoldOn numbers relations
all_hold numbers number [] none = All-nil (λ (r : Relation). form numbers r ≡ pos 0)
all_hold numbers number (r ∷ relations) none =
    elim (int_eq (form numbers r) (pos 0)) as (λ b. int_eq (form numbers r) (pos 0) ≡ b → (if b then first_broken numbers (number + 1) relations else Some number) ≡ None → HoldOn numbers (r ∷ relations)) [
      | true ↦ λ is later. All-cons (λ (one : Relation). form numbers one ≡ pos 0) r relations ((Decides-int_eq (form numbers r) (pos 0)).0 is) (all_hold numbers (number + 1) relations later)
      | false ↦ λ is bad. absurd cc
    ] refl none

pub is_rounding : (system : System) (cells : List Cell) (base : ℤ) (values : List ℤ) → length cells ≡ system.cells → length values ≡ system.cells → values_fault system cells base values ≡ Ok tt → IsRounding system (map (λ cell. cell.truth) cells) base values
is_rounding system cells base values each_cell each ok =
    let broken : Result (Unit {0}) CheckFault = refuse_at fault.Relation (first_broken (number_at values) 0 system.relations) in
    let parts = bind_ok (refuse_at fault.Rounded (first_unrounded base (number_at values) 0 cells)) (λ _. broken) tt ok in
    record {
      each = each;
      adjacent = λ k within. start (λ n. IsAdjacent base (number_at (map (λ (cell : Cell). cell.truth) cells) k) (number_at values n)) k
          (all_adjacent base (number_at values) 0 cells (none_refused fault.Rounded (first_unrounded base (number_at values) 0 cells) parts.1) k (omega (arith, within, each_cell)));
      hold = all_hold (number_at values) 0 system.relations (none_refused fault.Relation (first_broken (number_at values) 0 system.relations) parts.2);
    }
