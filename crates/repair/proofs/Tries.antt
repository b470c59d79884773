-- Free cells tried as shown, one after another.
use Rattle.std.proofs.Common.{◌≡◌, ℕ, zero, suc, ◌+◌, ◌<◌, ◌&&◌, not, Bool, true, false, List, [], ◌∷◌, length, filter, slice_get, None, Some, refl, ap, sym, ◌∙◌, arith, if◌then◌else◌}
use Rattle.std.specs.List.{range_with_len}
use Rattle.std.specs.Option.{option_map_or}
use Rattle.std.proofs.lemmas.Option.{slice_get_within}
use Rattle.std.proofs.lemmas.List.Elements.{All-weaker}
use Rattle.sdc_base.specs.Kinds.{is_primary, is_free}
use Rattle.sdc_base.specs.declared.cell.Cell.{Cell}
use Rattle.sdc_base.specs.declared.cell.Kind.{Kind}
use Rattle.sdc_base.specs.declared.cell.Kind.TheVariants.{Primary, Free, Fixed}
use Rattle.sdc_base.specs.declared.side.Side.{Side}
use Rattle.sdc_base.specs.declared.side.Side.TheVariants.{Above, Below}
use Rattle.sdc_base.specs.HiddenSets.{is_hidden, hide, show, IsPermitted}
use Rattle.sdc_base.specs.Worlds.{Protects}
use Rattle.worlds.specs.declared.refuted.Refuted.{Refuted}
use Rattle.worlds.proofs.TrueTests.{and_true, both_true}
use Rattle.worlds.proofs.ProtectLaws.{both_asked, by_side, start}
use Rattle.worlds.proofs.RefutationLaws.{no_world}
use Rattle.repair.specs.HidingOrder.{Case, IsOfKind, is_free_at, ProtectsAll}
use Rattle.repair.specs.Needs.{others_hidden, set_when_tried, IsNeed}
use Rattle.repair.specs.TriedCells.{is_open, IsNeedBelow}
use Rattle.repair.specs.CellTrials.{IsRefuted, IsTried}
use Rattle.repair.specs.Verdicts.{AreNeeds}
use Rattle.repair.proofs.Fewer.{refutation_fewer}
use Rattle.repair.proofs.Repairing.{free_is}
use Rattle.repair.proofs.TriedCells.{show_within}

-- ---- flags

-- showing a hidden cell and hiding it again
pub hidden_again : (xs : List Bool) (s : ℕ) → s < length xs → is_hidden xs s ≡ true → hide (show xs s) s ≡ xs
hidden_again [] s within is = absurd (omega (arith, within))
hidden_again (x ∷ xs) zero within is = ap (λ b. b ∷ xs) (sym is)
hidden_again (x ∷ xs) (suc s) within is = ap (λ (l : List Bool). x ∷ l) (hidden_again xs s (omega (arith, within)) is)

-- ---- a refuted cell isn't protected

pub protects_side : (c : Case) (flags : List Bool) (number : ℕ) (side : Side) → IsOfKind c.cells number Primary → ProtectsAll c flags → Protects c.system c.cells flags number side
protects_side c flags number side is all =
    let both = both_asked (λ (q : ℕ × Side). Protects c.system c.cells flags q.0 q.1) 0 c.cells all number is.cell is.found (ap is_primary is.is_kind) in
    by_side (λ s. Protects c.system c.cells flags number s) (start (λ n. Protects c.system c.cells flags n Above) number both.0) (start (λ n. Protects c.system c.cells flags n Below) number both.1) side

-- what is refuted doesn't hold
pub not_protecting : (c : Case) (flags : List Bool) (need : Refuted) → length c.cells ≡ c.system.cells → IsRefuted c flags need → ¬ ProtectsAll c flags
not_protecting c flags need one_each is all =
    let primary_cell : IsOfKind c.cells need.cell Primary = is.cell_primary in
    let inside : need.cell < c.system.cells = omega (arith, one_each, slice_get_within c.cells need.cell primary_cell.cell primary_cell.found) in
    no_world c.system c.cells flags need.cell need.side need.multipliers one_each inside is.refutes (protects_side c flags need.cell need.side is.cell_primary all)

-- ---- open cells

-- a free hidden cell is open
pub open_by : (cells : List Cell) (flags : List Bool) (n : ℕ) → IsOfKind cells n Free → is_hidden flags n ≡ true → is_open (is_free_at cells) flags n ≡ true
open_by cells flags n free hidden =
    both_true (is_hidden flags n) (is_free_at cells n) hidden (ap (λ o. option_map_or (λ (one : Cell). is_free one.kind) o false) free.found ∙ ap is_free free.is_kind)

-- an open cell is free and hidden
pub open_says : (cells : List Cell) (flags : List Bool) (n : ℕ) → is_open (is_free_at cells) flags n ≡ true → IsOfKind cells n Free × (is_hidden flags n ≡ true)
open_says cells flags n is_open_cell =
    let both = and_true (is_hidden flags n) (is_free_at cells n) is_open_cell in
    elim (slice_get cells n) as (λ o. slice_get cells n ≡ o → option_map_or (λ (one : Cell). is_free one.kind) o false ≡ true → IsOfKind cells n Free × (is_hidden flags n ≡ true)) [
      | Some cell ↦ λ found free. (record { cell = cell; found = found; is_kind = free_is cell.kind free }, both.0)
      | None ↦ λ none free. absurd cc
    ] refl both.1

-- an open cell is one of the cells
pub open_inside : (cells : List Cell) (flags : List Bool) (n : ℕ) → is_open (is_free_at cells) flags n ≡ true → n < length cells
open_inside cells flags n is_open_cell =
    let free : IsOfKind cells n Free = (open_says cells flags n is_open_cell).0 in
    slice_get_within cells n free.cell free.found

-- of a permitted set those that are hidden and aren't primary are open
kind_open : (kind : Kind) (hidden : Bool) → (kind ≡ Fixed → hidden ≡ false) → (hidden && not (is_primary kind)) ≡ (hidden && is_free kind)
kind_open Primary hidden fixed = refl
kind_open Free hidden fixed = refl
kind_open Fixed hidden fixed = let none : hidden ≡ false = fixed refl in rw none refl

others_from : (all : List Cell) (flags : List Bool) (number : ℕ) (cells : List Cell) → IsPermitted all flags → ((i : ℕ) → slice_get cells i ≡ slice_get all (number + i)) → others_hidden flags number cells ≡ filter (is_open (is_free_at all) flags) (range_with_len number (length cells))
others_from all flags number [] permitted at = refl
others_from all flags number (cell ∷ cells) permitted at =
    let own : number + 0 ≡ number = omega arith in
    let here : slice_get all number ≡ Some cell = ap (λ k. slice_get all k) (sym own) ∙ sym (at 0) in
    let free : is_free_at all number ≡ is_free cell.kind = ap (λ o. option_map_or (λ (one : Cell). is_free one.kind) o false) here in
    let test : (is_hidden flags number && not (is_primary cell.kind)) ≡ is_open (is_free_at all) flags number =
    kind_open cell.kind (is_hidden flags number) (permitted.fixed_shown number cell here) ∙ ap (λ b. is_hidden flags number && b) (sym free) in
    let rest : others_hidden flags (number + 1) cells ≡ filter (is_open (is_free_at all) flags) (range_with_len (number + 1) (length cells)) =
    others_from all flags (number + 1) cells permitted (λ i. let next : number + suc i ≡ number + 1 + i = omega arith in at (suc i) ∙ ap (λ k. slice_get all k) next) in
    ap (λ b. if b then number ∷ others_hidden flags (number + 1) cells else others_hidden flags (number + 1) cells) test
    ∙ ap (λ (l : List ℕ). if is_open (is_free_at all) flags number then number ∷ l else l) rest

-- ---- at the end

pub all_needed : (c : Case) (larger flags : List Bool) (needs : List Refuted) (shown : List ℕ) → IsPermitted c.cells flags → IsTried c larger (length c.cells) flags needs shown → AreNeeds c flags larger needs
all_needed c larger flags needs shown permitted is = record {
  each_needed = is.each_needed ∙ sym (others_from c.cells flags 0 c.cells permitted (λ i. let here : i ≡ 0 + i = omega arith in ap (λ k. slice_get c.cells k) here));
  are_needs = All-weaker (IsNeedBelow (λ (need : Refuted). need.subject) (IsRefuted c) flags larger (length c.cells)) (IsNeed c flags larger) (λ need own. record {
    cell_primary = own.refuted.cell_primary;
    refutes = refutation_fewer c.system c.cells (show flags need.subject) (set_when_tried flags larger need.subject) need.cell need.side need.multipliers (show_within flags larger need.subject is.within) own.refuted.refutes;
    refutes_larger = own.refuted.refutes;
    first = own.refuted.first;
    gives = own.refuted.gives;
  }) needs is.are_needs;
}
