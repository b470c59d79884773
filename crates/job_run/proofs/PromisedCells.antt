-- What protects the cells of a system protects them as they are settled, and the other way round.
use Rattle.std.proofs.Common.{◌≡◌, ℕ, zero, suc, ◌<◌, Bool, List, [], ◌∷◌, length, map, slice_get, All, Some, Option, arith, refl, ap, sym, subst, ◌∙◌, ℤ, pos}
use Rattle.std.proofs.lemmas.Int.{ints}
use Rattle.std.proofs.lemmas.List.{length-map}
use Rattle.std.proofs.lemmas.List.Elements.{All-nil, All-cons, All-head, All-tail}
use Rattle.std.proofs.lemmas.Option.{slice_get_within}
use Rattle.sdc_base.specs.Systems.{Numbers, HoldOn, form}
use Rattle.sdc_base.specs.Worlds.{IsWorld, Protects, Reaches}
use Rattle.sdc_base.specs.declared.cell.Cell.{Cell}
use Rattle.sdc_base.specs.declared.relation.Relation.{Relation}
use Rattle.sdc_base.specs.declared.side.Side.{Side}
use Rattle.sdc_base.specs.declared.side.Side.TheVariants.{Above, Below}
use Rattle.sdc_base.specs.declared.system.System.{System}
use Rattle.relations.specs.Holding.{sum_in}
use Rattle.apriori.specs.Settling.{SettledCell, view_of_cell}
use Rattle.job_inputs.specs.ClassifiedJobs.{SettledInputs}
use Rattle.job_inputs.specs.declared.inputs.Inputs.{Inputs}
use Rattle.job_run.specs.Promise.{AddUp, IsCompleteTable, IsWithinStatedBounds, ReachesLevel, StaysOpen}
use Rattle.job_run.specs.Roundings.{IsSystemIn}
use Rattle.job_run.proofs.SameSystem.{its-relations}
use Rattle.job_run.proofs.TotalSums.{Adds, sums-totals, totals-sums}

-- ---- cells

pub get-view : (cells : List Cell) (number : ℕ) (cell : Cell) → slice_get cells number ≡ Some cell → slice_get (map view_of_cell cells) number ≡ Some (view_of_cell cell)
get-view [] number cell at = absurd cc
get-view (one ∷ cells) zero cell at = let same : one ≡ cell = cc in ap (λ (c : Cell). Some (view_of_cell c)) same
get-view (one ∷ cells) (suc number) cell at = get-view cells number cell at

-- the cell that is settled so
pub record HasCell (cells : List Cell) (number : ℕ) (settled : SettledCell) : Type 0 where
  pub cell : Cell
  pub found : slice_get cells number ≡ Some cell
  pub view : view_of_cell cell ≡ settled

pub viewed : (cells : List Cell) (number : ℕ) (settled : SettledCell) → slice_get (map view_of_cell cells) number ≡ Some settled → HasCell cells number settled
viewed [] number settled at = absurd cc
viewed (one ∷ cells) zero settled at = let same : view_of_cell one ≡ settled = cc in record { cell = one; found = refl; view = same }
viewed (one ∷ cells) (suc number) settled at = let is = viewed cells number settled at in record { cell = is.cell; found = is.found; view = is.view }

-- the system and its cells are those of settled inputs, one for each
pub record IsOf (settled : SettledInputs) (system : System) (cells : List Cell) : Type 0 where
  pub system_is : IsSystemIn settled.inputs system
  pub cells_are : map view_of_cell cells ≡ settled.cells
  pub one_each : length cells ≡ system.cells

-- the entry at a place of a list
pub entry-in : {X : Type 0} (all : List X) (k : ℕ) → k < length all → (x : X) × (slice_get all k ≡ Some x)
entry-in [] k within = absurd (omega (arith, within))
entry-in (one ∷ all) zero within = (one, refl)
entry-in (one ∷ all) (suc k) within = entry-in all k (omega (arith, within))

pub as-many-settled : (settled : SettledInputs) (cells : List Cell) → map view_of_cell cells ≡ settled.cells → length settled.cells ≡ length cells
as-many-settled settled cells are = ap (λ (all : List SettledCell). length all) (sym are) ∙ length-map cells view_of_cell

pub settled-at : (settled : SettledInputs) (system : System) (cells : List Cell) (number : ℕ) (cell : Cell) → IsOf settled system cells → slice_get cells number ≡ Some cell → slice_get settled.cells number ≡ Some (view_of_cell cell)
settled-at settled system cells number cell is at = ap (λ (all : List SettledCell). slice_get all number) (sym is.cells_are) ∙ get-view cells number cell at

pub cell-at : (settled : SettledInputs) (system : System) (cells : List Cell) (number : ℕ) (one : SettledCell) → IsOf settled system cells → slice_get settled.cells number ≡ Some one → HasCell cells number one
cell-at settled system cells number one is at = viewed cells number one (ap (λ (all : List SettledCell). slice_get all number) is.cells_are ∙ at)

-- ---- sums

hold-adds : (numbers : Numbers) (relations : List Relation) → HoldOn numbers relations → All (Adds numbers) (map sum_in relations)
hold-adds numbers [] hold = All-nil (Adds numbers)
hold-adds numbers (r ∷ relations) hold =
    let here : form numbers r ≡ pos 0 = All-head (λ (one : Relation). form numbers one ≡ pos 0) r relations hold in
    let adds : Adds numbers (sum_in r) = omega (arith, ints, here) in
    All-cons (Adds numbers) (sum_in r) (map sum_in relations) adds (hold-adds numbers relations (All-tail (λ (one : Relation). form numbers one ≡ pos 0) r relations hold))

adds-hold : (numbers : Numbers) (relations : List Relation) → All (Adds numbers) (map sum_in relations) → HoldOn numbers relations
adds-hold numbers [] adds = All-nil (λ (one : Relation). form numbers one ≡ pos 0)
adds-hold numbers (r ∷ relations) adds =
    let here : Adds numbers (sum_in r) = All-head (Adds numbers) (sum_in r) (map sum_in relations) adds in
    let holds : form numbers r ≡ pos 0 = omega (arith, ints, here) in
    All-cons (λ (one : Relation). form numbers one ≡ pos 0) r relations holds (adds-hold numbers relations (All-tail (Adds numbers) (sum_in r) (map sum_in relations) adds))

-- numbers on which the relations of the inputs hold add up
pub hold-add-up : (inputs : Inputs) (system : System) (numbers : Numbers) → IsSystemIn inputs system → HoldOn numbers system.relations → AddUp inputs numbers
hold-add-up inputs system numbers is hold =
    sums-totals inputs.records.trees inputs.described.bound.tables numbers (subst (All (Adds numbers)) (its-relations inputs system is) (hold-adds numbers system.relations hold))

-- and the other way round
pub add-up-hold : (inputs : Inputs) (system : System) (numbers : Numbers) → IsSystemIn inputs system → AddUp inputs numbers → HoldOn numbers system.relations
add-up-hold inputs system numbers is add =
    adds-hold numbers system.relations (subst (All (Adds numbers)) (sym (its-relations inputs system is)) (totals-sums inputs.records.trees inputs.described.bound.tables numbers add))

-- ---- complete tables

pub is-complete : (settled : SettledInputs) (system : System) (cells : List Cell) (flags : List Bool) (den : ℤ) (moves : Numbers) → IsOf settled system cells → IsWorld system cells flags den moves → IsCompleteTable settled flags den moves
is-complete settled system cells flags den moves is world = record {
  positive = world.positive;
  shown_stay = λ number one at shown. world.shown_stay number (omega (arith, slice_get_within settled.cells number one at, as-many-settled settled cells is.cells_are, is.one_each)) shown;
  add_up = hold-add-up settled.inputs system moves is.system_is world.relations_hold;
  within_bounds = λ number one at. (
      let its = cell-at settled system cells number one is at in
      let bounds = world.bounds_hold number its.cell its.found in
      let within : IsWithinStatedBounds (view_of_cell its.cell) den (moves number) = record { at_least = bounds.from_low; at_most = bounds.to_high } in
      subst (λ (c : SettledCell). IsWithinStatedBounds c den (moves number)) its.view within);
}

pub is-world : (settled : SettledInputs) (system : System) (cells : List Cell) (flags : List Bool) (den : ℤ) (moves : Numbers) → IsOf settled system cells → IsCompleteTable settled flags den moves → IsWorld system cells flags den moves
is-world settled system cells flags den moves is table = record {
  positive = table.positive;
  shown_stay = λ number inside shown. (
      let found = entry-in cells number (omega (arith, inside, is.one_each)) in
      table.shown_stay number (view_of_cell found.0) (settled-at settled system cells number found.0 is found.1) shown);
  relations_hold = add-up-hold settled.inputs system moves is.system_is table.add_up;
  bounds_hold = λ number cell at. (
      let within = table.within_bounds number (view_of_cell cell) (settled-at settled system cells number cell is at) in
      record { from_low = within.at_least; to_high = within.at_most });
}

reaches-level : (side : Side) (cell : Cell) (den move : ℤ) → Reaches side cell den move → ReachesLevel side (view_of_cell cell) den move
reaches-level Above cell den move reaches = reaches
reaches-level Below cell den move reaches = reaches

level-reached : (side : Side) (cell : Cell) (den move : ℤ) → ReachesLevel side (view_of_cell cell) den move → Reaches side cell den move
level-reached Above cell den move off = off
level-reached Below cell den move off = off

pub some-same : {A : Type 0} {a b : A} → ◌≡◌ {A = Option A} (Some a) (Some b) → a ≡ b
some-same {A} {a} {b} is = let same : a ≡ b = cc in same

-- a cell that a hidden set protects to a side stays open there
pub stays-open : (settled : SettledInputs) (system : System) (cells : List Cell) (flags : List Bool) (number : ℕ) (one : SettledCell) (side : Side) → IsOf settled system cells → slice_get settled.cells number ≡ Some one
    → Protects system cells flags number side → StaysOpen settled flags number one side
stays-open settled system cells flags number one side is at protects =
    let den = protects.0 in
    let moves = protects.1 in
    let same : view_of_cell protects.2 ≡ one = some-same (sym (settled-at settled system cells number protects.2 is protects.4) ∙ at) in (
      den,
      moves,
      is-complete settled system cells flags den moves is protects.3,
      subst (λ (c : SettledCell). ReachesLevel side c den (moves number)) same (reaches-level side protects.2 den (moves number) protects.5),
    )

-- and the other way round
pub open-protects : (settled : SettledInputs) (system : System) (cells : List Cell) (flags : List Bool) (number : ℕ) (one : SettledCell) (side : Side) → IsOf settled system cells → slice_get settled.cells number ≡ Some one
    → StaysOpen settled flags number one side → Protects system cells flags number side
open-protects settled system cells flags number one side is at open_ =
    let its = cell-at settled system cells number one is at in
    let off : ReachesLevel side (view_of_cell its.cell) open_.0 (open_.1 number) = subst (λ (c : SettledCell). ReachesLevel side c open_.0 (open_.1 number)) (sym its.view) open_.3 in (
      open_.0,
      open_.1,
      its.cell,
      is-world settled system cells flags open_.0 open_.1 is open_.2,
      its.found,
      level-reached side its.cell open_.0 (open_.1 number) off,
    )
