-- A plan, step by step.
use Rattle.std.proofs.Common.{◌≡◌, ℕ, ◌<◌, ◌==◌, ◌||◌, ◌&&◌, Bool, true, false, not, if◌then◌else◌, List, [], ◌∷◌, ◌++◌, length, map, fold, slice_get, All, Option, None, Some, Result, Ok, Err, OnErr, refl, ap, sym, ◌∙◌, append_assoc}
use Rattle.std.specs.List.{list_any}
use Rattle.std.specs.Option.{option_map_or}
use Rattle.std.proofs.Math.Path.{fun_ext}
use Rattle.std.proofs.lemmas.List.{append-nil}
use Rattle.std.proofs.lemmas.List.Elements.{All-cons}
use Rattle.std.proofs.lemmas.List.Folds.{list_any-append}
use Rattle.std.proofs.lemmas.Option.{slice_get_within}
use Rattle.sdc_base.specs.Cubes.{bears, serve}
use Rattle.sdc_base.specs.CubeOrder.{least_of}
use Rattle.sdc_base.specs.Kinds.{is_primary_at}
use Rattle.sdc_base.specs.Trails.{hidden_after, is_corner, levels_at, step_of, with_step}
use Rattle.sdc_base.specs.declared.cell.Cell.{Cell}
use Rattle.sdc_base.specs.declared.cube.Corner.{Corner}
use Rattle.sdc_base.specs.declared.cube.Subtable.{Subtable}
use Rattle.sdc_base.specs.declared.facts.Levels.{Levels}
use Rattle.sdc_base.specs.declared.trail.PlanStep.{PlanStep}
use Rattle.sdc_base.proofs.GrowingLists.{all-nothing}
use Rattle.cost_rule.specs.declared.kind.CostKind.{CostKind}
use Rattle.linked_tables.specs.BookViews.{BookView}
use Rattle.linked_tables.specs.BookCells.{cell_at}
use Rattle.hypercube.specs.LeastCubes.{cubes_in, is_marked, least_cube, price_in}
use Rattle.modular_plan.specs.Beginnings.{Begins}
use Rattle.modular_plan.specs.Plans.{AreMarked, hidden_in, with_cell, with_subtable}

-- corners that serve are cells
pub serve-within : (cells : List Cell) (levels : Levels) (corners : List Corner) → serve cells levels corners ≡ true → All (λ (corner : Corner). corner.cell < length cells) corners
serve-within cells levels [] h = all-nothing (λ (corner : Corner). corner.cell < length cells)
serve-within cells levels (corner ∷ corners) h =
    let two = both (option_map_or (bears levels corner.plus) (slice_get cells corner.cell) false) (serve cells levels corners) h in
    All-cons (λ (one : Corner). one.cell < length cells) corner corners (here (slice_get cells corner.cell) refl two.0) (serve-within cells levels corners two.1)
  where
    both : (a b : Bool) → (a && b) ≡ true → (a ≡ true) × (b ≡ true)
    both true true h = (refl, refl)
    both true false h = cc
    both false b h = cc

    here : (met : Option Cell) → slice_get cells corner.cell ≡ met → option_map_or (bears levels corner.plus) met false ≡ true → corner.cell < length cells
    here None at h = absurd cc
    here (Some cell) at h = slice_get_within cells corner.cell cell at

-- the step of a cell, by what the marks say
pub cell-read : (book : BookView) (cells : List Cell) (cost : CostKind) (subtable : Subtable) (steps : List PlanStep) (cell : ℕ) → AreMarked book cells steps
    → with_step (is_marked book) subtable cell steps (least_cube book cells cost subtable cell (levels_at cells cell)) ≡ with_cell book cells cost subtable steps cell
cell-read book cells cost subtable steps cell marked =
    let same : is_marked book ≡ hidden_after cells steps = fun_ext marked in
    ap (λ (hidden : ℕ → Bool). with_step hidden subtable cell steps (least_of (cell_at book subtable.table) hidden (price_in book cells cost) cells (levels_at cells cell) (cubes_in book subtable cell))) same

corner-numbers : (corners : List Corner) (cell : ℕ) → list_any (λ one. one == cell) (map (λ (corner : Corner). corner.cell) corners) ≡ list_any (λ (corner : Corner). corner.cell == cell) corners
corner-numbers [] cell = refl
corner-numbers (corner ∷ corners) cell = ap (λ b. (corner.cell == cell) || b) (corner-numbers corners cell)

or-assoc : (a b c : Bool) → ((a || b) || c) ≡ (a || (b || (c || false)))
or-assoc true b c = refl
or-assoc false true c = refl
or-assoc false false true = refl
or-assoc false false false = refl

-- with a step more its corners are hidden too
pub marked-more : (old new : BookView) (cells : List Cell) (steps : List PlanStep) (subtable : Subtable) (cell : ℕ) (corners : List Corner) → AreMarked old cells steps → ((one : ℕ) → is_marked new one ≡ (is_marked old one || list_any (λ (corner : Corner). corner.cell == one) corners))
    → AreMarked new cells (steps ++ step_of subtable cell corners ∷ [])
marked-more old new cells steps subtable cell corners marked hides = λ one.
    hides one
    ∙ ap (λ b. b || list_any (λ (corner : Corner). corner.cell == one) corners) (marked one)
    ∙ ap (λ b. hidden_after cells steps one || b) (sym (corner-numbers corners one))
    ∙ or-assoc (is_primary_at cells one) (list_any (λ (step : PlanStep). is_corner step one) steps) (is_corner (step_of subtable cell corners) one)
    ∙ ap (λ b. is_primary_at cells one || b) (sym (list_any-append (λ (step : PlanStep). is_corner step one) steps (step_of subtable cell corners ∷ [])))

-- a cube that hides no new cell adds no step
pub step-stays : (hidden : ℕ → Bool) (subtable : Subtable) (cell : ℕ) (steps : List PlanStep) (corners : List Corner) → list_any (λ (corner : Corner). not (hidden corner.cell)) corners ≡ false → with_step hidden subtable cell steps (Some corners) ≡ steps
step-stays hidden subtable cell steps corners none = ap (λ b. if b then steps ++ step_of subtable cell corners ∷ [] else steps) none

-- and one that does adds one
pub step-goes : (hidden : ℕ → Bool) (subtable : Subtable) (cell : ℕ) (steps : List PlanStep) (corners : List Corner) → list_any (λ (corner : Corner). not (hidden corner.cell)) corners ≡ true → with_step hidden subtable cell steps (Some corners) ≡ steps ++ step_of subtable cell corners ∷ []
step-goes hidden subtable cell steps corners some = ap (λ b. if b then steps ++ step_of subtable cell corners ∷ [] else steps) some

pub on-err : {A F : Type 0} {P : Type 0} (r : Result A F) → P → OnErr r P
on-err (Ok x) p = tt
on-err (Err e) p = p

-- ---- the steps so far stay the first ones

pub begins-itself : (steps : List PlanStep) → Begins steps steps
begins-itself steps = ([], sym (append-nil steps))

begins-then : (a b c : List PlanStep) → Begins a b → Begins b c → Begins a c
begins-then a b c one two = (one.0 ++ two.0, two.1 ∙ ap (λ (x : List PlanStep). x ++ two.0) one.1 ∙ append_assoc a one.0 two.0)

with_step-begins : (hidden : ℕ → Bool) (subtable : Subtable) (cell : ℕ) (steps : List PlanStep) (found : Option (List Corner)) → Begins steps (with_step hidden subtable cell steps found)
with_step-begins hidden subtable cell steps None = begins-itself steps
with_step-begins hidden subtable cell steps (Some corners) =
    elim (list_any (λ (corner : Corner). not (hidden corner.cell)) corners) as (λ b. Begins steps (if b then steps ++ step_of subtable cell corners ∷ [] else steps)) [
      | true ↦ (step_of subtable cell corners ∷ [], refl)
      | false ↦ begins-itself steps
    ]

pub cells-begin : (book : BookView) (cells : List Cell) (cost : CostKind) (subtable : Subtable) (steps : List PlanStep) (among : List ℕ) → Begins steps (fold (with_cell book cells cost subtable) steps among)
cells-begin book cells cost subtable steps [] = begins-itself steps
cells-begin book cells cost subtable steps (cell ∷ among) =
    begins-then steps (with_cell book cells cost subtable steps cell) (fold (with_cell book cells cost subtable) (with_cell book cells cost subtable steps cell) among)
    (with_step-begins (hidden_after cells steps) subtable cell steps (least_of (cell_at book subtable.table) (hidden_after cells steps) (price_in book cells cost) cells (levels_at cells cell) (cubes_in book subtable cell)))
    (cells-begin book cells cost subtable (with_cell book cells cost subtable steps cell) among)

pub subtables-begin : (book : BookView) (cells : List Cell) (cost : CostKind) (steps : List PlanStep) (subtables : List Subtable) → Begins steps (fold (with_subtable book cells cost) steps subtables)
subtables-begin book cells cost steps [] = begins-itself steps
subtables-begin book cells cost steps (subtable ∷ subtables) =
    begins-then steps (with_subtable book cells cost steps subtable) (fold (with_subtable book cells cost) (with_subtable book cells cost steps subtable) subtables)
    (cells-begin book cells cost subtable steps (hidden_in book (hidden_after cells steps) subtable))
    (subtables-begin book cells cost (with_subtable book cells cost steps subtable) subtables)

-- the first of some are the first of more
pub begins-more : (book : BookView) (cells : List Cell) (cost : CostKind) (first steps : List PlanStep) (subtables : List Subtable) → Begins first steps → Begins first (fold (with_subtable book cells cost) steps subtables)
begins-more book cells cost first steps subtables is = begins-then first steps (fold (with_subtable book cells cost) steps subtables) is (subtables-begin book cells cost steps subtables)
