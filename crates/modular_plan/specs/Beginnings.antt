-- What is made once some first codes are chosen, and what is left to be planned (own).
use Rattle.std.specs.Prelude.{◌≡◌, List, ◌++◌, ℕ, map}
use Rattle.sdc_base.specs.Cubes.{choices}
use Rattle.sdc_base.specs.Subtables.{subtable_at}
use Rattle.sdc_base.specs.declared.cell.Cell.{Cell}
use Rattle.sdc_base.specs.declared.cube.Subtable.{Subtable}
use Rattle.sdc_base.specs.declared.trail.PlanStep.{PlanStep}
use Rattle.linked_tables.specs.BookViews.{BookView}
use Rattle.modular_plan.specs.Plans.{AreMarked}

-- the subtables of table t whose parents begin so and go on with one code of each list
abbrev pub subtables_below : ℕ → List ℕ → List (List ℕ) → List Subtable
subtables_below t parents lists = map (λ rest. subtable_at t (parents ++ rest)) (choices lists)

-- the steps are the first of these
abbrev pub Begins : List PlanStep → List PlanStep → Type 0
Begins steps all = (later : List PlanStep) × (all ≡ steps ++ later)

-- exactly the primary cells and the corners of some first of these steps are marked as hidden
abbrev pub AreMarkedInPart : BookView → List Cell → List PlanStep → Type 0
AreMarkedInPart book cells all = (steps : List PlanStep) × Begins steps all × AreMarked book cells steps
