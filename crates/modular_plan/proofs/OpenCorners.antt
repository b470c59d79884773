-- The corners of whole steps may be hidden.
use Rattle.std.proofs.Common.{zero, suc, List, [], ◌∷◌, All, arith}
use Rattle.std.specs.List.{AllByRecursion}
use Rattle.sdc_base.specs.HiddenSets.{MayHide}
use Rattle.sdc_base.specs.Trails.{corners_of}
use Rattle.sdc_base.specs.declared.cell.Cell.{Cell}
use Rattle.sdc_base.specs.declared.trail.PlanStep.{PlanStep}
use Rattle.linked_tables.specs.BookViews.{BookView}
use Rattle.hypercube.proofs.AllOf.{all-flat, all-more}
use Rattle.modular_plan.specs.StepLaws.{IsWholeStep}

by-place : {X : Type 0} (P : X → Type 0) (xs : List X) → AllByRecursion P xs → All P xs
by-place P [] all k d within = absurd (omega (arith, within))
by-place P (x ∷ xs) all zero d within = all.0
by-place P (x ∷ xs) all (suc k) d within = by-place P xs all.1 k d (omega (arith, within))

-- the corners of whole steps may be hidden
pub corners-may : (book : BookView) (cells : List Cell) (steps : List PlanStep) → AllByRecursion (IsWholeStep book cells) steps → All (MayHide cells) (corners_of steps)
corners-may book cells steps all =
    by-place (MayHide cells) (corners_of steps)
    (all-flat (MayHide cells) (λ step. step.corners) steps
    (all-more (IsWholeStep book cells) (λ step. AllByRecursion (MayHide cells) step.corners) steps (λ step whole. whole.hideable) all))
