-- What each step of a trail is: the whole cube of a cell in a subtable, of cells that may be hidden (handbook, modular
-- method; own).
use Rattle.std.specs.Prelude.{◌≡◌, ℕ, ◌^◌, List, length, slice_get, Some}
use Rattle.std.specs.List.{AllByRecursion}
use Rattle.std.specs.List.Sorted.{IsStrictlyIncreasing}
use Rattle.sdc_base.specs.HiddenSets.{MayHide}
use Rattle.sdc_base.specs.declared.cell.Cell.{Cell}
use Rattle.sdc_base.specs.declared.dimension.Dimension.{Dimension}
use Rattle.sdc_base.specs.declared.trail.PlanStep.{PlanStep}
use Rattle.cost_rule.specs.declared.kind.CostKind.{CostKind}
use Rattle.linked_tables.specs.BookViews.{BookView}
use Rattle.linked_tables.specs.BookCells.{IsBook}
use Rattle.modular_plan.specs.Plans.{trail_of}

-- A step is of a table of the book: it has a parent for each variable of the table, and 2 to their number corners, by
-- their numbers upwards, each of which may be hidden.
pub record IsWholeStep (book : BookView) (cells : List Cell) (step : PlanStep) : Type 0 where
  pub variables : List Dimension
  pub table : slice_get book.tables step.table ≡ Some variables
  pub parents : length step.parents ≡ length variables
  pub all : length step.corners ≡ 2 ^ length variables
  pub ascending : IsStrictlyIncreasing step.corners
  pub hideable : AllByRecursion (MayHide cells) step.corners

-- every step of a trail through the subtables of a book is such a step
abbrev pub StepsAreWhole : Type 0
StepsAreWhole =
    (book : BookView) (cells : List Cell) (cost : CostKind) (passes : ℕ) → IsBook book
    → AllByRecursion (IsWholeStep book cells) (trail_of book cells cost passes)
