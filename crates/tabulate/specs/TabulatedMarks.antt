-- Marks that tell the sum, the number and the largest of the records in their cells (handbook, magnitude tables).
use Rattle.std.specs.Prelude.{◌≡◌, ℕ, ◌≤◌, ◌<◌, ◌^◌, List, [], length, slice_get, slice_index, slice_index_or, Some, pos, ◌≤ℤ◌, ◌<ℤ◌, All}
use Rattle.sdc_base.specs.Trees.{Tree}
use Rattle.sdc_base.specs.Records.{Name}
use Rattle.sdc_base.specs.Sums.{truth, freq}
use Rattle.sdc_base.specs.Truths.{IsTruth}
use Rattle.sdc_base.specs.Largest.{contributions}
use Rattle.sdc_base.specs.LargestKept.{KeepsLargest}
use Rattle.sdc_base.specs.declared.rows.Row.{Row}
use Rattle.linked_tables.specs.declared.mark.Mark.{Mark}
use Rattle.linked_tables.specs.BookViews.{BookView}
use Rattle.linked_tables.specs.BookCells.{cells}

-- A record of these trees: a place in each of them, a value from 0 and below 10^15, and a weight below 10^8 that is at
-- least a whole contribution.
pub record IsRow (trees : List Tree) (scale : ℕ) (row : Row) : Type 0 where
  pub each : length row.codes ≡ length trees
  pub inside : (variable : ℕ) → variable < length trees
      → slice_index row.codes variable < length (slice_index_or trees variable [])
  pub from_zero : pos 0 ≤ℤ row.value
  pub below : row.value <ℤ pos (10 ^ 15)
  pub light : row.weight < 10 ^ 8
  pub heavy : scale ≤ row.weight

-- at most a million records of these trees
pub record CanBeTabulated (trees : List Tree) (scale : ℕ) (rows : List Row) : Type 0 where
  pub each : All (IsRow trees scale) rows
  pub at_most_1000000 : length rows ≤ 1000000

-- a mark without records
pub record HasNone (mark : Mark) : Type 0 where
  pub truth : mark.facts.truth ≡ pos 0
  pub freq : mark.facts.freq ≡ 0

-- The mark tells of the records that fall in the cell with this name. Not: a record once for each table that has the
-- cell.
pub record TellsOf (trees : List Tree) (rows : List Row) (keep scale : ℕ) (name : Name) (mark : Mark) : Type 0 where
  pub truth_is : mark.facts.truth ≡ truth trees name rows
  -- no number of records within the limits has a sum beyond this
  pub within : IsTruth mark.facts.truth
  pub freq_is : mark.facts.freq ≡ freq trees name rows
  pub keeps : mark.facts.tops.keep ≡ keep
  pub scaled : mark.facts.tops.scale ≡ scale
  pub largest : KeepsLargest mark.facts.tops (contributions trees name rows)

-- each mark of a book tells of the records that fall in its cell
abbrev pub AreTabulated : BookView → List Row → ℕ → ℕ → Type 0
AreTabulated book rows keep scale =
    (cell : ℕ) (name : Name) (mark : Mark) → slice_get (cells book) cell ≡ Some name
    → slice_get book.marks cell ≡ Some mark → TellsOf book.trees rows keep scale name mark
