-- Marks whose lists of the largest are made ready (own).
use Rattle.std.specs.Prelude.{◌≡◌, ℕ, ◌≤◌, ◌<◌, [], length, slice_get, Some}
use Rattle.sdc_base.specs.LargestKept.{KeepsLargest}
use Rattle.linked_tables.specs.declared.mark.Mark.{Mark}
use Rattle.linked_tables.specs.BookViews.{BookView}

-- the list is empty, and keeps so many at this scale; all else is as before
pub record HasEmptyList (keep scale : ℕ) (old new : Mark) : Type 0 where
  pub truth : new.facts.truth ≡ old.facts.truth
  pub freq : new.facts.freq ≡ old.facts.freq
  pub hidden : new.hidden ≡ old.hidden
  pub keeps : new.facts.tops.keep ≡ keep
  pub scaled : new.facts.tops.scale ≡ scale
  pub none : KeepsLargest new.facts.tops []

-- so are the first marks of a book, and all else is as before
pub record HaveEmptyLists (old new : BookView) (keep scale cells : ℕ) : Type 0 where
  pub frame : new ≡ record old { marks = new.marks }
  pub long : length new.marks ≡ length old.marks
  pub ready : (cell : ℕ) (before after : Mark) → cell < cells → slice_get old.marks cell ≡ Some before
      → slice_get new.marks cell ≡ Some after → HasEmptyList keep scale before after
  pub rest : (cell : ℕ) → cells ≤ cell → slice_get new.marks cell ≡ slice_get old.marks cell
