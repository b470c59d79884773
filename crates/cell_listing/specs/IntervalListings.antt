-- The listing of a release with the intervals of its hidden cells (own).
use Rattle.std.specs.Prelude.{◌≡◌, ℕ, ◌+◌, ◌≤◌, ◌==◌, List, [], ◌∷◌, ◌++◌, codes, drop, find, flat_map, Option, None, Some, ℤ}
use Rattle.sdc_base.specs.TableText.{line_text}
use Rattle.sdc_base.specs.Trees.{Tree}
use Rattle.job_inputs.specs.declared.described.DescribedJob.{DescribedJob}
use Rattle.job_check.specs.ReleaseFiles.{ReleasedFiles}
use Rattle.job_check.specs.declared.reading.ReadRelease.{ReadRelease}
use Rattle.cell_listing.specs.Columns.{cell_fields, column_names}
use Rattle.cell_listing.specs.IntervalFiles.{IsIntervalFileOf, hidden_in}
use Rattle.cell_listing.specs.ListedCells.{ListedCell, listed_cells, told_cells}
use Rattle.cell_listing.specs.ReleasedCells.{amounts_in, AreReleasedFieldsAt}
use Rattle.cell_listing.specs.ReleasedListings.{outcome_at, outcome_fields, outcome_names}
use Rattle.cell_listing.specs.Releases.{IsListingOf}
use Rattle.cell_listing.specs.declared.cell_range.CellRange.{CellRange}
use Rattle.cell_listing.specs.declared.outcome.Outcome.{Outcome}
use Rattle.cell_listing.specs.declared.released_cells.ReleasedCells.{ReleasedCells}

-- ---- the text

-- the columns of an interval, behind all others
abbrev pub end_names : List (List ℕ)
end_names = codes "interval_low" ∷ codes "interval_high" ∷ []

-- the range of the cell with this number, where there is one
abbrev pub range_of : List CellRange → ℕ → Option CellRange
range_of ranges number = find (λ range. range.cell == number) ranges

-- both ends of a range as they stand, and nothing where there is none
abbrev pub end_fields : Option CellRange → List (List ℕ)
end_fields None = [] ∷ [] ∷ []
end_fields (Some range) = range.low ∷ range.high ∷ []

-- the line of a cell of which the release made this, with the ends of its range
abbrev pub interval_line : DescribedJob → List Tree → (ListedCell → Outcome) → List CellRange → ListedCell → List ℕ
interval_line described trees made ranges cell =
    line_text ((cell_fields described trees cell ++ outcome_fields described.bound.decimals (made cell))
    ++ end_fields (range_of ranges cell.number))

-- a listing: the line of the columns' names, and then a line for each cell
abbrev pub interval_text : DescribedJob → List Tree → (ListedCell → Outcome) → List CellRange → List ListedCell → List ℕ
interval_text described trees made ranges cells =
    line_text ((column_names described ++ outcome_names) ++ end_names)
    ++ flat_map (interval_line described trees made ranges) cells

-- the listing of a release with these ranges, whose tables show these amounts where it rounds
unfoldable pub interval_listing : ReleasedFiles → List ℤ → List CellRange → List ℕ
interval_listing released amounts ranges =
    interval_text released.settled.inputs.described released.settled.inputs.records.trees
    (outcome_at released.certificate released.extra amounts) ranges (listed_cells released.settled)

-- The listing of a release that a check accepts with its interval file: that of the release, with two columns more, in
-- which each hidden cell has the ends of its own range in the file, and any other cell nothing.
pub record IsIntervalListingOf (released : ReleasedFiles) (file : List ℕ) (text : List ℕ) : Type 0 where
  pub without : List ℕ
  pub listing : IsListingOf released without
  pub ranges : List CellRange
  pub is_file : IsIntervalFileOf (hidden_in released) ranges file
  pub text_is : text ≡ interval_listing released listing.amounts ranges

-- ---- how its lines are written

-- the ranges ascend by their cells, the first of which has this number or a greater one
abbrev pub AscendFrom : ℕ → List CellRange → Type 0
AscendFrom least [] = Unit {0}
AscendFrom least (range ∷ ranges) = (least ≤ range.cell) × AscendFrom (range.cell + 1) ranges

-- from this place on stand the ranges of this cell and of those behind it
pub record IsNext (ranges : List CellRange) (place number : ℕ) : Type 0 where
  pub ahead : AscendFrom number (drop place ranges)
  pub same : (cell : ℕ) → number ≤ cell → range_of ranges cell ≡ range_of (drop place ranges) cell

-- the lines of the cells
abbrev pub interval_lines : ReadRelease → ReleasedCells → List CellRange → List ℕ
interval_lines read made ranges =
    flat_map (interval_line read.job.described read.job.book.trees
    (outcome_at read.certificate read.extra (amounts_in made)) ranges) (told_cells read.job)

-- these fields are those of the cell with this number in the listing of the release, with these ends
pub record AreIntervalFieldsAt (read : ReadRelease) (amounts : List ℤ) (number : ℕ) (ends fields : List (List ℕ))
    : Type 0 where
  pub without : List (List ℕ)
  pub are : AreReleasedFieldsAt read amounts number without
  pub fields_are : fields ≡ without ++ ends
