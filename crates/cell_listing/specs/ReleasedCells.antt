-- What a release that was read made of its cells, as its lines are written from it (own).
use Rattle.std.specs.Prelude.{◌≡◌, ◌<◌, ◌≤ℤ◌, ◌^◌, ℕ, List, [], ◌++◌, length, map, flat_map, slice_get, Some, true, false, ℤ, pos, neg_ℤ}
use Rattle.cert_check.specs.Methods.{rounds_cells}
use Rattle.linked_tables.specs.BookCells.{cells as cells_in}
use Rattle.release_writer.specs.ReadingLaws.{AreTexts, IsReleased}
use Rattle.job_inputs.specs.Tables.{names_of}
use Rattle.job_check.specs.declared.reading.ReadRelease.{ReadRelease}
use Rattle.cell_listing.specs.Columns.{cell_fields}
use Rattle.cell_listing.specs.Flags.{AreHiddenCells}
use Rattle.cell_listing.specs.ListedCells.{ListedCell, told_cells}
use Rattle.cell_listing.specs.ReleasedListings.{outcome_at, outcome_fields, released_line}
use Rattle.cell_listing.specs.declared.outcome.Outcome.{Outcome}
use Rattle.cell_listing.specs.declared.outcome.Outcome.TheVariants as outcome
use Rattle.cell_listing.specs.declared.released_cells.ReleasedCells.{ReleasedCells}
use Rattle.cell_listing.specs.declared.released_cells.ReleasedCells.TheVariants as cells

-- the tables are the texts of these amounts, one for each cell, each from 0 and not too wide
pub record AreShownAs (read : ReadRelease) (amounts : List ℤ) : Type 0 where
  pub one_each : length amounts ≡ length (cells_in read.job.book)
  pub released : IsReleased amounts
  pub texts : AreTexts read.job.book read.job.described.bound.decimals (slice_get amounts) read.job.book.tables
      (map names_of read.job.described.job.tables) read.tables

-- the amounts of cells that are rounded
abbrev pub amounts_in : ReleasedCells → List ℤ
amounts_in (cells.Suppressed flags) = []
amounts_in (cells.Rounded amounts) = amounts

-- where cells are rounded, there is an amount of the cell with this number
abbrev pub HasAmount : ReleasedCells → ℕ → Type 0
HasAmount (cells.Suppressed flags) number = Unit {0}
HasAmount (cells.Rounded amounts) number = number < length amounts

-- the cells are those of the release: hidden as its certificate says, or rounded to what its tables show
abbrev pub AreReleasedIn : ReadRelease → ReleasedCells → Type 0
AreReleasedIn read (cells.Suppressed flags) = (rounds_cells read.certificate.method ≡ false)
    × AreHiddenCells read.certificate read.extra (length (cells_in read.job.book)) flags
AreReleasedIn read (cells.Rounded amounts) = (rounds_cells read.certificate.method ≡ true) × AreShownAs read amounts

-- the lines of the cells, each with what the release made of it
abbrev pub released_lines : ReadRelease → ReleasedCells → List ℕ
released_lines read made =
    flat_map (released_line read.job.described read.job.book.trees
    (outcome_at read.certificate read.extra (amounts_in made))) (told_cells read.job)

-- an amount is one that can be printed
abbrev pub IsPrintable : Outcome → Type 0
IsPrintable outcome.Shown = Unit {0}
IsPrintable (outcome.Hidden by) = Unit {0}
IsPrintable (outcome.Rounded amount) = neg_ℤ (pos (2 ^ 120)) ≤ℤ amount

-- these fields are those of the cell with this number, with what the release made of it
pub record AreReleasedFieldsAt (read : ReadRelease) (amounts : List ℤ) (number : ℕ)
    (fields : List (List ℕ)) : Type 0 where
  pub cell : ListedCell
  pub stands : slice_get (told_cells read.job) number ≡ Some cell
  pub fields_are : fields ≡ cell_fields read.job.described read.job.book.trees cell
      ++ outcome_fields read.job.described.bound.decimals (outcome_at read.certificate read.extra amounts cell)
