-- What the listing of a release says of it (own).
use Rattle.std.specs.Prelude.{◌≡◌, ◌↔◌, ◌<◌, ℕ, List, length, map, slice_get, Option, None, Some, ℤ, true, Result, Ok, Err, IsOkAnd, Vec}
use Rattle.std.specs.declared.alloc.Global.{Global}
use Rattle.linked_tables.specs.BookViews.{BookView}
use Rattle.release_writer.specs.ReadingLaws.{AreTexts}
use Rattle.job_inputs.specs.TabulatedBooks.{IsBookOf}
use Rattle.job_inputs.specs.Tables.{names_of}
use Rattle.job_inputs.specs.declared.faults.Fault.{Fault}
use Rattle.job_check.specs.Answers.{IsReleaseCheckAnswer, IsRightRelease}
use Rattle.job_check.specs.ReleaseFiles.{ReleasedFiles}
use Rattle.job_check.specs.declared.stop.CheckStop.{CheckStop}
use Rattle.cell_listing.specs.ListedCells.{ListedCell, listed_cells}
use Rattle.cell_listing.specs.Listings.{CountsAsReport}
use Rattle.cell_listing.specs.Outcomes.{is_listed_hidden}
use Rattle.cell_listing.specs.ReleasedListings.{outcome_at, released_listing}
use Rattle.cell_listing.specs.declared.outcome.Origin.{Origin}
use Rattle.cell_listing.specs.declared.outcome.Outcome.{Outcome}
use Rattle.cell_listing.specs.declared.outcome.Outcome.TheVariants as outcome

-- the listing has this cell in the line of this number
abbrev pub IsListed : ReleasedFiles → ℕ → ListedCell → Type 0
IsListed released number cell = slice_get (listed_cells released.settled) number ≡ Some cell

-- the line with this number says that its cell is hidden, and by what it came to that
pub record IsListedHidden (released : ReleasedFiles) (amounts : List ℤ) (number : ℕ) : Type 0 where
  pub cell : ListedCell
  pub listed : IsListed released number cell
  pub origin : Origin
  pub hidden : outcome_at released.certificate released.extra amounts cell ≡ outcome.Hidden (Some origin)

-- what tables show where a line says this: the value of the line, nothing, or the rounded amount
abbrev pub shows : ListedCell → Outcome → Option ℤ
shows cell outcome.Shown = Some cell.figures.truth
shows cell (outcome.Hidden by) = None
shows cell (outcome.Rounded amount) = Some amount

-- the tables of a release are those of its listing: texts in which each cell shows what its line says
pub record AreTablesOfListing (released : ReleasedFiles) (amounts : List ℤ) : Type 0 where
  pub book : BookView
  pub is_book : IsBookOf released.settled.inputs book
  pub shown : ℕ → Option ℤ
  pub each : (number : ℕ) (cell : ListedCell) → IsListed released number cell
      → shown number ≡ shows cell (outcome_at released.certificate released.extra amounts cell)
  pub tables : AreTexts book released.settled.inputs.described.bound.decimals shown book.tables
      (map names_of released.settled.inputs.described.job.tables) released.tables

-- The listing of a release that a check accepts: its lines are those that the report of a release counts, those that say
-- hidden are those of the certificate's hidden cells and of the extra cells, each with what it came to that by, and the
-- tables show what the lines say.
pub record IsListingOf (released : ReleasedFiles) (text : List ℕ) : Type 0 where
  pub accepted : IsRightRelease released
  pub amounts : List ℤ
  pub text_is : text ≡ released_listing released amounts
  pub counts : CountsAsReport released.settled
  pub hidden : (number : ℕ) → IsListedHidden released amounts number ↔
      ((is_listed_hidden released.certificate released.extra number ≡ true)
      × (number < length (listed_cells released.settled)))
  pub tables : AreTablesOfListing released amounts

-- The answer to the name of a job whose files come to a release or to a first fault: the listing of the release, and
-- where a check doesn't accept it, what the check answers.
abbrev pub IsReleaseListingAnswer : Result ReleasedFiles Fault → Result (Vec ℕ Global) CheckStop → Type 0
IsReleaseListingAnswer meant (Ok bytes) = IsOkAnd meant (λ released. IsListingOf released bytes.items)
IsReleaseListingAnswer meant (Err stop) = IsReleaseCheckAnswer meant (Err stop)
