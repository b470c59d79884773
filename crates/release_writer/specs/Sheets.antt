-- What the code that reads tables is seen as (own).
use Rattle.std.specs.Prelude.{◌≡◌, ◌≤◌, ◌<◌, ◌+◌, ℕ, [], slice_index_or, length, drop, map, ◌++◌, slice_get, List, All, Option, None, Some, option_map, ℤ, pos, ◌≤ℤ◌}
use Rattle.std.specs.Option.{ForSome}
use Rattle.sdc_base.specs.Cells.{places, trees_of}
use Rattle.sdc_base.specs.declared.dimension.Dimension.{Dimension}
use Rattle.linked_tables.specs.BookViews.{BookView}
use Rattle.release_writer.specs.ReleaseReading.{ReleaseSoFar, LinePlace}
use Rattle.release_writer.specs.LineChoices.{Template}
use Rattle.release_writer.specs.declared.release_fault.ReleaseFault.{ReleaseFault}
use Rattle.release_writer.specs.declared.release_fault.ReleaseFault.TheVariants as fault
use Rattle.release_writer.specs.declared.sheet.TableLayout.{TableLayout}
use Rattle.release_writer.specs.declared.sheet.Progress.{Progress}
use Rattle.release_writer.specs.declared.sheet.LineMatch.{LineMatch}

-- the bad line of a fault; want of memory has none
abbrev pub release_fault_of : ReleaseFault → Option LinePlace
release_fault_of fault.Memory = None
release_fault_of (fault.At table line) = Some (table, line)

abbrev pub form_of : TableLayout → Template
form_of sheet =
    record {
      book = sheet.book.now;
      t = sheet.t;
      table = sheet.table.now;
      decimals = sheet.decimals;
      rounded = sheet.rounded;
    }

abbrev pub reading_of : Progress → ReleaseSoFar
reading_of progress = record { shown = progress.shown; rest = progress.rest.now; line = progress.line }

abbrev pub fit_of : Option LineMatch → Option (Option ℤ × List ℕ)
fit_of fit = option_map (λ fit. (fit.value, fit.rest.now)) fit

-- what is shown, if anything, is a number from 0
abbrev pub IsFromZero : Option ℤ → Type 0
IsFromZero value = ForSome value (λ number. pos 0 ≤ℤ number)

-- the truths of a book are from 0
abbrev pub HasTruthsFromZero : BookView → Type 0
HasTruthsFromZero book = All (λ mark. pos 0 ≤ℤ mark.facts.truth) book.marks

-- the table is one of the book, the decimals are those of a number, and truths are from 0
pub record IsTableLayout (sheet : TableLayout) : Type 0 where
  pub table : slice_get sheet.book.now.tables sheet.t ≡ Some sheet.table.now
  pub decimals : sheet.decimals ≤ 13
  pub truths : HasTruthsFromZero sheet.book.now

-- the places of a table that begin with this one
abbrev pub places_below : Template → List ℕ → List (List ℕ)
places_below form place =
    map (λ rest. place ++ rest) (places (trees_of form.book.trees (drop (length place) form.table)))

-- there is one list of names for each table: one name for each of its variables and one for the response
pub record HaveNames (names : List (List (List ℕ))) (tables : List (List Dimension)) : Type 0 where
  pub lists : length names ≡ length tables
  pub each : (t : ℕ) → t < length tables → length (slice_index_or names t []) ≡ length (slice_index_or tables t []) + 1
