-- What the cells of a book show in a release, and the text of a table of it (own; `x` for a hidden cell: tau-ARGUS user
-- manual).
use Rattle.std.specs.Prelude.{◌≡◌, ℕ, Bool, false, List, [], length, slice_get, slice_index_or, if◌then◌else◌, All, Option, None, option_map, ℤ, pos, ◌≤ℤ◌, ◌<ℤ◌}
use Rattle.std.specs.Option.{option_and_then}
use Rattle.sdc_base.specs.Records.{Name}
use Rattle.sdc_base.specs.Numbers.{too_wide}
use Rattle.sdc_base.specs.TableText.{table_text}
use Rattle.linked_tables.specs.declared.mark.Mark.{Mark}
use Rattle.linked_tables.specs.BookViews.{BookView}
use Rattle.linked_tables.specs.BookCells.{number_of}
use Rattle.release_writer.specs.declared.shown.Shown.{Shown}
use Rattle.release_writer.specs.declared.shown.Shown.TheVariants as shown

-- The truth of a cell, unless its flag says that it is hidden. Not: unless its mark notes that.
abbrev pub open_truth : List Mark → List Bool → ℕ → Option ℤ
open_truth marks flags cell =
    if slice_index_or flags cell false then None else option_map (λ mark. mark.facts.truth) (slice_get marks cell)

-- what a cell shows: its truth, unless it is hidden; or its rounded number
abbrev pub shown_in : BookView → Shown → ℕ → Option ℤ
shown_in book (shown.Hidden hidden) cell = open_truth book.marks hidden.now.flags cell
shown_in book (shown.Rounded numbers) cell = slice_get numbers.now cell

-- what the cell of this name shows
abbrev pub number_shown : BookView → Shown → Name → Option ℤ
number_shown book how name = option_and_then (shown_in book how) (number_of book name)

-- there is a flag for each cell, and truths are from 0; or a number for each cell, from 0 and not too wide
abbrev pub CanBeShown : BookView → Shown → Type 0
CanBeShown book (shown.Hidden hidden) = (length hidden.now.flags ≡ length book.marks)
    × All (λ mark. pos 0 ≤ℤ mark.facts.truth) book.marks
CanBeShown book (shown.Rounded numbers) = (length numbers.now ≡ length book.marks)
    × All (λ number. (pos 0 ≤ℤ number) × (number <ℤ pos too_wide)) numbers.now

-- the text of table t of a release
abbrev pub release_text : BookView → ℕ → List (List ℕ) → ℕ → Shown → List ℕ
release_text book t names decimals how =
    table_text book.trees (slice_index_or book.tables t []) names decimals (number_shown book how)
