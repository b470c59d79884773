-- The text of a listing of cells (own; the form of its lines is that of release tables).
use Rattle.std.specs.Prelude.{◌≡◌, ℕ, List, ◌++◌, length, filter, flat_map, Result, Ok, Err, IsOkAnd, Vec}
use Rattle.std.specs.declared.alloc.Global.{Global}
use Rattle.sdc_base.specs.Answers.{Fails}
use Rattle.sdc_base.specs.Kinds.{is_primary}
use Rattle.sdc_base.specs.TableText.{line_text}
use Rattle.sdc_base.specs.Trees.{Tree}
use Rattle.office_io.specs.Files.{Files}
use Rattle.job_inputs.specs.Cells.{cells as cells_in}
use Rattle.job_inputs.specs.Reading.{stopped_for}
use Rattle.job_inputs.specs.ClassifiedJobs.{SettledInputs, settled_of}
use Rattle.job_inputs.specs.declared.described.DescribedJob.{DescribedJob}
use Rattle.job_inputs.specs.declared.faults.Fault.{Fault}
use Rattle.job_inputs.specs.declared.purpose.Purpose.TheVariants as purpose
use Rattle.job_inputs.specs.declared.stop.InputStop.{InputStop}
use Rattle.cell_listing.specs.ListedCells.{ListedCell, listed_cells}
use Rattle.cell_listing.specs.Columns.{column_names, cell_fields}

-- the line of a cell
abbrev pub cell_line : DescribedJob → List Tree → ListedCell → List ℕ
cell_line described trees cell = line_text (cell_fields described trees cell)

-- the lines of cells
abbrev pub lines_of : DescribedJob → List Tree → List ListedCell → List ℕ
lines_of described trees cells = flat_map (cell_line described trees) cells

-- a listing: the line of the columns' names, and then a line for each cell
abbrev pub listing_text : DescribedJob → List Tree → List ListedCell → List ℕ
listing_text described trees cells = line_text (column_names described) ++ lines_of described trees cells

-- the listing of a job's settled inputs
unfoldable pub listing_of : SettledInputs → List ℕ
listing_of settled = listing_text settled.inputs.described settled.inputs.records.trees (listed_cells settled)

-- the lines of a listing are as many as the cells that the report of a release counts, and as many of them primary as it
-- counts primary cells
pub record CountsAsReport (settled : SettledInputs) : Type 0 where
  pub one_line_each : length (listed_cells settled) ≡ length (cells_in settled.inputs)
  pub primary : length (filter (λ cell. is_primary cell.settled.kind) (listed_cells settled))
      ≡ length (filter (λ cell. is_primary cell.kind) settled.cells)

-- the text is the listing of settled inputs, and its lines are those that the report of their release counts
pub record IsCellListing (settled : SettledInputs) (text : List ℕ) : Type 0 where
  pub text_is : text ≡ listing_of settled
  pub counts : CountsAsReport settled

-- the answer is the listing of settled inputs, or their first fault, want of memory and faults of the shelf aside
abbrev pub AreListed : Result (Vec ℕ Global) InputStop → Result SettledInputs Fault → Type 0
AreListed (Ok bytes) meant = IsOkAnd meant (λ settled. IsCellListing settled bytes.items)
AreListed (Err stop) meant = Fails (stopped_for stop) meant

-- the same of the inputs of the job of this name, which are read from these files as for a release
abbrev pub ListsJob : List ℕ → Files → Result (Vec ℕ Global) InputStop → Type 0
ListsJob name files answer = AreListed answer (settled_of purpose.Release files name)
