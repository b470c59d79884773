-- The inputs of a job with its cells settled, or the first fault of all (own).
use Rattle.std.specs.Prelude.{◌≡◌, ◌<◌, ◌^◌, ◌||◌, ◌≤◌, ℕ, Bool, false, List, Option, length, map, Result, Ok, Err, IsErr, IsOkAnd, All}
use Rattle.std.specs.List.{list_any}
use Rattle.std.specs.Option.{option_map_or}
use Rattle.std.specs.Str.{bytes_eq}
use Rattle.sdc_base.specs.WhereTold.{WhereTold}
use Rattle.sdc_base.specs.Answers.{Fails}
use Rattle.sdc_base.specs.Steps.{◌>>=◌, map_fault, refuse}
use Rattle.apriori.specs.Settling.{SettledCell, view_of_cell, settle_of}
use Rattle.apriori.specs.CellLevels.{HasLevelsInRange}
use Rattle.apriori.specs.declared.prior.Prior.{Prior}
use Rattle.sdc_base.specs.RuleLevels.{keep_of}
use Rattle.sdc_base.specs.declared.cell.Cell.{Cell}
use Rattle.tabulate.specs.TabulatedMarks.{AreTabulated}
use Rattle.linked_tables.specs.declared.mark.Mark.{Mark}
use Rattle.linked_tables.specs.BookCells.{cells as cells_in}
use Rattle.linked_tables.specs.Tables.{book_with_depths}
use Rattle.job_lang.specs.declared.job.Job.{Job}
use Rattle.job_lang.specs.declared.job.OutputLine.{OutputLine}
use Rattle.office_io.specs.Files.{Files}
use Rattle.office_io.specs.Shelves.{ShelfState}
use Rattle.job_inputs.specs.Cells.{figures, cells_fault, prior_fault}
use Rattle.job_inputs.specs.Inputs.{inputs_of}
use Rattle.job_inputs.specs.ReadFiles.{limit, output_limit}
use Rattle.job_inputs.specs.Reading.{stopped_for, HasOnlyLooked}
use Rattle.job_inputs.specs.SoundJobs.{IsSoundJob}
use Rattle.job_inputs.specs.PriorStatements.{priors_of}
use Rattle.job_inputs.specs.TabulatedBooks.{IsBookOf, IsReadyFor}
use Rattle.job_inputs.specs.declared.faults.Fault.{Fault}
use Rattle.job_inputs.specs.declared.faults.Fault.TheVariants as fault
use Rattle.job_inputs.specs.declared.inputs.Inputs.{Inputs}
use Rattle.job_inputs.specs.declared.purpose.Purpose.{Purpose}
use Rattle.job_inputs.specs.declared.settled.ClassifiedJob.{ClassifiedJob}
use Rattle.job_inputs.specs.declared.stop.InputStop.{InputStop}

-- what the files of a job hold, what its a priori files state of each cell, and what each cell is to its protection
pub record SettledInputs : Type 0 where
  pub inputs : Inputs
  pub priors : List Prior
  pub cells : List SettledCell

-- the contributors' file, where there is one, has this name
abbrev pub is_contributors_file : List ℕ → Option OutputLine → Bool
is_contributors_file name contributors = option_map_or (λ output. bytes_eq output.file name) contributors false

-- the certificate, the contributors' file or an output has the name of the job's file
abbrev pub overwrites_job : List ℕ → Job → Bool
overwrites_job name job =
    bytes_eq job.certificate name || is_contributors_file name job.contributors
    || list_any (λ output. bytes_eq output.file name) job.outputs

-- what each cell is to its protection, or the first primary cell that is to be always shown
abbrev pub settled_cells : Inputs → List Prior → Result (List SettledCell) Fault
settled_cells inputs priors = map_fault prior_fault (settle_of inputs.described.job.rules (figures inputs) priors)

-- All that a job's files come to, read for this purpose, before anything is protected, or the first fault: those of the
-- input files, then too many cells, then those of the a priori files by table, then a primary cell that is to be always
-- shown, and then a job that would overwrite itself.
unfoldable pub settled_of : Purpose → Files → List ℕ → Result SettledInputs Fault
settled_of purpose files name = do
  inputs ← inputs_of purpose files name
  linked ← map_fault cells_fault (book_with_depths inputs.records.trees inputs.described.bound.tables)
  priors ← priors_of files inputs
  cells ← settled_cells inputs priors
  fine ← refuse fault.OutName (overwrites_job name inputs.described.job)
  Ok (record { inputs = inputs; priors = priors; cells = cells })

-- the job, its book with its records, its cells, its records, how many there are and how many were skipped are those of
-- the inputs
pub record IsSettledOf (settled : SettledInputs) (job : ClassifiedJob) : Type 0 where
  pub described : job.described ≡ settled.inputs.described
  pub book : IsBookOf settled.inputs job.book
  pub cells : map view_of_cell job.cells ≡ settled.cells
  pub rows : job.rows ≡ settled.inputs.records.rows
  pub records : job.records ≡ length settled.inputs.records.rows
  pub skipped : job.skipped ≡ settled.inputs.records.skipped

-- the answer is a job whose inputs are these, or the first fault, want of memory and faults of the shelf aside
abbrev pub AreSettled : Result ClassifiedJob InputStop → Result SettledInputs Fault → Type 0
AreSettled (Ok job) meant = IsOkAnd meant (λ settled. IsSettledOf settled job)
AreSettled (Err stop) meant = Fails (stopped_for stop) meant

-- The job is within its limits, and its book has a mark and a settled cell for each cell, with the same truths, and is
-- ready for what a release wants of it; the marks tell of the job's records, which are at most a million.
pub record IsReadyJob (job : ClassifiedJob) : Type 0 where
  pub sound : IsSoundJob job.described
  pub book : IsReadyFor job.described job.book
  pub told : AreTabulated job.book job.rows (keep_of job.described.job.rules.list) job.described.bound.scale
  pub at_most_1000000 : length job.rows ≤ 1000000
  pub one_each : length job.book.marks ≡ length (cells_in job.book)
  pub settled : length job.cells ≡ length job.book.marks
  pub levels : All HasLevelsInRange job.cells
  pub truths : map (λ mark. mark.facts.truth) job.book.marks ≡ map (λ cell. cell.truth) job.cells
  pub fewer_than_2_32 : length job.cells < 2 ^ 32

-- there is a settled cell for each mark, with its truth, and its levels are in range
pub record AreReadyCells (marks : List Mark) (cells : List Cell) : Type 0 where
  pub one_each : length cells ≡ length marks
  pub levels : All HasLevelsInRange cells
  pub truths : map (λ mark. mark.facts.truth) marks ≡ map (λ cell. cell.truth) cells

-- The shelf was only looked at. Of the file that was looked for last, no more was taken than a file that was put may
-- have, and one byte; and where the inputs of the job of this name have a fault, than an input may have, and one byte.
pub record HasOnlyLookedOn (purpose : Purpose) (name : List ℕ) (old new : ShelfState) : Type 0 where
  pub only_looked : HasOnlyLooked output_limit old new
  pub inputs_limit : WhereTold old.files (λ fs. IsErr (settled_of purpose fs name) → HasOnlyLooked limit old new)
