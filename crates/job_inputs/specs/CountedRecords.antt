-- What holds of a job's book and numbers once its records are counted (own).
use Rattle.std.specs.Prelude.{◌≡◌, ◌<◌, ◌≤◌, ◌^◌, length, ℕ, List, Result}
use Rattle.linked_tables.specs.BookCells.{cells}
use Rattle.job_inputs.specs.SoundJobs.{IsSoundJob}
use Rattle.job_inputs.specs.TabulatedBooks.{IsBookOf, IsReadyFor}
use Rattle.job_inputs.specs.declared.counted.TabulatedJob.{TabulatedJob}
use Rattle.job_inputs.specs.declared.file_ref.FileRef.{FileRef}
use Rattle.job_inputs.specs.declared.inputs.Inputs.{Inputs}
use Rattle.sdc_base.specs.Answers.{Gives}
use Rattle.sdc_base.specs.RuleLevels.{keep_of}
use Rattle.tabulate.specs.TabulatedMarks.{AreTabulated}
use Rattle.office_io.specs.Files.{Files}
use Rattle.office_io.specs.Shelves.{ShelfState}
use Rattle.apriori.specs.Priors.{ArePriors}
use Rattle.apriori.specs.declared.prior.Prior.{Prior}
use Rattle.job_inputs.specs.Looks.{ComesToStatements, IsPriorFileOf}
use Rattle.job_inputs.specs.PriorStatements.{prior_line, priors_of, with_file}
use Rattle.job_inputs.specs.ReadFiles.{limit}
use Rattle.job_inputs.specs.Reading.{stopped_for, ReadsFiles}
use Rattle.job_inputs.specs.declared.stop.InputStop.{InputStop}

-- the job, its book with its records, these records, and how many were skipped are those of the inputs
pub record IsCountedOf (inputs : Inputs) (counted : TabulatedJob) : Type 0 where
  pub described : counted.described ≡ inputs.described
  pub book : IsBookOf inputs counted.book
  pub rows : counted.rows ≡ inputs.records.rows
  pub skipped : counted.skipped ≡ inputs.records.skipped

-- the job is within its limits, its book has a mark for each cell and is ready for what a release wants of it, and the
-- marks tell of the records, which are at most a million
pub record IsReadyCount (counted : TabulatedJob) : Type 0 where
  pub sound : IsSoundJob counted.described
  pub book : IsReadyFor counted.described counted.book
  pub told : AreTabulated counted.book counted.rows (keep_of counted.described.job.rules.list)
      counted.described.bound.scale
  pub at_most_1000000 : length counted.rows ≤ 1000000
  pub one_each : length counted.book.marks ≡ length (cells counted.book)
  pub fewer_than_2_32 : length counted.book.marks < 2 ^ 32

-- the counted records are those of the inputs, and ready
abbrev pub IsReadyCountOf : Inputs → TabulatedJob → Type 0
IsReadyCountOf inputs counted = IsCountedOf inputs counted × IsReadyCount counted

-- what a table's a priori file states can be added to these priors: the job is ready, it has the table, and there is a
-- prior for each mark of its book
pub record CanState (counted : TabulatedJob) (t : ℕ) (priors : List Prior) : Type 0 where
  pub ready : IsReadyCount counted
  pub table : t < length counted.described.job.tables
  pub priors_are : ArePriors counted.book.marks priors

-- The answer, with these priors after it, is what is stated with a table's a priori file beside those before it, or the
-- first fault of the file: for these files, and of inputs whose records are counted so.
abbrev pub StatesFile : TabulatedJob → ℕ → List Prior → List Prior → Files → Result (Unit {0}) InputStop → Type 0
StatesFile counted t before after files answer =
    (inputs : Inputs) → IsCountedOf inputs counted
    → Gives stopped_for (λ fine. after) answer (with_file files inputs t (prior_line t counted.described.job.priors) before)

-- a table's a priori file, where it has one, was looked at: the answer, with these priors after it, is what it states
-- beside those before it, and there is a prior for each mark of the book
abbrev pub HasStatedFile : TabulatedJob → ℕ → List Prior → List Prior → Result (Unit {0}) InputStop → ShelfState
    → ShelfState → Type 0
HasStatedFile counted t before after result old new =
    ReadsFiles (StatesFile counted t before after) (λ fs. IsPriorFileOf t counted.described.job.priors)
    (λ fine. ArePriors counted.book.marks after) limit result old new

-- The answer is what the a priori files of all tables state, or the first fault of one of them: for these files, and of
-- inputs whose records are counted so.
abbrev pub StatesFiles : TabulatedJob → Files → Result (List Prior) InputStop → Type 0
StatesFiles counted files answer =
    (inputs : Inputs) → IsCountedOf inputs counted
    → Gives stopped_for (λ priors. priors) answer (priors_of files inputs)

-- the a priori files of inputs whose records are counted so are read up to this one, which has this name
abbrev pub PriorsComeTo : TabulatedJob → Files → FileRef → List ℕ → Type 0
PriorsComeTo counted files f held = (inputs : Inputs) → IsCountedOf inputs counted → ComesToStatements files inputs f held
