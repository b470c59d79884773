-- The settled inputs of a job with its tables, read for its intervals or its audit, or the first fault of all (own).
use Rattle.std.specs.Prelude.{◌≡◌, ℕ, false, List, length, Result, Ok, Err, IsOkAnd}
use Rattle.sdc_base.specs.Answers.{Fails}
use Rattle.sdc_base.specs.Steps.{◌>>=◌, refuse}
use Rattle.office_io.specs.Files.{Files}
use Rattle.job_inputs.specs.Looks.{InputsComeTo}
use Rattle.job_inputs.specs.Reading.{stopped_for}
use Rattle.job_inputs.specs.ClassifiedJobs.{SettledInputs, settled_of, IsReadyJob, IsSettledOf}
use Rattle.job_inputs.specs.Tables.{tables_of, TablesComeTo}
use Rattle.job_inputs.specs.declared.faults.Fault.{Fault}
use Rattle.job_inputs.specs.declared.faults.Fault.TheVariants as fault
use Rattle.job_inputs.specs.declared.file_ref.FileRef.{FileRef}
use Rattle.job_inputs.specs.declared.file_ref.FileRef.TheVariants as file
use Rattle.job_inputs.specs.declared.purpose.Purpose.{Purpose}
use Rattle.job_inputs.specs.declared.purpose.Purpose.TheVariants as purposes
use Rattle.job_inputs.specs.declared.stop.InputStop.{InputStop}
use Rattle.published_tables.specs.OutNames.{overwrites}
use Rattle.published_tables.specs.declared.shelved.ShelvedJob.{ShelvedJob}

-- the settled inputs of a job, and the bytes of the tables that stand under the names of its outputs
pub record ShelvedTables : Type 0 where
  pub settled : SettledInputs
  pub tables : List (List ℕ)

-- The settled inputs of the job of this name, read for a purpose whose file is to be put under the name `out`, with its
-- tables, or the first fault: that of the inputs, then a put that would overwrite one of the job's files, then that of
-- the tables' files.
unfoldable pub shelved_for : Purpose → Files → List ℕ → List ℕ → Result ShelvedTables Fault
shelved_for purpose files name out = do
  settled ← settled_of purpose files name
  fine ← refuse fault.OutName (overwrites name out settled.inputs.described)
  tables ← tables_of files settled.inputs.described.job
  Ok (record { settled = settled; tables = tables })

-- those of a job that is read for its intervals
abbrev pub shelved_of : Files → List ℕ → List ℕ → Result ShelvedTables Fault
shelved_of = shelved_for purposes.Intervals

-- the job is that of the settled inputs, and the tables are these
pub record IsShelvedOf (shelved : ShelvedTables) (job : ShelvedJob) : Type 0 where
  pub settled : IsSettledOf shelved.settled job.job
  pub tables : job.tables ≡ shelved.tables

-- the answer is a job with its tables, or the first fault, want of memory and faults of the shelf aside
abbrev pub AreShelved : Result ShelvedJob InputStop → Result ShelvedTables Fault → Type 0
AreShelved (Ok job) meant = IsOkAnd meant (λ shelved. IsShelvedOf shelved job)
AreShelved (Err stop) meant = Fails (stopped_for stop) meant

-- the job is ready, and there are the bytes of a table for each of its outputs
pub record IsReadyShelved (shelved : ShelvedJob) : Type 0 where
  pub job : IsReadyJob shelved.job
  pub tables : length shelved.tables ≡ length shelved.job.described.job.outputs

-- The run comes to table t, which has this name: its settled inputs have no fault, none of their files has the name of
-- the file to be put, and the tables before this one have no fault.
pub record ComesToTable (purpose : Purpose) (files : Files) (name out : List ℕ) (t : ℕ) (held : List ℕ) : Type 0 where
  pub settled : SettledInputs
  pub read : settled_of purpose files name ≡ Ok settled
  pub overwrites_none : overwrites name out settled.inputs.described ≡ false
  pub comes : TablesComeTo files settled.inputs.described.job t held

-- a run for a purpose comes to this file, which has this name, and nothing before it has a fault
abbrev pub ComesFor : Purpose → Files → List ℕ → List ℕ → FileRef → List ℕ → Type 0
ComesFor purpose files name out (file.Table t) held = ComesToTable purpose files name out t held
ComesFor purpose files name out other held = InputsComeTo purpose files name other held

-- a run for intervals does
abbrev pub IntervalsComeTo : Files → List ℕ → List ℕ → FileRef → List ℕ → Type 0
IntervalsComeTo = ComesFor purposes.Intervals
