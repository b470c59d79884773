-- What a run has put is accepted by a check (own).
use Rattle.std.specs.Prelude.{◌≡◌, ◌⊎◌, ◌≤◌, ℕ, false, List, length, Option, Some, IfSome, Ok}
use Rattle.std.specs.List.{AllByRecursion}
use Rattle.sdc_base.specs.Counts.{HasRisen}
use Rattle.job_lang.specs.FileLaws.{puts_of}
use Rattle.office_io.specs.Files.{Files}
use Rattle.office_io.specs.Shelves.{ShelfState}
use Rattle.office_io.specs.Trays.{TrayState}
use Rattle.job_inputs.specs.ReadFiles.{output_limit}
use Rattle.job_inputs.specs.ClassifiedJobs.{SettledInputs, settled_of}
use Rattle.job_inputs.specs.declared.purpose.Purpose.TheVariants as purpose
use Rattle.job_run.specs.Checks.{IsCheckOf}
use Rattle.job_run.specs.ReleaseRuns.{IsReleaseRunOf}
use Rattle.job_run.specs.SecondRuns.{is_put_by}
use Rattle.job_run.specs.declared.report.Report.{Report}
use Rattle.job_run.specs.declared.report.Report.TheVariants as report
use Rattle.job_run.specs.declared.report.Summary.{Summary}

-- a file that may be held has at most 2^60 bytes
abbrev pub IsShort : Option (List ℕ) → Type 0
IsShort file = IfSome file (λ bytes. length bytes ≤ output_limit)

-- A run of the job of this name over these files released, and the tray then held those of `out`. A check of the job was
-- over a shelf that held those of `held`, and had no fault.
pub record AreRunAndCheck (files out held : Files) (name : List ℕ) (summary : Summary) (answer : Report) : Type 0 where
  pub old : ShelfState
  pub new : ShelfState
  pub before : TrayState
  pub after : TrayState
  pub run : IsReleaseRunOf name (report.Released summary) old new before after
  pub run_files : old.files ≡ Some files
  pub put : after.files ≡ Some out
  pub again : ShelfState
  pub end : ShelfState
  pub beside : TrayState
  pub left : TrayState
  pub check : IsCheckOf name answer again end beside left
  pub check_files : again.files ≡ Some held
  pub no_fault : ¬ HasRisen again.faults end.faults

-- the files give the same inputs, and under the names that the job puts they are those of `out`, none too long
pub record HoldSameWithPuts (files out held : Files) (name : List ℕ) : Type 0 where
  pub settled : SettledInputs
  pub read : settled_of purpose.Release files name ≡ Ok settled
  pub same_inputs : settled_of purpose.Release held name ≡ Ok settled
  pub puts : AllByRecursion (λ put. held put ≡ out put) (puts_of settled.inputs.described.job)
  pub short : AllByRecursion (λ put. IsShort (out put)) (puts_of settled.inputs.described.job)

-- What a run has put, a check accepts that finds it beside the same inputs, or memory is wanted.
abbrev pub RunsAreAccepted : Type 0
RunsAreAccepted =
    (files out held : Files) (name : List ℕ) (summary : Summary) (answer : Report)
    → AreRunAndCheck files out held name summary answer → HoldSameWithPuts files out held name
    → (answer ≡ report.Accepted) ⊎ (answer ≡ report.Memory)

-- the files are those of the run but for the names that its job puts, under which they are those of `out`, none too long
pub record HoldFilesWithPuts (files out held : Files) (name : List ℕ) : Type 0 where
  pub settled : SettledInputs
  pub read : settled_of purpose.Release files name ≡ Ok settled
  pub others : (other : List ℕ) → is_put_by settled.inputs.described.job other ≡ false → held other ≡ files other
  pub puts : AllByRecursion (λ put. held put ≡ out put) (puts_of settled.inputs.described.job)
  pub short : AllByRecursion (λ put. IsShort (out put)) (puts_of settled.inputs.described.job)

-- What a run has put, a check accepts that finds it among the run's own files, or memory is wanted.
abbrev pub PutsAreAccepted : Type 0
PutsAreAccepted =
    (files out held : Files) (name : List ℕ) (summary : Summary) (answer : Report)
    → AreRunAndCheck files out held name summary answer → HoldFilesWithPuts files out held name
    → (answer ≡ report.Accepted) ⊎ (answer ≡ report.Memory)
