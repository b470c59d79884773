-- What a second run leaves, after one that stopped at a write fault (own).
use Rattle.std.specs.Prelude.{◌≡◌, ℕ, Bool, false, List, Some, Ok}
use Rattle.std.specs.List.{list_any}
use Rattle.std.specs.Str.{bytes_eq}
use Rattle.job_lang.specs.FileLaws.{puts_of}
use Rattle.job_lang.specs.declared.job.Job.{Job}
use Rattle.office_io.specs.Files.{Files, told_file}
use Rattle.office_io.specs.Shelves.{ShelfState}
use Rattle.office_io.specs.Trays.{TrayState}
use Rattle.job_inputs.specs.ClassifiedJobs.{SettledInputs, settled_of}
use Rattle.job_inputs.specs.declared.file_ref.FileRef.{FileRef}
use Rattle.job_inputs.specs.declared.purpose.Purpose.TheVariants as purpose
use Rattle.job_run.specs.ReleaseRuns.{IsReleaseRunOf}
use Rattle.job_run.specs.PutReleases.{Releases}
use Rattle.job_run.specs.declared.report.Report.TheVariants as report
use Rattle.job_run.specs.declared.report.Summary.{Summary}

-- the job puts a file of this name: its certificate, its contributors' file, or one of its tables
abbrev pub is_put_by : Job → List ℕ → Bool
is_put_by job name = list_any (λ file. bytes_eq file name) (puts_of job)

-- A run of the job of this name stopped at a write fault, and a second one over the same files, which began with the
-- tray as the first had left it, released.
pub record AreTwoRuns (files : Files) (name : List ℕ) (summary : Summary)
    (before between after : TrayState) : Type 0 where
  pub file : FileRef
  pub old : ShelfState
  pub new : ShelfState
  pub again : ShelfState
  pub end : ShelfState
  pub first_files : old.files ≡ Some files
  pub second_files : again.files ≡ Some files
  pub first : IsReleaseRunOf name (report.WriteFault file) old new before between
  pub second : IsReleaseRunOf name (report.Released summary) again end between after

-- After the second run its release stands whole, and every file that the job doesn't put is as it was before the first.
abbrev pub SecondRunsComplete : Type 0
SecondRunsComplete =
    (files : Files) (name : List ℕ) (summary : Summary) (before between after : TrayState)
    → AreTwoRuns files name summary before between after
    → Releases files name summary between after
    × ((settled : SettledInputs) (other : List ℕ) → settled_of purpose.Release files name ≡ Ok settled
    → is_put_by settled.inputs.described.job other ≡ false
    → told_file after.files other ≡ told_file before.files other)
