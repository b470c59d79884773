-- What a run for a release answers, and what it leaves on the tray (own).
use Rattle.std.specs.Prelude.{◌≡◌, ℕ, List, Result, Ok, Err, IsOkAnd}
use Rattle.sdc_base.specs.WhereTold.{WhereTold}
use Rattle.office_io.specs.Shelves.{ShelfState}
use Rattle.office_io.specs.Trays.{TrayState}
use Rattle.job_inputs.specs.Looks.{InputsComeTo}
use Rattle.job_inputs.specs.ReadFiles.{limit}
use Rattle.job_inputs.specs.Reading.{HasOnlyLooked}
use Rattle.job_inputs.specs.ClassifiedJobs.{SettledInputs, settled_of}
use Rattle.job_inputs.specs.declared.faults.Fault.{Fault}
use Rattle.job_inputs.specs.declared.purpose.Purpose.TheVariants as purpose
use Rattle.job_run.specs.CommandRuns.{Ends, IsAnswer, IsRunOf}
use Rattle.job_run.specs.Endings.{IsEndWithoutRelease, IsReleaseOf}
use Rattle.job_run.specs.PutReleases.{IsSomeRelease, PutsReleaseWhere, Releases}
use Rattle.job_run.specs.declared.put.Release.{Release}
use Rattle.job_run.specs.declared.report.Report.{Report}
use Rattle.job_run.specs.declared.report.Report.TheVariants as report
use Rattle.job_run.specs.declared.report.Summary.{Summary}

-- what a run for a release ends with: a release, a file of it that can't be put, or why there is none
abbrev pub IsReleaseEnd : Ends SettledInputs
IsReleaseEnd Holds (report.Released summary) = Holds (λ settled. Unit {0})
IsReleaseEnd Holds (report.WriteFault file) = Holds (λ settled. Unit {0})
IsReleaseEnd Holds other = IsEndWithoutRelease Holds other

-- what stops a run for a release: each of its answers but a release
abbrev pub StopsRelease : Report → Type 0
StopsRelease (report.Released summary) = ⊥
StopsRelease other = IsAnswer IsReleaseEnd other

-- the report of how a run went on
abbrev pub report_of : Result Release Report → Report
report_of (Ok release) = report.Released release.summary
report_of (Err stop) = stop

-- What the tray holds of a release of the told files: it whole, or after a write fault the files before the named one
-- whole and the first bytes of that one, or after want of memory some of them or none. Each was counted once.
abbrev pub LeavesRelease : Report → Result SettledInputs Fault → TrayState → TrayState → Type 0
LeavesRelease answer outcome before after =
    PutsReleaseWhere (λ release. IsOkAnd outcome (λ settled. IsReleaseOf settled release)) answer before after

-- A run for the release of the job of this name; a release is that of the inputs of the told files. Whatever the shelf
-- and the tray tell, what was put is a release of some inputs, whole or in part, no file twice, and the shelf was only
-- looked at.
pub record IsReleaseRunOf (name : List ℕ) (answer : Report) (old new : ShelfState)
    (before after : TrayState) : Type 0 where
  pub run : IsRunOf (λ fs. settled_of purpose.Release fs name) (λ fs. InputsComeTo purpose.Release fs name)
      IsReleaseEnd LeavesRelease answer old new before after
  pub released : WhereTold old.files (λ fs. (summary : Summary) → answer ≡ report.Released summary
      → Releases fs name summary before after)
  pub put_once : PutsReleaseWhere IsSomeRelease answer before after
  pub shelf : HasOnlyLooked limit old new
