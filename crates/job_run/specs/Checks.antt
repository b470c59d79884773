-- What a check of a release answers (own).
use Rattle.std.specs.Prelude.{◌≡◌, ℕ, List}
use Rattle.office_io.specs.Shelves.{ShelfState}
use Rattle.office_io.specs.Trays.{TrayState}
use Rattle.job_check.specs.Answers.{IsRightRelease, IsFaultyRelease}
use Rattle.job_check.specs.Reading.{ReleaseComesTo}
use Rattle.job_check.specs.ReleaseFiles.{ReleasedFiles, released_of}
use Rattle.job_check.specs.declared.stop.CheckStop.TheVariants as check
use Rattle.job_inputs.specs.ClassifiedJobs.{HasOnlyLookedOn}
use Rattle.job_inputs.specs.declared.purpose.Purpose.TheVariants.{Release}
use Rattle.job_run.specs.CommandRuns.{Ends, IsRunOf}
use Rattle.job_run.specs.declared.report.Report.{Report}
use Rattle.job_run.specs.declared.report.Report.TheVariants as report

-- what a check of a release ends with: it is accepted, or it has this fault, of its certificate and tables or of its
-- extra cells
abbrev pub IsCheckEnd : Ends ReleasedFiles
IsCheckEnd Holds report.Accepted = Holds IsRightRelease
IsCheckEnd Holds (report.NotAccepted why) = Holds (IsFaultyRelease (check.NotAccepted why))
IsCheckEnd Holds (report.NotGuarded why) = Holds (IsFaultyRelease (check.NotGuarded why))
IsCheckEnd Holds other = ⊥

-- A check of the job of this name: whatever the shelf and the tray tell, it puts nothing, and the shelf was only looked
-- at.
pub record IsCheckOf (name : List ℕ) (answer : Report) (old new : ShelfState) (before after : TrayState) : Type 0 where
  pub run : IsRunOf (λ fs. released_of fs name) (λ fs. ReleaseComesTo fs name) IsCheckEnd
      (λ said outcome one other. other ≡ one) answer old new before after
  pub untouched : after ≡ before
  pub shelf : HasOnlyLookedOn Release name old new
