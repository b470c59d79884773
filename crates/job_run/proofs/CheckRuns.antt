-- A check of a release, from how it went on.
use Rattle.std.proofs.Common.{◌≡◌, ℕ, List, Result, Ok, Err, refl}
use Rattle.sdc_base.specs.WhereTold.{WhereTold}
use Rattle.office_io.specs.Shelves.{ShelfState}
use Rattle.office_io.specs.Trays.{TrayState}
use Rattle.job_check.specs.Answers.{IsReleaseCheckAnswer}
use Rattle.job_check.specs.Reading.{ReleaseComesTo}
use Rattle.job_check.specs.ReleaseFiles.{released_of}
use Rattle.job_check.specs.declared.stop.CheckStop.{CheckStop}
use Rattle.job_check.specs.declared.stop.CheckStop.TheVariants as check
use Rattle.job_inputs.specs.Reading.{HasCause, ReachedFile}
use Rattle.job_inputs.specs.ClassifiedJobs.{HasOnlyLookedOn}
use Rattle.job_inputs.specs.declared.purpose.Purpose.TheVariants.{Release}
use Rattle.job_inputs.specs.declared.stop.InputStop.{InputStop}
use Rattle.job_run.specs.Checks.{IsCheckEnd, IsCheckOf}
use Rattle.job_run.specs.CommandRuns.{AgreesWith, IsAnswer}
use Rattle.job_run.specs.Reporting.{inputs_report}
use Rattle.job_run.specs.Reports.{FaultsHaveCauses, reading_of}
use Rattle.job_run.specs.declared.report.Report.{Report}
use Rattle.job_run.specs.declared.report.Report.TheVariants as report
use Rattle.job_run.proofs.CommandRuns.{inputs-run, run-of}
use Rattle.job_run.proofs.Outcomes.{read-comes, inputs-cause, no-fault}

-- the report of a check that went on so
abbrev pub check_report : Result (Unit {0}) CheckStop → Report
check_report (Ok fine) = report.Accepted
check_report (Err (check.Inputs why)) = inputs_report why
check_report (Err (check.NotAccepted why)) = report.NotAccepted why
check_report (Err (check.NotGuarded why)) = report.NotGuarded why

pub check-cause : (r : Result (Unit {0}) CheckStop) (old new : ShelfState) (tray : TrayState) → ((e : InputStop) → r ≡ Err (check.Inputs e) → HasCause {X = Unit {0}} (Err e) old new) → FaultsHaveCauses (check_report r) old new tray tray
check-cause (Ok fine) old new tray cause = no-fault _ old new tray tray refl (λ f is. absurd cc)
check-cause (Err (check.Inputs why)) old new tray cause = inputs-cause why old new tray (cause why refl)
check-cause (Err (check.NotAccepted why)) old new tray cause = no-fault _ old new tray tray refl (λ f is. absurd cc)
check-cause (Err (check.NotGuarded why)) old new tray cause = no-fault _ old new tray tray refl (λ f is. absurd cc)

-- an answer that names no file at which the shelf failed, of a check that read its files
ended : (name : List ℕ) (answer : Report) (old new : ShelfState) (tray : TrayState) → IsAnswer IsCheckEnd answer → WhereTold old.files (λ fs. AgreesWith IsCheckEnd answer (released_of fs name)) → FaultsHaveCauses answer old new tray tray
    → WhereTold old.files (λ fs. ReachedFile (ReleaseComesTo fs name) (reading_of answer) fs new) → HasOnlyLookedOn Release name old new → IsCheckOf name answer old new tray tray
ended name answer old new tray answers told cause come shelf = record {
  run = run-of (λ fs. released_of fs name) (λ fs. ReleaseComesTo fs name) IsCheckEnd (λ said outcome one other. other ≡ one) answer old new tray tray answers told (λ fs held. refl) cause come;
  untouched = refl;
  shelf = shelf;
}

-- what holds of how it went on holds of the check
pub check-run : (name : List ℕ) (r : Result (Unit {0}) CheckStop) (old new : ShelfState) (tray : TrayState) → WhereTold old.files (λ fs. IsReleaseCheckAnswer (released_of fs name) r)
    → WhereTold old.files (λ fs. (e : InputStop) → r ≡ Err (check.Inputs e) → ReachedFile {X = Unit {0}} (ReleaseComesTo fs name) (Err e) fs new)
    → ((e : InputStop) → r ≡ Err (check.Inputs e) → HasCause {X = Unit {0}} (Err e) old new) → HasOnlyLookedOn Release name old new → IsCheckOf name (check_report r) old new tray tray
check-run name (Ok fine) old new tray told come cause shelf =
    ended name report.Accepted old new tray tt told (check-cause (Ok fine) old new tray cause) (λ fs held. read-comes (ReleaseComesTo fs name) fs new) shelf
check-run name (Err (check.Inputs why)) old new tray told come cause shelf = record {
  run = inputs-run (λ fs. released_of fs name) (λ fs. ReleaseComesTo fs name) IsCheckEnd (λ said outcome one other. other ≡ one) why old new tray told (λ outcome. refl) (cause why refl) (λ fs held. come fs held why refl);
  untouched = refl;
  shelf = shelf;
}
check-run name (Err (check.NotAccepted why)) old new tray told come cause shelf =
    ended name (report.NotAccepted why) old new tray tt told (check-cause (Err (check.NotAccepted why)) old new tray cause) (λ fs held. read-comes (ReleaseComesTo fs name) fs new) shelf
check-run name (Err (check.NotGuarded why)) old new tray told come cause shelf =
    ended name (report.NotGuarded why) old new tray tt told (check-cause (Err (check.NotGuarded why)) old new tray cause) (λ fs held. read-comes (ReleaseComesTo fs name) fs new) shelf
