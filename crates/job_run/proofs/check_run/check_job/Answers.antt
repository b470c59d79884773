use Rattle.std.proofs.Common.{◌≡◌, Err, ap, sym, subst, ◌∙◌}
use Rattle.job_check.specs.declared.stop.CheckStop.TheVariants as check
use Rattle.job_run.specs.Checks.{IsCheckOf}
use Rattle.job_run.specs.Reports.{FaultsHaveCauses}
use Rattle.job_run.specs.declared.report.Report.{Report}
use Rattle.job_run.proofs.CheckRuns.{check_report, check-run, check-cause}
use Rattle.job_run.proofs.check_run.check_job.Goals as goal

pub returns-in-Err-Inputs-clause-check : goal.returns-in-Err-Inputs-clause-check
returns-in-Err-Inputs-clause-check g c =
    let is : c.check_release.result ≡ Err (check.Inputs c.in-Err-Inputs.stop) = c.in-Err-Inputs.is ∙ ap Err c.in-Err-Inputs.field-0-is in
    let same : check_report c.check_release.result ≡ c.from.result = ap check_report is ∙ sym c.from.ensures in
    subst (λ (answer : Report). IsCheckOf c.args.name.now answer (g.S.Shelf.state c.args.shelf.now) (g.S.Shelf.state c.check_release.new.shelf) (g.T.Tray.state c.args.tray.now) (g.T.Tray.state c.args.tray.now)) same
    (check-run c.args.name.now c.check_release.result _ _ _ c.check_release.ensures.told c.check_release.ensures.came_to c.check_release.ensures.cause c.check_release.ensures.shelf)

pub returns-in-Err-Inputs-clause-cause : goal.returns-in-Err-Inputs-clause-cause
returns-in-Err-Inputs-clause-cause g c =
    let is : c.check_release.result ≡ Err (check.Inputs c.in-Err-Inputs.stop) = c.in-Err-Inputs.is ∙ ap Err c.in-Err-Inputs.field-0-is in
    let same : check_report c.check_release.result ≡ c.from.result = ap check_report is ∙ sym c.from.ensures in
    subst (λ (answer : Report). FaultsHaveCauses answer (g.S.Shelf.state c.args.shelf.now) (g.S.Shelf.state c.check_release.new.shelf) (g.T.Tray.state c.args.tray.now) (g.T.Tray.state c.args.tray.now)) same
    (check-cause c.check_release.result _ _ _ c.check_release.ensures.cause)
