use Rattle.std.proofs.Common.{Err, ap, ◌∙◌}
use Rattle.job_run.proofs.AuditRuns.{stopped-run-of, stopped-cause-of}
use Rattle.job_run.proofs.audit_run.put_audit.Goals as goal

pub returns-in-Err-Inputs-clause-audit : goal.returns-in-Err-Inputs-clause-audit
returns-in-Err-Inputs-clause-audit g c =
    stopped-run-of c.args.name.now c.args.out.now c.find_audit.result _ c.from.result _ _ _ (c.in-Err-Inputs.is ∙ ap Err c.in-Err-Inputs.field-0-is) c.from.ensures
    c.find_audit.ensures.told c.find_audit.ensures.came_to c.find_audit.ensures.cause c.find_audit.ensures.shelf

pub returns-in-Err-Inputs-clause-cause : goal.returns-in-Err-Inputs-clause-cause
returns-in-Err-Inputs-clause-cause g c =
    stopped-cause-of c.find_audit.result _ c.from.result _ _ _ (c.in-Err-Inputs.is ∙ ap Err c.in-Err-Inputs.field-0-is) c.from.ensures c.find_audit.ensures.cause

pub returns-clause-audit : goal.returns-clause-audit
returns-clause-audit g c =
    stopped-run-of c.args.name.now c.args.out.now c.find_audit.result _ c.question_report.result _ _ _ (c.in-Err-Undecided.is ∙ ap Err c.in-Err-Undecided.field-0-is) c.question_report.ensures c.find_audit.ensures.told c.find_audit.ensures.came_to
    c.find_audit.ensures.cause c.find_audit.ensures.shelf
