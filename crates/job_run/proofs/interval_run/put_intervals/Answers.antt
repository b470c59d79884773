use Rattle.std.proofs.Common.{Err, ap, ◌∙◌}
use Rattle.job_run.proofs.IntervalRuns.{stopped-run-of, stopped-cause-of}
use Rattle.job_run.proofs.interval_run.put_intervals.Goals as goal

pub returns-in-Err-Inputs-clause-intervals : goal.returns-in-Err-Inputs-clause-intervals
returns-in-Err-Inputs-clause-intervals g c =
    stopped-run-of c.args.name.now c.args.out.now c.find_intervals.result _ c.from.result _ _ _ (c.in-Err-Inputs.is ∙ ap Err c.in-Err-Inputs.field-0-is) c.from.ensures
    c.find_intervals.ensures.told c.find_intervals.ensures.came_to c.find_intervals.ensures.cause c.find_intervals.ensures.shelf

pub returns-in-Err-Inputs-clause-cause : goal.returns-in-Err-Inputs-clause-cause
returns-in-Err-Inputs-clause-cause g c =
    stopped-cause-of c.find_intervals.result _ c.from.result _ _ _ (c.in-Err-Inputs.is ∙ ap Err c.in-Err-Inputs.field-0-is) c.from.ensures c.find_intervals.ensures.cause

pub returns-clause-intervals : goal.returns-clause-intervals
returns-clause-intervals g c =
    stopped-run-of c.args.name.now c.args.out.now c.find_intervals.result _ c.question_report.result _ _ _ (c.in-Err-Undecided.is ∙ ap Err c.in-Err-Undecided.field-0-is) c.question_report.ensures c.find_intervals.ensures.told c.find_intervals.ensures.came_to
    c.find_intervals.ensures.cause c.find_intervals.ensures.shelf
