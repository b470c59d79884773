use Rattle.job_run.proofs.GuardedJobs.{parts-ready, parts-settled}
use Rattle.job_run.proofs.release.hiding_release.Goals as goal

pub hide_parts-requires-clause-ready : goal.hide_parts-requires-clause-ready
hide_parts-requires-clause-ready c =
    let job = c.args.job in
    parts-ready job c.as_slice.result.now c.as_slice-2.result.now c.as_slice.ensures c.as_slice-2.ensures c.requires.can.ready

pub returns-clause-comes : goal.returns-clause-comes
returns-clause-comes c = λ settled is.
    let job = c.args.job in
    c.hide_parts.ensures.comes job.records job.skipped settled
    (parts-settled settled job c.as_slice.result.now c.as_slice-2.result.now c.as_slice.ensures c.as_slice-2.ensures is)
    (c.unhidden_summary-summary.ensures settled is)
