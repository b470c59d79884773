use Rattle.job_run.proofs.Releasing.{numbers-are}
use Rattle.job_run.proofs.numbers.unhidden_summary.Goals as goal

pub returns : goal.returns
returns c = λ settled is.
    numbers-are settled c.args.job.now c.as_slice.result.now c.cells.result c.primary_in.result is c.cells.ensures.cells c.as_slice.ensures c.primary_in.ensures
