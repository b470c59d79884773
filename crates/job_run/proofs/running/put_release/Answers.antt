use Rattle.job_run.proofs.PromiseKept.{promise-kept}
use Rattle.job_run.proofs.running.put_release.Goals as goal

pub returns-in-Ok-clause-promise : goal.returns-in-Ok-clause-promise
returns-in-Ok-clause-promise g c = promise-kept _ _ _ _ _ _ c.in-Ok.ensures.run

pub returns-in-Err-clause-promise : goal.returns-in-Err-clause-promise
returns-in-Err-clause-promise g c = promise-kept _ _ _ _ _ _ c.in-Err.ensures.run
