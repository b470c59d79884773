use Rattle.job_run.proofs.SecondRuns.{second_runs_complete}
use Rattle.job_run.proofs.laws.second_runs_complete.Goals as goal

pub returns : goal.returns
returns c = second_runs_complete
