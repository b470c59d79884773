use Rattle.job_lang.proofs.Meant.{are_meant}
use Rattle.job_lang.proofs.laws.jobs_are_as_stated.Goals as goal

pub returns : goal.returns
returns c = are_meant
