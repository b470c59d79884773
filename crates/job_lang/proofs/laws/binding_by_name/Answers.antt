use Rattle.job_lang.proofs.BoundNames.{bound_as_named}
use Rattle.job_lang.proofs.laws.binding_by_name.Goals as goal

pub returns : goal.returns
returns c = bound_as_named
