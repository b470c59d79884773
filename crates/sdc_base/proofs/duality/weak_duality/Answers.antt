use Rattle.sdc_base.proofs.WeakDual.{duality}
use Rattle.sdc_base.proofs.duality.weak_duality.Goals as goal

pub returns : goal.returns
returns c = duality
