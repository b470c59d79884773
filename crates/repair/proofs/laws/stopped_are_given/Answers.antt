use Rattle.repair.proofs.Stopping.{stopped_are_given}
use Rattle.repair.proofs.laws.stopped_are_given.Goals as goal

pub returns : goal.returns
returns c = stopped_are_given
