use Rattle.std.proofs.Common.{arith}
use Rattle.std.proofs.lemmas.Grind.{common_steps}
use Rattle.interval_audit.proofs.readings.moves_from.Goals as goal

pub terms-preserved : goal.terms-preserved
terms-preserved c = grind (arith, common_steps)

pub returns : goal.returns
returns c = grind (arith, common_steps)
