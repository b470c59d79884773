use Rattle.std.proofs.Common.{arith}
use Rattle.std.proofs.lemmas.Grind.{common_steps}
use Rattle.tableau.proofs.lists.slack_places.Goals as goal

pub loop-j-init : goal.loop-j-init
loop-j-init c = grind (arith, common_steps)
