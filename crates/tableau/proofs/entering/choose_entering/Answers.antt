use Rattle.std.proofs.Common.{arith, rules}
use Rattle.std.proofs.lemmas.Grind.{common_steps}
use Rattle.tableau.proofs.entering.choose_entering.Goals as goal

pub returns-then-index : goal.returns-then-index
returns-then-index c = grind (arith, common_steps)

pub returns : goal.returns
returns c = grind (arith, common_steps)

pub returns-in_default : goal.returns-in_default
returns-in_default c = search rules

pub returns-then-least-number : goal.returns-then-least-number
returns-then-least-number c = search rules
