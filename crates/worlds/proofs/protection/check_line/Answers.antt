use Rattle.std.proofs.Common.{arith}
use Rattle.std.proofs.lemmas.Grind.{elements}
use Rattle.worlds.proofs.protection.check_line.Goals as goal

pub returns-clause-exact : goal.returns-clause-exact
returns-clause-exact c = grind (arith, elements)

pub returns-then-not-reaches-clause-exact : goal.returns-then-not-reaches-clause-exact
returns-then-not-reaches-clause-exact c = grind (arith, elements)
