use Rattle.std.proofs.Common.{arith}
use Rattle.std.proofs.lemmas.Grind.{common_steps}
use Rattle.primary_rules.proofs.quotient.up_from.Goals as goal

pub returns-then-up-lt1-clause-value : goal.returns-then-up-lt1-clause-value
returns-then-up-lt1-clause-value c = grind (arith, common_steps)

pub returns-else-up-lt1-clause-value : goal.returns-else-up-lt1-clause-value
returns-else-up-lt1-clause-value c = grind (arith, common_steps)

pub returns-else-up-lt1-clause-at_most : goal.returns-else-up-lt1-clause-at_most
returns-else-up-lt1-clause-at_most c = grind (arith, common_steps)
