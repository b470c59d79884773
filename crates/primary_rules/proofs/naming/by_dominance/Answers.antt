use Rattle.std.proofs.Common.{arith}
use Rattle.std.proofs.lemmas.Grind.{common_steps}
use Rattle.primary_rules.proofs.naming.by_dominance.Goals as goal

pub excess-requires-clause-most : goal.excess-requires-clause-most
excess-requires-clause-most c = grind (arith, common_steps)
