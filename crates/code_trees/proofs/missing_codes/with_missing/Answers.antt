use Rattle.std.proofs.Common.{arith}
use Rattle.std.proofs.lemmas.Grind.{common_steps}
use Rattle.code_trees.proofs.missing_codes.with_missing.Goals as goal

pub returns-in_err-add_missing-clause-exact : goal.returns-in_err-add_missing-clause-exact
returns-in_err-add_missing-clause-exact c = grind (arith, common_steps)

pub missing-preserved : goal.missing-preserved
missing-preserved c = grind (arith, common_steps)

pub returns-clause-exact : goal.returns-clause-exact
returns-clause-exact c = grind (arith, common_steps)
