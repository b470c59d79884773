use Rattle.std.proofs.Common.{arith}
use Rattle.std.proofs.lemmas.Grind.{common_steps}
use Rattle.code_trees.proofs.level_code.add_prefixes.Goals as goal

pub widths-preserved : goal.widths-preserved
widths-preserved c = grind (arith, common_steps)
