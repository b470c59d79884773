use Rattle.std.proofs.Common.{arith}
use Rattle.std.proofs.lemmas.Grind.{common_steps}
use Rattle.code_trees.proofs.code_tree.CodeTree.of_nodes.Goals as goal

pub links_of-requires-clause-none : goal.links_of-requires-clause-none
links_of-requires-clause-none c = grind (arith, common_steps)

pub links_of-requires-clause-alone : goal.links_of-requires-clause-alone
links_of-requires-clause-alone c = grind (arith, common_steps)
