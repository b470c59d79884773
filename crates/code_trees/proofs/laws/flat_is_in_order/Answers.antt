use Rattle.code_trees.proofs.FlatLaw.{flat_is_in_order}
use Rattle.code_trees.proofs.laws.flat_is_in_order.Goals as goal

pub returns : goal.returns
returns c = flat_is_in_order
