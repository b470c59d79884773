use Rattle.microdata.proofs.OtherOrder.{order_changes_no_tree}
use Rattle.microdata.proofs.laws.order_changes_no_tree.Goals as goal

pub returns : goal.returns
returns c = order_changes_no_tree
