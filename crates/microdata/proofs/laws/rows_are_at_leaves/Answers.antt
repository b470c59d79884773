use Rattle.microdata.proofs.AtLeaves.{rows_are_at_leaves}
use Rattle.microdata.proofs.laws.rows_are_at_leaves.Goals as goal

pub returns : goal.returns
returns c = rows_are_at_leaves
