use Rattle.std.proofs.Common.{ℕ, ◌<◌, slice_index_or}
use Rattle.sdc_base.specs.Trees.{Tree, IsCodeTree}
use Rattle.linked_tables.proofs.places.know_trees.Given as goal

abbrev pub invariant-trees : goal.invariant-trees
invariant-trees l = (k : ℕ) (d : Tree) → k < l.tree-index → IsCodeTree (slice_index_or l.trees k d)
