use Rattle.std.proofs.Common.{◌≡◌}
use Rattle.sdc_base.specs.CutTrees as cut_trees
use Rattle.sdc_base.specs.Cells.{cut_tree}
use Rattle.linked_tables.proofs.book.Book.code_within.Given as goal

abbrev pub invariant-upwards : goal.invariant-upwards
invariant-upwards l = cut_trees.code_within (cut_tree l.self.trees l.dimension) l.met ≡ cut_trees.code_within (cut_tree l.self.trees l.dimension) l.code

abbrev pub decreases-upwards : goal.decreases-upwards
decreases-upwards l = l.met
