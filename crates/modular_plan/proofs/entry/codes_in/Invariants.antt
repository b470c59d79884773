use Rattle.std.proofs.Common.{◌≡◌, ◌-◌, ◌++◌, [], length, slice_index_or}
use Rattle.std.specs.Option.{ForSome, option_map_or}
use Rattle.sdc_base.specs.Cells.{cut_tree}
use Rattle.sdc_base.specs.Cubes.{codes_in}
use Rattle.code_trees.proofs.Children.{children_from, IsChild}
use Rattle.modular_plan.proofs.entry.codes_in.Given as goal

abbrev pub invariant-children : goal.invariant-children
invariant-children l = record {
  rest : l.codes.items ++ children_from (slice_index_or l.book.trees l.dimension.variable []) l.parent l.met ≡ codes_in (cut_tree l.book.trees l.dimension) l.parent;
  child : ForSome l.met (λ child. IsChild (slice_index_or l.book.trees l.dimension.variable []) l.parent 0 child);
}

abbrev pub decreases-children : goal.decreases-children
decreases-children l = option_map_or (λ child. length (slice_index_or l.book.trees l.dimension.variable []) - child) l.met 0
