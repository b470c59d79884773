use Rattle.std.proofs.Common.{◌≡◌, ℕ, ◌<◌, ◌≤◌, ◌-◌, ◌++◌, [], length, slice_index, slice_index_or, All}
use Rattle.std.specs.Option.{ForSome, option_map_or}
use Rattle.sdc_base.specs.Relations.{codes_below, parts_among}
use Rattle.linked_tables.specs.BookCells.{cells}
use Rattle.code_trees.proofs.Children.{children_from, IsChild}
use Rattle.relations.proofs.below.parts_of.Given as goal

abbrev pub invariant-children : goal.invariant-children
invariant-children l = record {
  rest : l.parts.items ++ parts_among (cells l.book) l.name l.variable (children_from (slice_index_or l.book.trees l.variable []) (slice_index l.name l.variable) l.met) ≡ parts_among (cells l.book) l.name l.variable (codes_below l.book.trees l.name l.variable);
  child : ForSome l.met (λ child. IsChild (slice_index_or l.book.trees l.variable []) (slice_index l.name l.variable) 0 child);
  few : length l.parts.items ≤ option_map_or (λ child. child) l.met (length (slice_index_or l.book.trees l.variable []));
  named : All (λ part. part < length l.book.marks) l.parts.items;
}

abbrev pub decreases-children : goal.decreases-children
decreases-children l = option_map_or (λ child. length (slice_index_or l.book.trees l.variable []) - child) l.met 0
