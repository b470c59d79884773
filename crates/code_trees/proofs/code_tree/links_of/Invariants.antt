use Rattle.std.proofs.Common.{◌≡◌, ℕ, ◌≤◌, None, length, drop, slice_index_or}
use Rattle.code_trees.specs.Children.{child_from, next_sibling}
use Rattle.code_trees.proofs.code_tree.links_of.Given as goal

abbrev pub invariant-places : goal.invariant-places
invariant-places l = record {
  within : l.place ≤ length l.nodes;
  firsts : length l.firsts.items ≡ length l.nodes;
  nexts : length l.nexts.items ≡ length l.nodes;
  children : (place : ℕ) → slice_index_or l.firsts.items place None ≡ child_from l.place place (drop l.place l.nodes);
  siblings : (place : ℕ) → l.place ≤ place → slice_index_or l.nexts.items place None ≡ next_sibling l.nodes place;
}

abbrev pub decreases-places : goal.decreases-places
decreases-places l = l.place
