use Rattle.std.proofs.Common.{◌≡◌, ℕ, slice_index, ◌<◌, ◌≤◌, length}
use Rattle.code_trees.specs.Links.{AreDepths}
use Rattle.code_trees.proofs.code_tree.depths_of.Given as goal

abbrev pub invariant-places : goal.invariant-places
invariant-places l = record {
  made : length l.depths.items ≡ l.place;
  small : (place : ℕ) → place < l.place → slice_index l.depths.items place ≤ place;
  climbs : AreDepths l.nodes l.place l.depths.items;
}
