use Rattle.std.proofs.Common.{◌≡◌, ◌++◌, drop, length}
use Rattle.sdc_base.specs.Cubes.{edges_at}
use Rattle.hypercube.proofs.edges.edges_at.Given as goal

abbrev pub invariant-variables : goal.invariant-variables
invariant-variables l = record {
  rest : l.lists.items ++ edges_at l.book.trees l.name (drop l.k l.table) (drop l.k l.parents) ≡ edges_at l.book.trees l.name l.table l.parents;
  few : length l.lists.items ≡ l.k;
}
