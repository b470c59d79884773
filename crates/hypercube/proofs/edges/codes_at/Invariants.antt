use Rattle.std.proofs.Common.{◌≡◌, ◌++◌, drop, length}
use Rattle.hypercube.specs.Branches.{codes_at}
use Rattle.hypercube.proofs.edges.codes_at.Given as goal

abbrev pub invariant-variables : goal.invariant-variables
invariant-variables l = record {
  rest : l.codes.items ++ codes_at l.name (drop l.k l.table) (drop l.k l.parents) ≡ codes_at l.name l.table l.parents;
  few : length l.codes.items ≡ l.k;
}
