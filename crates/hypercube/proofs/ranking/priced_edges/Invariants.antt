use Rattle.std.proofs.Common.{◌≡◌, ◌++◌, drop}
use Rattle.hypercube.specs.Ranks.{priced_of}
use Rattle.hypercube.proofs.ranking.priced_edges.Given as goal

abbrev pub invariant-edges : goal.invariant-edges
invariant-edges g l = l.priced.items ++ priced_of l.search l.k (drop l.edge-index l.edges) ≡ priced_of l.search l.k l.edges
