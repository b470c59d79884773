use Rattle.std.proofs.Common.{◌≡◌, map, take}
use Rattle.hypercube.proofs.corners.partners_of.Given as goal

abbrev pub invariant-edges : goal.invariant-edges
invariant-edges l = l.partners.items ≡ map (λ edge. edge.other) (take l.edge-index l.edges)
