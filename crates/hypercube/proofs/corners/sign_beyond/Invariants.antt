use Rattle.std.proofs.Common.{◌≡◌, take}
use Rattle.hypercube.specs.Branches.{sign_beyond}
use Rattle.hypercube.proofs.corners.sign_beyond.Given as goal

abbrev pub invariant-edges : goal.invariant-edges
invariant-edges l = l.plus ≡ sign_beyond (take l.edge-index l.edges)
