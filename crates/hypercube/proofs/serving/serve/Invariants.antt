use Rattle.std.proofs.Common.{◌≡◌, drop}
use Rattle.sdc_base.specs.Cubes.{serve}
use Rattle.hypercube.proofs.serving.serve.Given as goal

abbrev pub invariant-loop-corner : goal.invariant-loop-corner
invariant-loop-corner l = serve l.cells l.levels (drop l.corner-index l.corners) ≡ serve l.cells l.levels l.corners
