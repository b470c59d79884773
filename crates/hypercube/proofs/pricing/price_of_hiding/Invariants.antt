use Rattle.std.proofs.Common.{◌≡◌, ◌≤◌, ◌*◌, ◌^◌, take}
use Rattle.sdc_base.specs.CubeOrder.{price_of_hiding}
use Rattle.hypercube.specs.LeastCubes.{is_marked, price_in}
use Rattle.hypercube.proofs.pricing.price_of_hiding.Given as goal

abbrev pub invariant-loop-corner : goal.invariant-loop-corner
invariant-loop-corner g l = record {
  sum : l.sum ≡ price_of_hiding (is_marked l.book) (price_in l.book l.cells l.rule) (take l.corner-index l.corners);
  few : l.sum ≤ 2 ^ 64 * l.corner-index;
}
