use Rattle.std.proofs.Common.{◌≡◌, length}
use Rattle.signed_network.specs.Networks.{AreTouching}
use Rattle.signed_network.proofs.network.touching_of.Given as goal

abbrev pub invariant-cells : goal.invariant-cells
invariant-cells l = record {
  each : length l.touching.items ≡ l.points;
  touched : AreTouching l.flags l.arcs l.cell l.touching.items;
}
