use Rattle.std.proofs.Common.{◌≡◌, ◌<◌, ℕ, length}
use Rattle.signed_network.specs.Arcs.{IsArcOf, arc_at}
use Rattle.signed_network.proofs.arcs.arcs_of.Given as goal

abbrev pub invariant-cells : goal.invariant-cells
invariant-cells l = record {
  each : length l.arcs.items ≡ l.cell;
  arced : (cell : ℕ) → cell < l.cell → IsArcOf l.system.relations l.signs cell (arc_at l.arcs.items cell);
}
