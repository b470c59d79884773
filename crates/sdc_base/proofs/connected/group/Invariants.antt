use Rattle.std.proofs.Common.{◌≡◌, length}
use Rattle.sdc_base.specs.Forests.{AreNumbered}
use Rattle.sdc_base.proofs.connected.group.Given as goal

abbrev pub invariant-cells : goal.invariant-cells
invariant-cells l = record {
  each : length l.of.items ≡ l.cell;
  numbered : AreNumbered l.flags l.lower l.of.items l.sizes.items;
}
