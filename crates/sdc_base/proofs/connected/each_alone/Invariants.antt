use Rattle.std.proofs.Common.{◌≡◌}
use Rattle.std.specs.List.{range_with_len}
use Rattle.sdc_base.proofs.connected.each_alone.Given as goal

abbrev pub invariant-cells : goal.invariant-cells
invariant-cells l = l.lower.items ≡ range_with_len 0 l.cell
