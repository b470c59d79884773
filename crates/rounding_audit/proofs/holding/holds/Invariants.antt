use Rattle.std.proofs.Common.{◌≡◌, ◌≤ℤ◌, pos, take, ◌-ℤ◌}
use Rattle.sdc_base.specs.Totals.{sum_of}
use Rattle.sdc_base.specs.Systems.{number_at}
use Rattle.rounding_audit.proofs.holding.holds.Given as goal

abbrev pub invariant-loop-part : goal.invariant-loop-part
invariant-loop-part l = record {
  from_zero : pos 0 ≤ℤ l.left;
  left_is : l.left ≡ number_at l.values l.relation.total -ℤ sum_of (number_at l.values) (take l.part-index l.part-items);
}
