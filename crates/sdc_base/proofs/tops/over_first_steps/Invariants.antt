use Rattle.std.proofs.Common.{◌≡◌, ◌≤◌, ◌*◌, ◌-◌, ◌^◌, drop, pos, ◌+ℤ◌, neg_ℤ, ◌≤ℤ◌}
use Rattle.sdc_base.specs.Largest.{first_steps}
use Rattle.sdc_base.proofs.tops.over_first_steps.Given as goal

abbrev pub invariant-loop-unit : goal.invariant-loop-unit
invariant-loop-unit l = record {
  sum : l.sum +ℤ first_steps l.left (drop l.unit-index l.units) ≡ first_steps l.fn.steps l.units;
  left : l.left ≤ l.fn.steps;
  low : neg_ℤ (pos (2 ^ 63 * (l.fn.steps - l.left))) ≤ℤ l.sum;
  high : l.sum ≤ℤ pos (2 ^ 63 * (l.fn.steps - l.left));
}
