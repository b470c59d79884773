use Rattle.std.proofs.Common.{◌≤◌, ◌-◌, length}
use Rattle.rounding.specs.Fixes.{HoldFrom}
use Rattle.rounding.specs.FixedSteps.{IsForced}
use Rattle.rounding.proofs.forcing.propagate.Given as goal

abbrev pub invariant-fixes : goal.invariant-fixes
invariant-fixes l = record {
  forced : IsForced l.fn.bounds l.bounds;
  within : l.next ≤ length l.bounds.fixes;
  ready : HoldFrom l.next l.bounds;
}

abbrev pub decreases-fixes : goal.decreases-fixes
decreases-fixes l = l.fn.bounds.system.cells - l.next
