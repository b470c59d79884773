use Rattle.std.proofs.Common.{◌<◌, ◌≤◌, ◌-◌, All, take, length}
use Rattle.rounding.proofs.walk.place_from.Given as goal

abbrev pub invariant-halves : goal.invariant-halves
invariant-halves l = record {
  order : l.low ≤ l.high;
  within : l.high ≤ length l.cells;
  below : All (λ cell. cell < l.first) (take l.low l.cells);
}

abbrev pub decreases-halves : goal.decreases-halves
decreases-halves l = l.high - l.low
