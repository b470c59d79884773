use Rattle.std.proofs.Common.{◌≡◌, ◌++◌, ◌-◌, ◌<◌, All, Bool, List, ℕ, true, filter, map}
use Rattle.std.specs.List.{range_with_len}
use Rattle.sdc_base.specs.HiddenSets.{is_hidden}
use Rattle.sdc_base.specs.Signs.{AreSigns}
use Rattle.cell_intervals.specs.declared.interval.CellInterval.{CellInterval}
use Rattle.cell_intervals.specs.IntervalFaults.{HasBothEnds}
use Rattle.cell_intervals.specs.Intervals.{HasWholeEnds, IsIntervalOf, hidden_cells}
use Rattle.cell_intervals.proofs.intervals.asked_intervals.Given as goal

abbrev pub invariant-cells : goal.invariant-cells
invariant-cells l = record {
  numbers : map (λ (interval : CellInterval). interval.cell) l.intervals ++ filter (is_hidden l.hidden.flags) (range_with_len l.cell (l.system.cells - l.cell)) ≡ hidden_cells l.hidden.flags;
  each : All (IsIntervalOf l.system l.cells l.hidden.flags) l.intervals;
  whole : (signs : List Bool) → AreSigns l.system.relations signs → All (HasWholeEnds l.system l.cells l.hidden.flags) l.intervals;
  ended : (other : ℕ) → other < l.cell → is_hidden l.hidden.flags other ≡ true → HasBothEnds l.system l.cells l.hidden.flags other;
}
