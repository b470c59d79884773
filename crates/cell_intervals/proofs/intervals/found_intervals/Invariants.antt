use Rattle.std.proofs.Common.{◌≡◌, ◌++◌, ◌-◌, All, List, ℕ, filter, map}
use Rattle.std.specs.List.{range_with_len}
use Rattle.sdc_base.specs.HiddenSets.{is_hidden}
use Rattle.cell_intervals.specs.declared.interval.CellInterval.{CellInterval}
use Rattle.cell_intervals.specs.Intervals.{IsIntervalOf, hidden_cells}
use Rattle.cell_intervals.proofs.intervals.found_intervals.Given as goal

abbrev pub invariant-cells : goal.invariant-cells
invariant-cells l = record {
  numbers : map (λ (interval : CellInterval). interval.cell) l.intervals ++ filter (is_hidden l.hidden.flags) (range_with_len l.cell (l.system.cells - l.cell)) ≡ hidden_cells l.hidden.flags;
  each : All (IsIntervalOf l.system l.cells l.hidden.flags) l.intervals;
}
