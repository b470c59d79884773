use Rattle.std.proofs.Common.{◌≡◌, length, take}
use Rattle.sdc_base.specs.HiddenSets.{hide_cells}
use Rattle.sdc_base.proofs.hidden.Hidden.hide_all.Given as goal

abbrev pub invariant-loop-cell : goal.invariant-loop-cell
invariant-loop-cell l = record {
  hidden : l.self.flags ≡ hide_cells l.fn.self.flags (take l.cell-index l.cells);
  each : length l.self.flags ≡ length l.fn.self.flags;
}
