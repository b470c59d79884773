use Rattle.std.proofs.Common.{◌≡◌, ◌+◌, ◌*◌, ◌≤◌, drop, length}
use Rattle.worlds.specs.ProtectFaults.{asked_of}
use Rattle.worlds.proofs.protection.count_asked.Given as goal

abbrev pub invariant-loop-cell : goal.invariant-loop-cell
invariant-loop-cell l = record {
  count : l.count + length (asked_of l.cell-index (drop l.cell-index l.pattern.cells.now)) ≡ length (asked_of 0 l.pattern.cells.now);
  few : l.count ≤ 2 * l.cell-index;
}
