use Rattle.std.proofs.Common.{◌≡◌, ◌++◌, drop, length}
use Rattle.worlds.specs.ProtectFaults.{asked_of}
use Rattle.cell_protection.specs.Certifying.{world_lines}
use Rattle.cell_protection.proofs.certifying.world_lines.Given as goal

abbrev pub invariant-cells : goal.invariant-cells
invariant-cells l = record {
  made : l.lines ++ world_lines (asked_of l.number (drop l.number l.fn.cells)) (drop (length l.lines) l.fn.worlds) ≡ world_lines (asked_of 0 l.fn.cells) l.fn.worlds;
}
