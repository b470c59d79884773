use Rattle.std.proofs.Common.{◌≡◌, ◌+◌, drop, length}
use Rattle.worlds.specs.ProtectFaults.{asked_of, lines_fault, fault_from}
use Rattle.worlds.proofs.protection.check_lines.Given as goal

abbrev pub invariant-cells : goal.invariant-cells
invariant-cells l = record {
  long : length l.scratch ≡ length l.fn.scratch;
  count : l.line + length (asked_of l.number (drop l.number l.pattern.cells.now)) ≡ length l.worlds;
  rest : lines_fault l.pattern.system.now l.pattern.cells.now l.pattern.hidden.now.flags 0 (asked_of 0 l.pattern.cells.now) l.worlds ≡ fault_from l.pattern l.worlds l.number l.line;
}
