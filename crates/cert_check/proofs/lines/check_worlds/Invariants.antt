use Rattle.std.proofs.Common.{◌≡◌, ◌≤◌, length}
use Rattle.cert_check.specs.WorldList.{fault_from, worlds_fault}
use Rattle.cert_check.proofs.lines.check_worlds.Given as goal

abbrev pub invariant-cells : goal.invariant-cells
invariant-cells l = record {
  long : length l.scratch ≡ length l.fn.scratch;
  within : l.place ≤ length l.lines;
  rest : worlds_fault l.case.system.now l.case.cells.now l.hidden.flags l.lines ≡ fault_from l.case.system.now l.case.cells.now l.hidden.flags l.lines l.number l.place;
}
