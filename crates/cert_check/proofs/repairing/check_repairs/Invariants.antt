use Rattle.std.proofs.Common.{◌≡◌, drop, length}
use Rattle.repair.specs.HidingOrder.{hide_subjects}
use Rattle.cert_check.specs.RepairList.{repairs_fault}
use Rattle.cert_check.proofs.repairing.check_repairs.Given as goal

abbrev pub invariant-loop-place : goal.invariant-loop-place
invariant-loop-place l = record {
  long : length l.scratch ≡ length l.fn.scratch;
  each : length l.hidden.flags ≡ length l.fn.hidden.flags;
  repaired : hide_subjects l.fn.hidden.flags l.repairs ≡ hide_subjects l.hidden.flags (drop l.place l.repairs);
  rest : repairs_fault l.system l.cells l.fn.hidden.flags 0 l.repairs ≡ repairs_fault l.system l.cells l.hidden.flags l.place (drop l.place l.repairs);
}
