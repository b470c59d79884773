use Rattle.std.proofs.Common.{◌≡◌, ◌≤◌, length, drop}
use Rattle.attackers.specs.ExtraFaults.{need_cells_fault}
use Rattle.attackers.proofs.accepting.check_need_cells.Given as goal

abbrev pub invariant-loop-place : goal.invariant-loop-place
invariant-loop-place l = record {
  same : need_cells_fault l.cells l.soles l.place (drop l.place l.subjects) (drop l.place l.needs) ≡ need_cells_fault l.cells l.soles 0 l.subjects l.needs;
  within : l.place ≤ length l.subjects;
}
