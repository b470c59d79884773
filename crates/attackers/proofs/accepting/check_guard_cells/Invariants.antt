use Rattle.std.proofs.Common.{◌≡◌, drop}
use Rattle.attackers.specs.ExtraFaults.{guard_cells_fault}
use Rattle.attackers.proofs.accepting.check_guard_cells.Given as goal

abbrev pub invariant-loop-place : goal.invariant-loop-place
invariant-loop-place l =
    guard_cells_fault l.cells l.place l.least (drop l.place l.guards) ≡ guard_cells_fault l.cells 0 0 l.guards
