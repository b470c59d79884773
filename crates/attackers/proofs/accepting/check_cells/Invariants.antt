use Rattle.std.proofs.Common.{◌≡◌, drop}
use Rattle.attackers.specs.ExtraFaults.{cells_fault}
use Rattle.attackers.proofs.accepting.check_cells.Given as goal

abbrev pub invariant-loop-place : goal.invariant-loop-place
invariant-loop-place l =
    cells_fault l.cells l.flags l.place l.least (drop l.place l.extras) ≡ cells_fault l.cells l.flags 0 0 l.extras
