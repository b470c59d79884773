use Rattle.std.proofs.Common.{◌≡◌, length, drop}
use Rattle.repair.specs.HidingOrder.{protected_case}
use Rattle.attackers.specs.ExtraFaults.{guards_fault}
use Rattle.attackers.proofs.accepting.check_guards.Given as goal

abbrev pub invariant-loop-place : goal.invariant-loop-place
invariant-loop-place l = record {
  same : guards_fault (protected_case l.extended.system.now l.extended.cells.now) l.extended.hidden.now.flags l.place (drop l.place l.guards) ≡ guards_fault (protected_case l.extended.system.now l.extended.cells.now) l.extended.hidden.now.flags 0 l.guards;
  long : length l.scratch ≡ l.extended.system.now.cells;
}
