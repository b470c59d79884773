use Rattle.std.proofs.Common.{◌≡◌, ◌++◌, drop}
use Rattle.attackers.specs.AttackOrder.{attacks_on}
use Rattle.attackers.specs.ExtraFaults.{attacks_fault}
use Rattle.attackers.proofs.meeting.check_row.Given as goal

abbrev pub invariant-places : goal.invariant-places
invariant-places l =
    attacks_fault l.cells l.soles (l.worlds ++ l.guards) (attacks_on l.soles (drop l.place l.asked) l.row)
    ≡ attacks_fault l.cells l.soles (l.worlds ++ l.guards) (attacks_on l.soles l.asked l.row)
