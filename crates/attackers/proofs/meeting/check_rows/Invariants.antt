use Rattle.std.proofs.Common.{◌≡◌, ◌++◌, drop, flat_map}
use Rattle.attackers.specs.AttackOrder.{attacks_on}
use Rattle.attackers.specs.ExtraFaults.{attacks_fault}
use Rattle.attackers.proofs.meeting.check_rows.Given as goal

abbrev pub invariant-rows : goal.invariant-rows
invariant-rows l =
    attacks_fault l.cells l.soles (l.worlds ++ l.guards) (flat_map (attacks_on l.soles l.asked) (drop l.row-index l.rows))
    ≡ attacks_fault l.cells l.soles (l.worlds ++ l.guards) (flat_map (attacks_on l.soles l.asked) l.rows)
