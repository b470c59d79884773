use Rattle.std.proofs.Common.{◌≡◌, ◌++◌, drop}
use Rattle.attackers.specs.AttackOrder.{unserved_on}
use Rattle.attackers.proofs.order.add_unserved.Given as goal

abbrev pub invariant-places : goal.invariant-places
invariant-places l =
    l.left.items ++ unserved_on l.cells l.soles (drop l.place l.asked) (drop l.place l.worlds) l.row
    ≡ l.fn.left.items ++ unserved_on l.cells l.soles l.asked l.worlds l.row
