use Rattle.std.proofs.Common.{◌≡◌, take, flat_map}
use Rattle.attackers.specs.AttackOrder.{unserved_on}
use Rattle.attackers.proofs.order.unserved_attacks.Given as goal

abbrev pub invariant-rows : goal.invariant-rows
invariant-rows l =
    l.left.items ≡ flat_map (unserved_on l.cells l.soles l.asked l.worlds) (take l.row-index l.row-items)
