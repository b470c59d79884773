use Rattle.std.proofs.Common.{◌≡◌, take}
use Rattle.attackers.specs.AttackOrder.{sole_rows}
use Rattle.attackers.proofs.order.sole_rows.Given as goal

abbrev pub invariant-loop-sole : goal.invariant-loop-sole
invariant-loop-sole l = l.rows.keys ≡ sole_rows (take l.sole-index l.soles)
