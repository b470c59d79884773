use Rattle.std.proofs.Common.{◌≡◌, take}
use Rattle.attackers.specs.Guarding.{guards_in_order}
use Rattle.attackers.proofs.collecting.order_guards.Given as goal

abbrev pub invariant-asked : goal.invariant-asked
invariant-asked l = l.lines ≡ guards_in_order (take l.one-index l.asked) l.guards
