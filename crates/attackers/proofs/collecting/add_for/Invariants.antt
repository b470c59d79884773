use Rattle.std.proofs.Common.{◌≡◌, ◌++◌, take, filter}
use Rattle.attackers.specs.Guarding.{is_for}
use Rattle.attackers.proofs.collecting.add_for.Given as goal

abbrev pub invariant-guards : goal.invariant-guards
invariant-guards l = l.lines ≡ l.fn.lines ++ filter (is_for l.asked) (take l.line-index l.guards)
