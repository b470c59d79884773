use Rattle.std.proofs.Common.{◌≡◌, ◌++◌}
use Rattle.attackers.proofs.trying.add_all.Given as goal

abbrev pub invariant-news : goal.invariant-news
invariant-news l = l.lines ≡ l.fn.lines ++ l.yielded
