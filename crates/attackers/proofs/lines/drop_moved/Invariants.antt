use Rattle.std.proofs.Common.{◌≡◌, filter}
use Rattle.attackers.specs.Dropping.{stays}
use Rattle.attackers.proofs.lines.drop_moved.Given as goal

abbrev pub invariant-old : goal.invariant-old
invariant-old l = l.lines ≡ filter (stays l.cell) l.yielded
