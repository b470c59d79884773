use Rattle.std.proofs.Common.{◌≡◌, map}
use Rattle.std.specs.List.{range_with_len}
use Rattle.attackers.specs.KnownCells.{is_hidden_or_known}
use Rattle.attackers.proofs.known.with_known.Given as goal

abbrev pub invariant-cells : goal.invariant-cells
invariant-cells l = l.more.items ≡ map (is_hidden_or_known l.soles l.row l.flags) (range_with_len 0 l.cell)
