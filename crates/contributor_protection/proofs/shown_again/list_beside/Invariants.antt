use Rattle.std.proofs.Common.{◌≡◌, ◌-◌, ◌++◌, filter}
use Rattle.std.specs.List.{range_with_len}
use Rattle.attackers.specs.Dropping.{cells_beside, is_beside}
use Rattle.contributor_protection.proofs.shown_again.list_beside.Given as goal

abbrev pub invariant-cells : goal.invariant-cells
invariant-cells l = record {
  found : l.found ++ filter (is_beside l.fn.first l.fn.larger) (range_with_len l.cell (l.fn.count - l.cell)) ≡ cells_beside l.fn.first l.fn.larger l.fn.count;
}
