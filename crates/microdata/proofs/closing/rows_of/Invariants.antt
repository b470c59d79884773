use Rattle.std.proofs.Common.{◌≡◌, ◌-◌, ◌≤◌, length}
use Rattle.microdata.specs.Closing.{rows_of}
use Rattle.microdata.proofs.RowsPlaced.{placed_to}
use Rattle.microdata.proofs.closing.rows_of.Given as goal

abbrev pub invariant-rows : goal.invariant-rows
invariant-rows l = record {
  so_far : rows_of l.closed l.fn.kept ≡ placed_to l.closed l.numbers.items l.rows.items l.k;
  as_many : length l.numbers.items ≡ length l.rows.items;
  within : l.k ≤ length l.rows.items;
}

abbrev pub decreases-rows : goal.decreases-rows
decreases-rows l = length l.rows.items - l.k
