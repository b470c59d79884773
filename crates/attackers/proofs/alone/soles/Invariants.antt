use Rattle.std.proofs.Common.{◌≡◌, ◌<◌, ℕ, Some, None, length, slice_get, slice_index_or}
use Rattle.sdc_base.specs.Records.{Name}
use Rattle.linked_tables.specs.BookCells.{cells}
use Rattle.attackers.specs.Alone.{IsSole}
use Rattle.attackers.proofs.alone.soles.Given as goal

abbrev pub invariant-cells : goal.invariant-cells
invariant-cells l = record {
  count : length l.soles.items ≡ l.cell;
  each : (k : ℕ) (name : Name) → k < l.cell → slice_get (cells l.book) k ≡ Some name → IsSole l.book.trees l.rows name (slice_index_or l.soles.items k None);
}
