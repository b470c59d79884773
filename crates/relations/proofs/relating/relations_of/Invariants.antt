use Rattle.std.proofs.Common.{◌≡◌, ◌≤◌, ◌+◌, ◌*◌, ◌-◌, ◌++◌, [], length, map, slice_index_or, All}
use Rattle.std.specs.List.{flat_map, range_with_len}
use Rattle.sdc_base.specs.Relations.{relations_among, relations_for}
use Rattle.sdc_base.specs.Systems.{NamesCells}
use Rattle.linked_tables.specs.BookCells.{cells}
use Rattle.relations.specs.Holding.{sum_in}
use Rattle.relations.proofs.relating.relations_of.Given as goal

abbrev pub invariant-numbers : goal.invariant-numbers
invariant-numbers l = record {
  rest : map sum_in l.relations.items ++ flat_map (λ cell. relations_for l.book.trees l.book.tables cell (slice_index_or (cells l.book) cell [])) (range_with_len l.cell (length (cells l.book) - l.cell)) ≡ relations_among l.book.trees l.book.tables;
  within : All (NamesCells (length l.book.marks)) l.relations.items;
  few : length l.relations.items ≤ 8 * l.cell;
}
