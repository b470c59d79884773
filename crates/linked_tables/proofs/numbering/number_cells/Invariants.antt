use Rattle.std.proofs.Common.{◌≡◌, ◌+◌, ◌≤◌, [], take, drop, length, All}
use Rattle.sdc_base.specs.Cells.{cells_of}
use Rattle.linked_tables.specs.Tables.{first_table_fault, most_cells}
use Rattle.linked_tables.specs.BookCells.{IsTable}
use Rattle.linked_tables.specs.BookKeeping.{starts_of}
use Rattle.linked_tables.proofs.numbering.number_cells.Given as goal

abbrev pub invariant-tables : goal.invariant-tables
invariant-tables l = record {
  rest : first_table_fault l.trees [] l.tables ≡ first_table_fault l.trees (take l.t l.tables) (drop l.t l.tables);
  sound : All (IsTable (length l.trees)) (take l.t l.tables);
  named : l.names ≡ cells_of l.trees (take l.t l.tables);
  room : length l.names ≤ most_cells;
  begun : l.starts.items ≡ starts_of l.trees l.tables (l.t + 1);
}
