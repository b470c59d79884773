use Rattle.std.proofs.Common.{◌≡◌, map, take}
use Rattle.sdc_base.specs.Cells as cells
use Rattle.linked_tables.proofs.numbering.whole_tables.Given as goal

abbrev pub invariant-tables : goal.invariant-tables
invariant-tables l = l.made.items ≡ map cells.whole_table (take l.table-index l.tables)
