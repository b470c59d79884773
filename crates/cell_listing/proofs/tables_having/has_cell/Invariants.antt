use Rattle.std.proofs.Common.{◌≡◌, drop}
use Rattle.relations.specs.Having.{has_codes}
use Rattle.cell_listing.specs.Columns.{has_cell}
use Rattle.cell_listing.proofs.tables_having.has_cell.Given as goal

abbrev pub invariant-variables : goal.invariant-variables
invariant-variables l = has_codes l.book.trees l.table l.variable (drop l.variable l.name) ≡ has_cell l.book.trees l.table l.name
