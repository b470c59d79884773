use Rattle.std.proofs.Common.{◌≡◌, drop}
use Rattle.linked_tables.specs.Laws.{is_code}
use Rattle.cell_listing.proofs.tables_having.is_code.Given as goal

abbrev pub invariant-loop-dimension : goal.invariant-loop-dimension
invariant-loop-dimension l = is_code l.book.trees (drop l.dimension-index l.table) l.variable l.code ≡ is_code l.book.trees l.table l.variable l.code
