use Rattle.std.proofs.Common.{◌≡◌, ◌+◌, ◌++◌, drop}
use Rattle.cell_listing.specs.Columns.{having_from}
use Rattle.cell_listing.proofs.tables_having.tables_having.Given as goal

abbrev pub invariant-tables : goal.invariant-tables
invariant-tables l = l.words ++ having_from l.book.trees (l.t + 1) (drop l.t l.tables) l.name ≡ having_from l.book.trees 1 l.tables l.name
