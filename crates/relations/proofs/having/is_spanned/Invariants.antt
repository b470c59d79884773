use Rattle.std.proofs.Common.{◌≡◌, drop}
use Rattle.std.specs.List.{list_any}
use Rattle.relations.specs.Having.{has_spanned}
use Rattle.relations.proofs.having.is_spanned.Given as goal

abbrev pub invariant-tables : goal.invariant-tables
invariant-tables l = list_any (has_spanned l.book.trees l.name l.variable) (drop l.t l.book.tables) ≡ list_any (has_spanned l.book.trees l.name l.variable) l.book.tables
