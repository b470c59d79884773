use Rattle.std.proofs.Common.{◌≡◌, drop}
use Rattle.relations.specs.Having.{has_codes}
use Rattle.relations.proofs.having.has_codes.Given as goal

abbrev pub invariant-variables : goal.invariant-variables
invariant-variables l = has_codes l.book.trees l.table l.variable (drop l.variable l.name) ≡ has_codes l.book.trees l.table 0 l.name
