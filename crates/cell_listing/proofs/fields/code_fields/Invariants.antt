use Rattle.std.proofs.Common.{◌≡◌, ◌++◌, drop}
use Rattle.cell_listing.specs.Columns.{codes_of_name}
use Rattle.cell_listing.proofs.fields.code_fields.Given as goal

abbrev pub invariant-variables : goal.invariant-variables
invariant-variables l = l.fields ++ codes_of_name (drop l.variable l.book.trees) (drop l.variable l.name) ≡ codes_of_name l.book.trees l.name
