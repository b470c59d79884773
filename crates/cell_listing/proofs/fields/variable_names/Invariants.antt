use Rattle.std.proofs.Common.{◌≡◌, map, take}
use Rattle.cell_listing.specs.Columns.{name_in}
use Rattle.cell_listing.proofs.fields.variable_names.Given as goal

abbrev pub invariant-places : goal.invariant-places
invariant-places l = l.names ≡ map (name_in l.variables) (take l.place-index l.described.bound.spanning)
