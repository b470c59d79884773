use Rattle.std.proofs.Common.{◌≡◌, map, take}
use Rattle.std.specs.Prelude.{decimal}
use Rattle.cell_listing.proofs.relations_listing.add_numbers.Given as goal

abbrev pub invariant-numbers : goal.invariant-numbers
invariant-numbers l = l.words ≡ map decimal (take l.number-index l.numbers)
