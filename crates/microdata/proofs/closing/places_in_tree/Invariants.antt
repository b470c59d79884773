use Rattle.std.proofs.Common.{◌≡◌, take}
use Rattle.microdata.specs.Closing.{places_in}
use Rattle.microdata.proofs.closing.places_in_tree.Given as goal

abbrev pub invariant-codes : goal.invariant-codes
invariant-codes l = l.places ≡ places_in l.tree (take l.code-index l.codes)
