use Rattle.std.proofs.Common.{◌≡◌, take}
use Rattle.worlds.specs.NumberLists.{terms_of, number_given}
use Rattle.worlds.proofs.moves.move_of.Given as goal

abbrev pub invariant-loop-one : goal.invariant-loop-one
invariant-loop-one l = l.by ≡ number_given (terms_of (take l.one-index l.moves)) l.cell
