use Rattle.std.proofs.Common.{◌≡◌, take}
use Rattle.worlds.specs.NumberLists.{terms_of, number_given}
use Rattle.kept_questions.proofs.reach_check.move_of.Given as goal

abbrev pub invariant-moves : goal.invariant-moves
invariant-moves l = l.by ≡ number_given (terms_of (take l.one-index l.moves)) l.cell
