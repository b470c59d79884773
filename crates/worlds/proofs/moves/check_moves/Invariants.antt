use Rattle.std.proofs.Common.{◌≡◌, drop}
use Rattle.worlds.specs.NumberLists.{terms_of}
use Rattle.worlds.specs.WorldFaults.{moves_fault}
use Rattle.worlds.proofs.moves.check_moves.Given as goal

abbrev pub invariant-loop-one : goal.invariant-loop-one
invariant-loop-one l = moves_fault l.pattern.cells.now l.pattern.hidden.now.flags l.den (terms_of l.moves) ≡ moves_fault l.pattern.cells.now l.pattern.hidden.now.flags l.den (terms_of (drop l.one-index l.moves))
