use Rattle.std.proofs.Common.{◌≡◌, map, take}
use Rattle.certificate.specs.TokenLists.{move_of}
use Rattle.certificate.proofs.tokens.moves_of_terms.Given as goal

abbrev pub invariant-terms : goal.invariant-terms
invariant-terms l = l.moves ≡ map move_of (take l.term-index l.terms)
