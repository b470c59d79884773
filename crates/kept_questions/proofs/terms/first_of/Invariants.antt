use Rattle.std.proofs.Common.{◌≡◌, drop}
use Rattle.kept_questions.specs.TermLists.{first_number}
use Rattle.kept_questions.proofs.terms.first_of.Given as goal

abbrev pub invariant-terms : goal.invariant-terms
invariant-terms l = first_number l.terms ≡ first_number (drop l.term-index l.terms)
