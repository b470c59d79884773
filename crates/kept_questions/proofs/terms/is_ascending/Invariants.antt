use Rattle.std.proofs.Common.{◌≡◌, drop}
use Rattle.kept_questions.specs.TermLists.{ascends}
use Rattle.kept_questions.proofs.terms.is_ascending.Given as goal

abbrev pub invariant-terms : goal.invariant-terms
invariant-terms l = ascends 0 l.terms ≡ ascends l.least (drop l.term-index l.terms)
