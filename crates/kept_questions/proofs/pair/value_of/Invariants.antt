use Rattle.std.proofs.Common.{◌≡◌, take}
use Rattle.sdc_base.specs.Forms.{coefficient}
use Rattle.kept_questions.proofs.pair.value_of.Given as goal

abbrev pub invariant-terms : goal.invariant-terms
invariant-terms l = l.value ≡ coefficient (take l.term-index l.list) 0
