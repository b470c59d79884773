use Rattle.sdc_base.specs.Systems.{number_at}
use Rattle.rounding.proofs.SumSteps.{AreFirstExtremes}
use Rattle.rounding.proofs.numbers.extremes_of.Given as goal

abbrev pub invariant-relations : goal.invariant-relations
invariant-relations l = AreFirstExtremes (number_at l.one) (number_at l.other) l.relations l.sums.items l.relation-index
