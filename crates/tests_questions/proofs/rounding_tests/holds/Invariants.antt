use Rattle.std.proofs.Common.{◌≡◌, take}
use Rattle.sdc_base.specs.Totals.{sum_of}
use Rattle.sdc_base.specs.Systems.{number_at}
use Rattle.tests_questions.proofs.rounding_tests.holds.Given as goal

abbrev pub invariant-parts : goal.invariant-parts
invariant-parts l = l.sum ≡ sum_of (number_at l.numbers) (take l.part-index l.relation.parts)
