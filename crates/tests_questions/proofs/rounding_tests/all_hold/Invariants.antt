use Rattle.std.proofs.Common.{◌≡◌, ◌<◌, ℕ, Some, slice_get, pos}
use Rattle.sdc_base.specs.declared.relation.Relation.{Relation}
use Rattle.sdc_base.specs.Systems.{form, number_at}
use Rattle.tests_questions.proofs.rounding_tests.all_hold.Given as goal

abbrev pub invariant-relations : goal.invariant-relations
invariant-relations l = (k : ℕ) (r : Relation) → k < l.relation-index → slice_get l.relations k ≡ Some r → form (number_at l.numbers) r ≡ pos 0
