use Rattle.std.proofs.Common.{◌<◌, ℕ, ℤ, get_or}
use Rattle.sdc_base.specs.Truths.{IsTruth}
use Rattle.tests_questions.proofs.rounding_tests.are_truths.Given as goal

abbrev pub invariant-truths : goal.invariant-truths
invariant-truths l = (k : ℕ) (d : ℤ) → k < l.truth-index → IsTruth (get_or l.truths k d)
