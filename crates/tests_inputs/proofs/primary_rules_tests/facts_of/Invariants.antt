use Rattle.std.proofs.Common.{◌≡◌}
use Rattle.tests_inputs.proofs.primary_rules_tests.facts_of.Given as goal

abbrev pub invariant-loop-value : goal.invariant-loop-value
invariant-loop-value l = record { keep : l.tops.keep ≡ l.keep; scale : l.tops.scale ≡ 1 }
