use Rattle.std.proofs.Common.{rules, ◌≡◌, arith}
use Rattle.std.proofs.lemmas.Int.{ints}
use Rattle.tests_inputs.proofs.cost_rule_tests.priced.Goals as goal

pub invariant_of-result-clause-primary : goal.invariant_of-result-clause-primary
invariant_of-result-clause-primary c = λ free. absurd (search rules)
