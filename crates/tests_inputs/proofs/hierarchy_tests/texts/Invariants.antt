use Rattle.std.proofs.Common.{◌≤◌, All, length}
use Rattle.tests_inputs.proofs.hierarchy_tests.texts.Given as goal

abbrev pub invariant-bytes : goal.invariant-bytes
invariant-bytes l = All (λ text. length text ≤ l.most) l.made.items
