use Rattle.std.proofs.Common.{◌≡◌, length}
use Rattle.tests_tables.proofs.relations_tests.hidden_of.Given as goal

abbrev pub invariant-cells : goal.invariant-cells
invariant-cells l = length l.flags.items ≡ l.cell
