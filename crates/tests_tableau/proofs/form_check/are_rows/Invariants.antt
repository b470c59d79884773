use Rattle.std.proofs.Common.{take, All, pos, ◌≤ℤ◌}
use Rattle.tableau.specs.ProblemForm.{AreEntries}
use Rattle.tests_tableau.proofs.form_check.are_rows.Given as goal

abbrev pub invariant-loop-row : goal.invariant-loop-row
invariant-loop-row l = record {
  entries : All (λ row. AreEntries l.columns row.entries) (take l.row-index l.rows);
  bounds : All (λ row. pos 0 ≤ℤ row.bound) (take l.row-index l.rows);
}
