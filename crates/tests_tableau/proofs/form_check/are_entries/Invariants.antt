use Rattle.std.proofs.Common.{◌<◌, drop, take, All, pos, neg_ℤ, ◌<ℤ◌, ◌^◌}
use Rattle.tableau.specs.ProblemForm.{AscendFrom}
use Rattle.tests_tableau.proofs.form_check.are_entries.Given as goal

abbrev pub invariant-loop-entry : goal.invariant-loop-entry
invariant-loop-entry l = record {
  ascend : AscendFrom l.next (drop l.entry-index l.entries) → AscendFrom 0 l.entries;
  named : All (λ entry. entry.0 < l.columns) (take l.entry-index l.entries);
  narrow : All (λ entry. neg_ℤ (pos (2 ^ 127)) <ℤ entry.1) (take l.entry-index l.entries);
}
