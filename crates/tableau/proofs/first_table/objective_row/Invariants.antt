use Rattle.std.proofs.Common.{neg_ℤ}
use Rattle.tableau.proofs.FirstNumbers.{IsCopied}
use Rattle.tableau.proofs.first_table.objective_row.Given as goal

abbrev pub invariant-loop-entry : goal.invariant-loop-entry
invariant-loop-entry l = IsCopied l.columns l.entry-index neg_ℤ l.entries l.made.items
