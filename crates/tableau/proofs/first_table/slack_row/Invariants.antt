use Rattle.tableau.proofs.FirstNumbers.{IsCopied}
use Rattle.tableau.proofs.first_table.slack_row.Given as goal

abbrev pub invariant-loop-entry : goal.invariant-loop-entry
invariant-loop-entry l = IsCopied l.columns l.entry-index (λ n. n) l.entries l.made.items
