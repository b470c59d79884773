use Rattle.std.proofs.Common.{◌+◌, map, take}
use Rattle.sdc_base.specs.Forms.{coefficient}
use Rattle.tableau.specs.Problems.{numbers_then_value}
use Rattle.tableau.specs.Entries.{AreListsOf}
use Rattle.tableau.specs.OwnRows.{with_den}
use Rattle.tableau.proofs.first_table.slack_rows.Given as goal

abbrev pub invariant-loop-row : goal.invariant-loop-row
invariant-loop-row l = AreListsOf (l.columns + 2) (take l.row-index (map (λ row. with_den (numbers_then_value l.columns (coefficient row.entries) row.bound)) l.rows)) l.lists.items
