use Rattle.std.proofs.Common.{◌≡◌, length}
use Rattle.tableau.specs.NewRows.{AreNewRows, placed_lists}
use Rattle.tableau.proofs.exchange.new_rows.Given as goal

abbrev pub invariant-loop-k : goal.invariant-loop-k
invariant-loop-k l = record { long : length l.news.items ≡ l.k; new : AreNewRows l.table l.row l.column (placed_lists l.table.rows.items l.news.items) }
