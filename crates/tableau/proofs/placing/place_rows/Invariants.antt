use Rattle.std.proofs.Common.{◌≡◌, length, take}
use Rattle.tableau.proofs.NewRows.{ArePlaced}
use Rattle.tableau.proofs.placing.place_rows.Given as goal

abbrev pub invariant-place : goal.invariant-place
invariant-place l = record {
  left : l.news.items ≡ take (length l.news.items) l.fn.news.items;
  placed : ArePlaced l.fn.rows.items l.rows.items l.fn.news.items (length l.news.items);
}

abbrev pub decreases-place : goal.decreases-place
decreases-place l = length l.news.items
