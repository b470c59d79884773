use Rattle.tableau.specs.NewRows.{placed_lists}
use Rattle.tableau.proofs.LeastDens.{IsDenBefore}
use Rattle.tableau.proofs.multiples.rows_den.Given as goal

abbrev pub invariant-loop-k : goal.invariant-loop-k
invariant-loop-k l = IsDenBefore l.width (placed_lists l.olds l.news) l.k l.den
