use Rattle.std.proofs.Common.{◌≡◌, ◌-◌, map, take}
use Rattle.sdc_base.specs.Systems.{number_at}
use Rattle.tableau.specs.OwnRows.{row_over}
use Rattle.tableau.specs.NewRows.{placed_lists}
use Rattle.tableau.proofs.numbers_over.values_over.Given as goal

abbrev pub invariant-loop-k : goal.invariant-loop-k
invariant-loop-k l = l.values.items ≡ map (λ row. number_at row (l.width - 1)) (map (row_over l.den l.width) (take l.k (placed_lists l.olds l.news)))
