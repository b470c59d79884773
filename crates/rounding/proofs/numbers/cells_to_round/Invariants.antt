use Rattle.std.proofs.Common.{◌≡◌, ◌++◌, drop}
use Rattle.rounding.specs.Choices.{unrounded_cells}
use Rattle.rounding.proofs.numbers.cells_to_round.Given as goal

abbrev pub invariant-cells : goal.invariant-cells
invariant-cells l = l.found.items ++ unrounded_cells l.base l.cell (drop l.cell l.truths) ≡ unrounded_cells l.base 0 l.truths
