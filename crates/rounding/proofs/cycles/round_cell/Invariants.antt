use Rattle.std.proofs.Common.{length}
use Rattle.sdc_base.specs.Systems.{number_at}
use Rattle.rounding.specs.Choices.{unrounded_cells}
use Rattle.signed_network.specs.Balances.{IsBalanced}
use Rattle.rounding.specs.Rings.{AreBeside, KeepMultiples}
use Rattle.rounding.proofs.cycles.round_cell.Given as goal

abbrev pub invariant-rounds : goal.invariant-rounds
invariant-rounds l = record {
  balanced : IsBalanced l.network.arcs.items (length l.network.touching.items) (number_at l.numbers);
  beside : AreBeside l.task.truths.now l.task.base l.numbers;
  multiples : KeepMultiples l.task.base l.fn.numbers l.numbers;
}

abbrev pub decreases-rounds : goal.decreases-rounds
decreases-rounds l = length (unrounded_cells l.task.base 0 l.numbers)
