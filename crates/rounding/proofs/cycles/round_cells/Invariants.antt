use Rattle.std.proofs.Common.{◌≡◌, ◌<◌, ℕ, true, length}
use Rattle.sdc_base.specs.Systems.{number_at}
use Rattle.rounding.specs.Neighbours.{is_multiple}
use Rattle.signed_network.specs.Balances.{IsBalanced}
use Rattle.rounding.specs.Rings.{AreBeside}
use Rattle.rounding.proofs.cycles.round_cells.Given as goal

abbrev pub invariant-cells : goal.invariant-cells
invariant-cells l = record {
  balanced : IsBalanced l.network.arcs.items (length l.network.touching.items) (number_at l.numbers);
  beside : AreBeside l.task.truths.now l.task.base l.numbers;
  whole : (cell : ℕ) → cell < l.cell → is_multiple l.task.base (number_at l.numbers cell) ≡ true;
}
