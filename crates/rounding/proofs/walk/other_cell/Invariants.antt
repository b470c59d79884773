use Rattle.std.proofs.Common.{◌≡◌, ◌⊎◌, ℕ, true, All, take}
use Rattle.sdc_base.specs.Systems.{number_at}
use Rattle.rounding.specs.Neighbours.{is_multiple}
use Rattle.rounding.proofs.walk.other_cell.Given as goal

abbrev pub invariant-cells : goal.invariant-cells
invariant-cells l = All (λ (cell : ℕ). (cell ≡ l.last) ⊎ (is_multiple l.task.base (number_at l.numbers cell) ≡ true)) (take l.cell-index l.cells)
