-- Flows: moves of cells by which a question's network is balanced and every cell is within its bounds (network flows;
-- own).
use Rattle.std.specs.Prelude.{◌≡◌, ℕ, false, List, length, slice_get, Some, ℤ, pos, neg_ℤ, ◌≤ℤ◌}
use Rattle.sdc_base.specs.declared.cell.Cell.{Cell}
use Rattle.sdc_base.specs.HiddenSets.{is_hidden}
use Rattle.sdc_base.specs.Signs.{number_with_sign}
use Rattle.sdc_base.specs.Systems.{number_at}
use Rattle.sdc_base.specs.Worlds.{IsWithinBounds}
use Rattle.signed_network.specs.Balances.{IsBalanced}
use Rattle.flow_worlds.specs.declared.task.Task.{Task}

-- a move for each cell: balanced, none of a shown cell, each within the cell's bounds
pub record IsFlow (task : Task) (moves : List ℤ) : Type 0 where
  pub each : length moves ≡ length task.cells.now
  pub balanced : IsBalanced task.arcs.now (length task.system.now.relations) (number_at moves)
  pub shown_stay : (cell : ℕ) → is_hidden task.flags.now cell ≡ false → number_at moves cell ≡ pos 0
  pub bounds_hold : (number : ℕ) (cell : Cell) → slice_get task.cells.now number ≡ Some cell
      → IsWithinBounds cell (pos 1) (number_at moves number)

-- a flow by which the asked cell moves so far to its side, and no cell further to either side
pub record IsFlowOf (task : Task) (amount : ℤ) (moves : List ℤ) : Type 0 where
  pub flow : IsFlow task moves
  pub asked : number_with_sign task.asked.up (number_at moves task.asked.cell) ≡ amount
  pub low : (cell : ℕ) → neg_ℤ amount ≤ℤ number_at moves cell
  pub high : (cell : ℕ) → number_at moves cell ≤ℤ amount
