-- Points of linear problems, and their dual multipliers (linear programming).
use Rattle.std.specs.Prelude.{◌≡◌, ℕ, ◌<◌, List, length, All, ℤ, pos, ◌*ℤ◌, ◌≤ℤ◌}
use Rattle.std.specs.List.{zip}
use Rattle.sdc_base.specs.Totals.{sum_of}
use Rattle.sdc_base.specs.Forms.{Term, coefficient}
use Rattle.sdc_base.specs.Systems.{Numbers}
use Rattle.tableau.specs.declared.problem.LinRow.{LinRow}
use Rattle.tableau.specs.declared.problem.Problem.{Problem}

-- what entries come to on the amounts of the columns
abbrev pub comes_to : Numbers → List Term → ℤ
comes_to amounts entries = sum_of (λ entry. entry.1 *ℤ amounts entry.0) entries

-- A point of a problem without its target: amounts of the columns over a denominator, none below 0, and every row at
-- most its bound.
pub record IsPoint (problem : Problem) (den : ℤ) (amounts : Numbers) : Type 0 where
  pub positive : pos 1 ≤ℤ den
  pub from_zero : (column : ℕ) → column < problem.columns → pos 0 ≤ℤ amounts column
  pub within : All (λ row. comes_to amounts row.entries ≤ℤ (den *ℤ row.bound)) problem.rows

-- what rows have at a column, each as many times as its weight says
abbrev pub weighed_at : List (ℤ × LinRow) → ℕ → ℤ
weighed_at weighed column = sum_of (λ w. w.0 *ℤ coefficient w.1.entries column) weighed

-- the bounds of rows, each as many times as its weight says
abbrev pub weighed_bounds : List (ℤ × LinRow) → ℤ
weighed_bounds weighed = sum_of (λ w. w.0 *ℤ w.1.bound) weighed

-- Dual multipliers of a problem over q, the target's row not weighed: a weight from 0 for each row, by which the rows
-- have at each column at least q times what the objective has there.
pub record AreDualWeights (problem : Problem) (q : ℤ) (weights : List ℤ) : Type 0 where
  pub positive : pos 1 ≤ℤ q
  pub each : length weights ≡ length problem.rows
  pub from_zero : All (λ weight. pos 0 ≤ℤ weight) weights
  pub enough : (column : ℕ) → column < problem.columns
      → (q *ℤ coefficient problem.objective column) ≤ℤ weighed_at (zip weights problem.rows) column
