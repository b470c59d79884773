-- What a check of lists of moves decides, row by row (linear duality; own).
use Rattle.std.specs.Prelude.{◌≡◌, ℕ, suc, false, List, [], ◌∷◌, slice_get, is_some, ℤ, pos, neg_ℤ, ◌-ℤ◌, ◌*ℤ◌, ◌≤ℤ◌}
use Rattle.std.specs.Option.{option_map_or}
use Rattle.sdc_base.specs.Systems.{number_at}
use Rattle.tableau.specs.OptimalPairs.{IsNotBelowZeros}
use Rattle.interval_audit.specs.Labels.{Label, CapAbove, CapBelow, Form, Negated}
use Rattle.interval_audit.specs.MovePairs.{limit, toward}
use Rattle.kept_questions.specs.declared.labels.Checked.{Checked}
use Rattle.kept_questions.specs.TermLists.{moves_in}

-- what presses the row with a label against its bound: what is left over at a cell, or a relation's weight
abbrev pub pressure_of : Checked → Label → ℤ
pressure_of checked (CapAbove cell) = number_at checked.left.now cell
pressure_of checked (CapBelow cell) = neg_ℤ (number_at checked.left.now cell)
pressure_of checked (Form number) = neg_ℤ (number_at checked.weights.now number)
pressure_of checked (Negated number) = number_at checked.weights.now number

-- the row with a label, at this place, isn't past its bound, and stands at it where it is pressed against it
pub record LabelFits (checked : Checked) (k : ℕ) (label : Label) : Type 0 where
  pub within : (size : ℕ) → IsNotBelowZeros size (λ place. checked.den *ℤ limit checked.cells.now k label place
      -ℤ toward checked.system.now (moves_in checked.lists.now) label place)
  pub stands : pos 1 ≤ℤ pressure_of checked label → (place : ℕ) →
      toward checked.system.now (moves_in checked.lists.now) label place
      ≡ checked.den *ℤ limit checked.cells.now k label place

-- so does each of these rows, the first at this place
abbrev pub LabelsFit : Checked → ℕ → List Label → Type 0
LabelsFit checked k [] = Unit {0}
LabelsFit checked k (label ∷ labels) = LabelFits checked k label × LabelsFit checked (suc k) labels

-- nothing is left over above 0 at a cell without an upper bound
abbrev pub IsHeldBelow : Checked → ℕ → Type 0
IsHeldBelow checked cell =
    option_map_or (λ found. is_some found.high) (slice_get checked.cells.now cell) false ≡ false →
    number_at checked.left.now cell ≤ℤ pos 0
