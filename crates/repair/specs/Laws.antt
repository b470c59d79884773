-- What the definitions come to, in the subject's words (own).
use Rattle.std.specs.Prelude.{◌≡◌, ◌↔◌, ◌⊎◌, ℕ, ◌+◌, ◌*◌, ◌<◌, ◌==◌, true, List, length, map}
use Rattle.std.specs.List.{list_any}
use Rattle.sdc_base.specs.declared.cell.Cell.{Cell}
use Rattle.sdc_base.specs.declared.cell.Kind.TheVariants.{Primary}
use Rattle.sdc_base.specs.declared.side.Side.{Side}
use Rattle.sdc_base.specs.declared.side.Side.TheVariants.{Above, Below}
use Rattle.sdc_base.specs.HiddenSets.{is_hidden}
use Rattle.worlds.specs.declared.refuted.Refuted.{Refuted}
use Rattle.repair.specs.HidingOrder.{IsOfKind, planned_set, hide_subjects, StandsAt}

-- the number is one of these
abbrev pub IsAmong : List ℕ → ℕ → Type 0
IsAmong numbers number = list_any (λ one. one == number) numbers ≡ true

-- the set that repairs make of the planned set holds exactly the primary cells, the corners and the subjects of the
-- repairs
abbrev pub OpenSetHolds : Type 0
OpenSetHolds =
    (cells : List Cell) (corners : List ℕ) (repairs : List Refuted) (cell : ℕ) → cell < length cells
    → (is_hidden (hide_subjects (planned_set cells corners) repairs) cell ≡ true) ↔
    (IsOfKind cells cell Primary ⊎ (IsAmong corners cell ⊎ IsAmong (map (λ repair. repair.subject) repairs) cell))

-- how many questions come before one, were all cells primary
abbrev pub rank : ℕ × Side → ℕ
rank (number, Above) = 2 * number
rank (number, Below) = 2 * number + 1

-- The questions are those of the primary cells to both sides, in ascending order of the cells, above before below.
pub record AreInOrder (cells : List Cell) : Type 0 where
  pub primary : (asked : ℕ × Side) (place : ℕ) → StandsAt cells asked place → IsOfKind cells asked.0 Primary
  pub each : (number : ℕ) (side : Side) → IsOfKind cells number Primary
      → (place : ℕ) × StandsAt cells (number, side) place
  pub ascending : (one other : ℕ × Side) (place later : ℕ) → StandsAt cells one place → StandsAt cells other later
      → place < later → rank one < rank other

-- the questions of all cells are in order
abbrev pub QuestionsAreInOrder : Type 0
QuestionsAreInOrder = (cells : List Cell) → AreInOrder cells
