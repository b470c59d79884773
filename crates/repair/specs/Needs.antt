-- Needs: why each cell that isn't primary must stay hidden (own).
use Rattle.std.specs.Prelude.{ℕ, ◌+◌, ◌&&◌, not, Bool, false, List, [], ◌∷◌, ◌++◌, take, drop, if◌then◌else◌}
use Rattle.sdc_base.specs.Kinds.{is_primary}
use Rattle.sdc_base.specs.declared.cell.Cell.{Cell}
use Rattle.sdc_base.specs.declared.cell.Kind.TheVariants.{Primary}
use Rattle.sdc_base.specs.HiddenSets.{is_hidden, show}
use Rattle.worlds.specs.declared.refuted.Refuted.{Refuted}
use Rattle.worlds.specs.RefutationFaults.{IsGivenRefutation}
use Rattle.repair.specs.LevelQuestions.{AreGiven}
use Rattle.repair.specs.HidingOrder.{Case, IsOfKind, IsFirstUnprotected}
use Rattle.repair.specs.Repairs.{cell_and_side}

-- the hidden cells that aren't primary, from this number on
abbrev pub others_hidden : List Bool → ℕ → List Cell → List ℕ
others_hidden flags number [] = []
others_hidden flags number (cell ∷ cells) =
    if is_hidden flags number && not (is_primary cell.kind) then number ∷ others_hidden flags (number + 1) cells
    else others_hidden flags (number + 1) cells

-- a hidden set below a cell, the cell shown, and the larger set above it: the cells that were hidden when the cell was
-- tried
abbrev pub set_when_tried : List Bool → List Bool → ℕ → List Bool
set_when_tried flags larger cell = take cell flags ++ false ∷ drop (cell + 1) larger

-- A need shows that its subject must stay hidden: its cell is primary, and its multipliers refute the cell's level for
-- the hidden set without the subject, and for the larger set in which all open cells above the subject are hidden too.
-- Its question is the first that this larger set doesn't protect, and the multipliers are those of its answer.
pub record IsNeed (c : Case) (flags larger : List Bool) (need : Refuted) : Type 0 where
  pub cell_primary : IsOfKind c.cells need.cell Primary
  pub refutes : IsGivenRefutation c.system c.cells (show flags need.subject) need.cell need.side need.multipliers
  pub refutes_larger : IsGivenRefutation c.system c.cells (set_when_tried flags larger need.subject) need.cell need.side
      need.multipliers
  pub first : IsFirstUnprotected c (set_when_tried flags larger need.subject) (cell_and_side need)
  pub gives : AreGiven c.system c.cells (set_when_tried flags larger need.subject) (cell_and_side need) need.multipliers
