-- Worlds that leave a cell where it is.
use Rattle.std.proofs.Common.{◌≡◌, ℕ, inl, inr, ◌==◌, ◌||◌, Bool, true, false, List, [], ◌∷◌, fold, ℤ, pos, refl, ap, ◌∙◌, if◌then◌else◌}
use Rattle.std.specs.List.{list_any}
use Rattle.sdc_base.specs.Forms.{Term}
use Rattle.worlds.specs.declared.world.Move.{Move}
use Rattle.worlds.specs.declared.world.World.{World}
use Rattle.worlds.specs.NumberLists.{terms_of, number_given}
use Rattle.worlds.specs.WorldFaults.{IsGivenWorld}
use Rattle.repair.specs.HidingOrder.{Case}
use Rattle.sdc_base.specs.HiddenSets.{hide}
use Rattle.repair.proofs.Flags.{same_or_other, hidden_other}

or_false : (a b : Bool) → (a || b) ≡ false → (a ≡ false) × (b ≡ false)
or_false true b is = absurd cc
or_false false b is = (refl, is)

unmoved_from : (cell : ℕ) (a : ℤ) (moves : List Move) → list_any (λ one. one.cell == cell) moves ≡ false → fold (λ number (term : Term). if term.0 == cell then term.1 else number) a (terms_of moves) ≡ a
unmoved_from cell a [] none = refl
unmoved_from cell a (one ∷ moves) none =
    let both : ((one.cell == cell) ≡ false) × (list_any (λ (m : Move). m.cell == cell) moves ≡ false) = or_false (one.cell == cell) (list_any (λ (m : Move). m.cell == cell) moves) none in
    ap (λ b. fold (λ number (term : Term). if term.0 == cell then term.1 else number) (if b then one.by else a) (terms_of moves)) both.0 ∙ unmoved_from cell a moves both.1

-- a cell that no move names stays where it is
pub unmoved : (cell : ℕ) (moves : List Move) → list_any (λ one. one.cell == cell) moves ≡ false → number_given (terms_of moves) cell ≡ pos 0
unmoved cell moves none = unmoved_from cell (pos 0) moves none

-- a world in which the cell doesn't move stays one where the cell is shown
pub still_world : (c : Case) (flags : List Bool) (cell : ℕ) (world : World) → number_given (terms_of world.moves) cell ≡ pos 0 → IsGivenWorld c.system c.cells (hide flags cell) world → IsGivenWorld c.system c.cells flags world
still_world c flags cell world none is = record {
  listed = is.listed;
  is_world = record {
    positive = is.is_world.positive;
    shown_stay = λ k inside shown. elim (same_or_other k cell) [
      | inl same ↦ ap (number_given (terms_of world.moves)) same ∙ none
      | inr other ↦ is.is_world.shown_stay k inside (hidden_other flags cell k other ∙ shown)
    ];
    relations_hold = is.is_world.relations_hold;
    bounds_hold = is.is_world.bounds_hold;
  };
}
