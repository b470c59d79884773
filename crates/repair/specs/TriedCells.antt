-- Open cells tried as shown, one after another, where the hidden set has to keep something up (own).
use Rattle.std.specs.Prelude.{◌≡◌, ◌≢◌, ℕ, ◌<◌, ◌&&◌, Bool, true, List, [], ◌∷◌, ◌++◌, map, filter, drop, All}
use Rattle.std.specs.List.{range_with_len}
use Rattle.sdc_base.specs.HiddenSets.{is_hidden}
use Rattle.repair.specs.HidingOrder.{show_all, IsSubset}
use Rattle.repair.specs.Needs.{set_when_tried}

-- the numbers ascend
abbrev pub Ascend : List ℕ → Type 0
Ascend [] = Unit {0}
Ascend (one ∷ more) = All (λ other. one < other) more × Ascend more

-- whether a cell is open: it is hidden, and one of those that may be shown
abbrev pub is_open : (ℕ → Bool) → List Bool → ℕ → Bool
is_open may_show flags cell = is_hidden flags cell && may_show cell

-- the open cells below a number, ascending
abbrev pub open_cells : (ℕ → Bool) → List Bool → ℕ → List ℕ
open_cells may_show flags n = filter (is_open may_show flags) (range_with_len 0 n)

-- The cells that were shown, from the set of all open cells: ascending and open; with the last of them, which was being
-- tried, put back the set holds; and each open cell below the last that stayed hidden was needed when it was tried.
pub record AreShownAgain (Holds : List Bool → Type 0) (may_show : ℕ → Bool) (larger : List Bool) (shown : List ℕ)
    : Type 0 where
  pub ascending : Ascend shown
  pub are_open : All (λ cell. is_open may_show larger cell ≡ true) shown
  pub held_before : (earlier : List ℕ) (last : ℕ) → shown ≡ earlier ++ last ∷ [] → Holds (show_all larger earlier)
  pub others_needed : (earlier : List ℕ) (last cell : ℕ) → shown ≡ earlier ++ last ∷ [] → cell < last
      → is_open may_show (show_all larger shown) cell ≡ true
      → ¬ Holds (set_when_tried (show_all larger shown) larger cell)

-- something stops trying while a cell, the last of those shown, is being tried, or once all have been tried
pub record StopsTrying (Holds : List Bool → Type 0) (may_show : ℕ → Bool) (Stops : List Bool → Type 0)
    (larger : List Bool) (shown : List ℕ) : Type 0 where
  pub are_shown : AreShownAgain Holds may_show larger shown
  pub shows_a_cell : shown ≢ []
  pub stops : Stops (show_all larger shown)

-- a need of a cell below a number: it refutes the set of the cells that were hidden when the cell was tried
pub record IsNeedBelow {N : Type 0} (subject : N → ℕ) (Refutes : List Bool → N → Type 0) (flags larger : List Bool)
    (n : ℕ) (need : N) : Type 0 where
  pub below : subject need < n
  pub refuted : Refutes (set_when_tried flags larger (subject need)) need

-- The open cells below a number have been tried, from the set of all open cells on: the hidden set is what is left
-- without those that were shown, it holds, and each open cell that is left has its need.
pub record AreTried {N : Type 0} (subject : N → ℕ) (Refutes : List Bool → N → Type 0) (Holds : List Bool → Type 0)
    (may_show : ℕ → Bool) (larger : List Bool) (n : ℕ) (flags : List Bool) (needs : List N) (shown : List ℕ)
    : Type 0 where
  pub hidden_is : flags ≡ show_all larger shown
  pub within : IsSubset flags larger
  pub rest : drop n flags ≡ drop n larger
  pub holding : Holds flags
  pub each_needed : map subject needs ≡ open_cells may_show flags n
  pub are_needs : All (IsNeedBelow subject Refutes flags larger n) needs
  pub ascending : Ascend shown
  pub below : All (λ cell. cell < n) shown
  pub are_open : All (λ cell. is_open may_show larger cell ≡ true) shown
