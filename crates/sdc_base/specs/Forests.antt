-- Cells that point to lower cells, by which the components are found (own).
use Rattle.std.specs.Prelude.{◌≡◌, ℕ, zero, suc, ◌<◌, ◌≤◌, Bool, true, false, List, length, slice_index, Option, None, Some}
use Rattle.sdc_base.specs.Places.{count}
use Rattle.sdc_base.specs.HiddenSets.{is_hidden}
use Rattle.sdc_base.specs.Components.{AreLinked, component, is_of, mentions}
use Rattle.sdc_base.specs.declared.relation.Relation.{Relation}

-- the cell that so many steps lead to
abbrev pub ascend : List ℕ → ℕ → ℕ → ℕ
ascend lower zero cell = cell
ascend lower (suc steps) cell = ascend lower steps (slice_index lower cell)

-- steps lead from the cell to this one
abbrev pub LeadsTo : List ℕ → ℕ → ℕ → Type 0
LeadsTo lower cell root = (steps : ℕ) × (ascend lower steps cell ≡ root)

-- steps from both cells lead to one and the same
abbrev pub Meet : List ℕ → ℕ → ℕ → Type 0
Meet lower one other = (root : ℕ) × LeadsTo lower one root × LeadsTo lower other root

-- a cell for each of so many, which is itself or a lower one that relations link to it
pub record IsForest (relations : List Relation) (flags : List Bool) (cells : ℕ) (lower : List ℕ) : Type 0 where
  pub each : length lower ≡ cells
  pub falls : (cell : ℕ) → slice_index lower cell ≤ cell
  pub links : (cell : ℕ) → cell < cells → AreLinked relations flags cell (slice_index lower cell)

-- the hidden cells that the relation names meet
abbrev pub Joins : List Bool → List ℕ → Relation → Type 0
Joins flags lower r =
    (one other : ℕ) → is_hidden flags one ≡ true → is_hidden flags other ≡ true → mentions r one ≡ true
    → mentions r other ≡ true → Meet lower one other

-- the numbers of the cells' components so far, and how many cells each has
pub record AreNumbered (flags : List Bool) (lower : List ℕ) (of : List (Option ℕ)) (sizes : List ℕ) : Type 0 where
  pub no_more_than_cells : length sizes ≤ length of
  pub shown : (cell : ℕ) → is_hidden flags cell ≡ false → component of cell ≡ None
  pub hidden : (cell : ℕ) → cell < length of → is_hidden flags cell ≡ true
      → (number : ℕ) × (component of cell ≡ Some number)
  pub below : (cell number : ℕ) → component of cell ≡ Some number → number < length sizes
  pub same : (cell : ℕ) → cell < length of → is_hidden flags cell ≡ true
      → component of cell ≡ component of (slice_index lower cell)
  pub apart : (one other number : ℕ) → slice_index lower one ≡ one → slice_index lower other ≡ other
      → component of one ≡ Some number → component of other ≡ Some number → one ≡ other
  pub all : (number : ℕ) → number < length sizes → (cell : ℕ) × (component of cell ≡ Some number)
  pub first : (cell number before : ℕ) → component of cell ≡ Some number → before < number
      → (lowest : ℕ) × (lowest < cell) × (component of lowest ≡ Some before)
  pub counted : (number : ℕ) → slice_index sizes number ≡ count (is_of number) of
