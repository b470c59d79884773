-- Which hidden cells relations link: the connected parts of a hidden set (handbook, secondary suppression; the
-- numbering own).
use Rattle.std.specs.Prelude.{◌≡◌, ◌↔◌, ℕ, zero, suc, ◌<◌, ◌==◌, ◌||◌, Bool, true, false, List, length, slice_get, slice_index, slice_index_or, Option, None, Some}
use Rattle.std.specs.List.{list_any}
use Rattle.sdc_base.specs.declared.relation.Relation.{Relation}
use Rattle.sdc_base.specs.Places.{count}
use Rattle.sdc_base.specs.HiddenSets.{is_hidden}

-- the relation names the cell, as its total or as one of its parts
abbrev pub mentions : Relation → ℕ → Bool
mentions r cell = r.total == cell || list_any (λ part. part == cell) r.parts

-- both cells are hidden, and one relation names both
pub record AreRelated (relations : List Relation) (flags : List Bool) (one other : ℕ) : Type 0 where
  pub one_hidden : is_hidden flags one ≡ true
  pub other_hidden : is_hidden flags other ≡ true
  pub number : ℕ
  pub relation : Relation
  pub at : slice_get relations number ≡ Some relation
  pub names_one : mentions relation one ≡ true
  pub names_other : mentions relation other ≡ true

-- a chain of so many steps, each from a hidden cell to another by one relation
abbrev pub IsChain : List Relation → List Bool → ℕ → ℕ → ℕ → Type 0
IsChain relations flags zero one other = one ≡ other
IsChain relations flags (suc steps) one other = (next : ℕ) × AreRelated relations flags one next
    × IsChain relations flags steps next other

-- relations link the cells through hidden cells
abbrev pub AreLinked : List Relation → List Bool → ℕ → ℕ → Type 0
AreLinked relations flags one other = (steps : ℕ) × IsChain relations flags steps one other

-- the number of a cell's component; none for a shown cell, and where there is no such cell
abbrev pub component : List (Option ℕ) → ℕ → Option ℕ
component of cell = slice_index_or of cell None

-- the cell is in the component with this number
abbrev pub is_of : ℕ → Option ℕ → Bool
is_of number None = false
is_of number (Some other) = other == number

-- The connected parts of a hidden set: the number of each cell's component, and how many cells each component has.
pub record AreComponents (relations : List Relation) (flags : List Bool) (of : List (Option ℕ))
    (sizes : List ℕ) : Type 0 where
  pub each : length of ≡ length flags
  -- a shown cell has none, a hidden one has one
  pub shown : (cell : ℕ) → is_hidden flags cell ≡ false → component of cell ≡ None
  pub hidden : (cell : ℕ) → is_hidden flags cell ≡ true → (number : ℕ) × (component of cell ≡ Some number)
  -- two hidden cells have the same one exactly where relations link them through hidden cells
  pub linked : (one other : ℕ) → is_hidden flags one ≡ true → is_hidden flags other ≡ true
      → (component of one ≡ component of other) ↔ AreLinked relations flags one other
  -- the numbers go from 0, and each is used
  pub within : (cell number : ℕ) → component of cell ≡ Some number → number < length sizes
  pub used : (number : ℕ) → number < length sizes → (cell : ℕ) × (component of cell ≡ Some number)
  -- they are in the order of the lowest cells: before each cell of a component there are cells of those with lower
  -- numbers
  pub ascending : (cell number before : ℕ) → component of cell ≡ Some number → before < number
      → (lowest : ℕ) × (lowest < cell) × (component of lowest ≡ Some before)
  -- a size counts the cells of its component
  pub counted : (number : ℕ) → slice_index sizes number ≡ count (is_of number) of
