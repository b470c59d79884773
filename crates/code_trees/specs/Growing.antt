-- A tree with one node more at its end (own).
use Rattle.std.specs.Prelude.{◌≡◌, ℕ, ◌≤◌, List, [], ◌∷◌, ◌++◌, Some}
use Rattle.sdc_base.specs.Trees.{Tree, climb}

-- one node more, with this code, right below this parent
abbrev pub tree_with_node : Tree → List ℕ → ℕ → Tree
tree_with_node tree code parent = tree ++ (code, Some parent) ∷ []

-- a node right below this place is at most nine steps from the total
abbrev pub HasRoomBelow : Tree → ℕ → Type 0
HasRoomBelow tree place = (depth : ℕ) × (depth ≤ 8) × (climb tree depth place ≡ Some 0)
