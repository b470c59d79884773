-- What the makers keep: the places above the last node, one at each depth (own).
use Rattle.std.specs.Prelude.{◌≡◌, ℕ, ◌+◌, ◌-◌, ◌<◌, List, [], ◌∷◌, ◌++◌, length, take, Some, slice_index, ◌≤◌}
use Rattle.sdc_base.specs.Trees.{Tree, climb}

-- The path has at each depth the place above the last node, the node itself last; the place at depth d is d steps from
-- the total.
pub record IsPath (tree : Tree) (path : List ℕ) : Type 0 where
  pub has_total : 0 < length path
  pub above : (depth : ℕ) → depth < length path
      → climb tree (length path - 1 - depth) (length tree - 1) ≡ Some (slice_index path depth)
  pub deep : (depth : ℕ) → depth < length path → climb tree depth (slice_index path depth) ≡ Some 0

-- the path once a node at this place is added right below the place at depth `leads`
abbrev pub next_path : List ℕ → ℕ → ℕ → List ℕ
next_path path leads place = take (leads + 1) path ++ place ∷ []

-- a level of a path, at most the ninth
abbrev pub IsLevelOf : List ℕ → ℕ → Type 0
IsLevelOf path depth = (depth < length path) × (depth ≤ 8)
