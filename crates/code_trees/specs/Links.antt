-- What is kept beside the nodes of a tree, so that each step in it is one look (own).
use Rattle.std.specs.Prelude.{◌≡◌, ℕ, ◌<◌, List, length, Option, None, Some, slice_index, slice_index_or, slice_set}
use Rattle.std.specs.Option.{option_map_or, option_and_then}
use Rattle.sdc_base.specs.Trees.{Tree, IsCodeTree, climb}
use Rattle.code_trees.specs.Children.{first_child, next_sibling}

-- the depths of the first n places: so many steps to a parent lead to the total
abbrev pub AreDepths : Tree → ℕ → List ℕ → Type 0
AreDepths tree n depths = (place : ℕ) → place < n → climb tree (slice_index depths place) place ≡ Some 0

-- the columns beside a code tree hold the depth, the first child and the next sibling of each place
pub record IsLinked (tree : Tree) (depths : List ℕ) (firsts nexts : List (Option ℕ)) : Type 0 where
  pub is_tree : IsCodeTree tree
  pub each : length depths ≡ length tree
  pub climbs : AreDepths tree (length tree) depths
  pub children : (place : ℕ) → slice_index_or firsts place None ≡ first_child tree place
  pub siblings : (place : ℕ) → slice_index_or nexts place None ≡ next_sibling tree place

-- the first children, once this place is known to have this parent
abbrev pub with_child : List (Option ℕ) → Option ℕ → ℕ → List (Option ℕ)
with_child firsts parent place = option_map_or (λ above. slice_set firsts above (Some place)) parent firsts

-- the sibling that was the first child so far
abbrev pub sibling_of : List (Option ℕ) → Option ℕ → Option ℕ
sibling_of firsts parent = option_and_then (λ above. slice_index_or firsts above None) parent
