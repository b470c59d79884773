-- Code trees: codes in preorder with their parents, and which code is under which (tau-ARGUS user manual, hierarchies).
use Rattle.std.specs.Prelude.{◌≡◌, ◌↔◌, ℕ, zero, suc, ◌+◌, ◌<◌, ◌≤◌, ◌==◌, Bool, false, IsTrue, List, [], ◌∷◌, length, map, filter, slice_get, Option, None, Some}
use Rattle.std.specs.List.{IsDistinct, list_any, range_with_len}
use Rattle.std.specs.Option.{option_and_then, option_map_or}
use Rattle.std.specs.Str.{bytes_eq}
use Rattle.sdc_base.specs.Places.{first_place}

-- codes in preorder, each with the place of its parent; place 0 is the total, without a parent
abbrev pub Tree : Type 0
Tree = List (List ℕ × Option ℕ)

-- the codes in order
abbrev pub codes : Tree → List (List ℕ)
codes tree = map (λ node. node.0) tree

-- no code stands twice
abbrev pub HasDistinctCodes : Tree → Type 0
HasDistinctCodes tree = IsDistinct bytes_eq (codes tree)

-- the place of a code
abbrev pub find : Tree → List ℕ → Option ℕ
find tree code = first_place (λ node. bytes_eq code node.0) tree

-- the code at a place, and no bytes where there is none
abbrev pub code_in : Tree → ℕ → List ℕ
code_in tree place = option_map_or (λ node. node.0) (slice_get tree place) []

-- the parent of a place
abbrev pub parent_at : Tree → ℕ → Option ℕ
parent_at tree place = option_and_then (λ node. node.1) (slice_get tree place)

-- the place that so many steps to a parent lead to
abbrev pub climb : Tree → ℕ → ℕ → Option ℕ
climb tree zero place = Some place
climb tree (suc steps) place = option_and_then (climb tree steps) (parent_at tree place)

-- walking parents from `place`, itself included, meets `above`
abbrev pub IsUnder : Tree → ℕ → ℕ → Type 0
IsUnder tree place above = (steps : ℕ) × (climb tree steps place ≡ Some above)

-- the places met from a place on, at most so many, each the parent of the one before
abbrev pub met_in : ℕ → Tree → Option ℕ → List ℕ
met_in steps tree None = []
met_in zero tree (Some place) = []
met_in (suc steps) tree (Some place) = place ∷ met_in steps tree (parent_at tree place)

-- the places met walking parents from a place, itself included; a tree has no longer walk than it has codes
abbrev pub places_upward : Tree → ℕ → List ℕ
places_upward tree place = met_in (length tree) tree (Some place)

-- the test whether walking parents from `place`, itself included, meets `above`
abbrev pub is_under : Tree → ℕ → ℕ → Bool
is_under tree place above = list_any (λ met. met == above) (places_upward tree place)

-- the place's parent is this one
abbrev pub is_child : Tree → ℕ → ℕ → Bool
is_child tree above place = option_map_or (λ parent. parent == above) (parent_at tree place) false

-- the children of a place, in the order of the tree
abbrev pub children : Tree → ℕ → List ℕ
children tree above = filter (is_child tree above) (range_with_len 0 (length tree))

-- a place has a parent that stands before it
abbrev pub HasEarlierParent : Tree → ℕ → Type 0
HasEarlierParent tree place = (parent : ℕ) × (parent_at tree place ≡ Some parent) × (parent < place)

-- the total is at most nine steps away
abbrev pub IsShallow : Tree → ℕ → Type 0
IsShallow tree place = (depth : ℕ) × (depth ≤ 9) × (climb tree depth place ≡ Some 0)

-- a tree that a file can give: the total and at most 5,000 distinct codes below it, in preorder, at most nine levels
-- deep
pub record IsCodeTree (tree : Tree) : Type 0 where
  pub has_total : 0 < length tree
  pub at_most_5001 : length tree ≤ 5001
  pub distinct : HasDistinctCodes tree
  pub total : parent_at tree 0 ≡ None
  pub earlier : (place : ℕ) → 0 < place → place < length tree → HasEarlierParent tree place
  -- the parent of the next place is this place or above it
  pub preorder : (place parent : ℕ) → parent_at tree (place + 1) ≡ Some parent → IsUnder tree place parent
  pub shallow : (place : ℕ) → place < length tree → IsShallow tree place

-- the flat tree: the total, and each code below it
abbrev pub flat_tree : List ℕ → List (List ℕ) → Tree
flat_tree total codes = (total, None) ∷ map (λ code. (code, Some 0)) codes

-- in a code tree the test says of each place what the walk says
abbrev pub UnderIsTested : Type 0
UnderIsTested =
    (tree : Tree) → IsCodeTree tree → (place above : ℕ) → place < length tree
    → IsTrue (is_under tree place above) ↔ IsUnder tree place above

-- distinct codes, with a total that is none of them, make a flat code tree
abbrev pub FlatIsCodeTree : Type 0
FlatIsCodeTree =
    (total : List ℕ) (below : List (List ℕ)) → IsDistinct bytes_eq (total ∷ below) → length below ≤ 5000
    → IsCodeTree (flat_tree total below)
