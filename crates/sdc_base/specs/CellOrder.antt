-- The order of places and of cells, said apart from the way in which they are listed (own).
use Rattle.std.specs.Prelude.{◌≡◌, ◌++◌, ℕ, ◌&&◌, Bool, true, false, List, [], ◌∷◌, bytes_eq}
use Rattle.std.specs.List.{IsDistinct}
use Rattle.std.specs.List.Sorted.{IsStrictlySortedBy}
use Rattle.std.specs.Cmp.Lexicographic.{slice_cmp}
use Rattle.std.specs.Ordering.{nat_cmp}
use Rattle.sdc_base.specs.CutTrees.{CutTree, has_code}
use Rattle.sdc_base.specs.Records.{Name}
use Rattle.sdc_base.specs.Cells.{places, is_named, first_names}

-- one code for each tree, and each a code of its tree
abbrev pub is_place_in : List CutTree → List ℕ → Bool
is_place_in [] [] = true
is_place_in [] (code ∷ place) = false
is_place_in (tree ∷ trees) [] = false
is_place_in (tree ∷ trees) (code ∷ place) = has_code tree code && is_place_in trees place

-- the places of a table are all that there are, and each comes in lexicographic order before those after it
pub record PlacesAreLexicographic : Type 0 where
  pub all : (trees : List CutTree) (place : List ℕ) → is_named (places trees) place ≡ is_place_in trees place
  pub ascending : (trees : List CutTree) → IsStrictlySortedBy (slice_cmp nat_cmp) (places trees)

-- the cells are all names that are given, each once, and those that are given first stand first
pub record NamesAreFirst : Type 0 where
  pub all : (names : List Name) (name : Name) → is_named (first_names names) name ≡ is_named names name
  pub once : (names : List Name) → IsDistinct bytes_eq (first_names names)
  pub first : (names more : List Name) → (later : List Name)
      × (first_names (names ++ more) ≡ first_names names ++ later)
