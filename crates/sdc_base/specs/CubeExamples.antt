-- Cubes and the order of subtables on tables that can be reckoned by hand (own).
use Rattle.std.specs.Prelude.{◌≡◌, ℕ, Bool, true, false, List, [], ◌∷◌, map, Option}
use Rattle.sdc_base.specs.CutTrees.{CutTree, whole_depth}
use Rattle.sdc_base.specs.Cells.{cells_of, whole_table}
use Rattle.sdc_base.specs.Relations.{number_among}
use Rattle.sdc_base.specs.Cubes.{corners_of, edges_from}
use Rattle.sdc_base.specs.Subtables.{ordered_subtables}
use Rattle.sdc_base.specs.declared.cube.Corner.{Corner}
use Rattle.sdc_base.specs.declared.cube.Edge.{Edge}
use Rattle.sdc_base.specs.Examples.{two_codes, two_levels}

-- an edge from the first code to a partner
abbrev pub edge_of : ℕ → ℕ → Bool → Edge
edge_of code other equal = record { code = code; other = other; equal = equal }

-- a corner
abbrev pub corner_of : ℕ → Bool → Corner
corner_of cell plus = record { cell = cell; plus = plus }

-- the number of a place in a table of two variables with two codes each
abbrev pub number_in_nine : List ℕ → Option ℕ
number_in_nine place = number_among (cells_of (two_codes ∷ two_codes ∷ []) (whole_table (0 ∷ 1 ∷ []) ∷ [])) place

-- all of the tree with two codes
abbrev pub all_two_codes : CutTree
all_two_codes = record { tree = two_codes; depth = whole_depth }

-- Cubes in a table of two variables with two codes each. A code and its total have one sign, two codes opposite ones:
-- with one sign for all, the corners of the two inner codes would all be plus. And the order of the subtables of two
-- levels of codes.
pub record CubeRows : Type 0 where
  pub of_code : edges_from all_two_codes 0 1 ≡ edge_of 1 0 true ∷ edge_of 1 2 false ∷ []
  pub of_total : edges_from all_two_codes 0 0 ≡ edge_of 0 1 true ∷ edge_of 0 2 true ∷ []
  pub inner : corners_of number_in_nine (edge_of 1 2 false ∷ edge_of 1 2 false ∷ [])
      ≡ corner_of 4 true ∷ corner_of 5 false ∷ corner_of 7 false ∷ corner_of 8 true ∷ []
  pub outer : corners_of number_in_nine (edge_of 1 2 false ∷ edge_of 1 0 true ∷ [])
      ≡ corner_of 3 true ∷ corner_of 4 true ∷ corner_of 6 false ∷ corner_of 7 false ∷ []
  pub order : map (λ subtable. subtable.parents) (ordered_subtables (two_levels ∷ []) (whole_table (0 ∷ []) ∷ []))
      ≡ (0 ∷ []) ∷ (1 ∷ []) ∷ (4 ∷ []) ∷ []
