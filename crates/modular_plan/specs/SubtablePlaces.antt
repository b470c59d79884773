-- The places of a subtable, and the hidden cells that stand at them (own).
use Rattle.std.specs.Prelude.{ℕ, List, [], ◌∷◌, ◌++◌, map, if◌then◌else◌}
use Rattle.std.specs.BTreeSet.{insert_key}
use Rattle.std.specs.Option.{option_map_or}
use Rattle.std.specs.Ordering.{nat_cmp}
use Rattle.sdc_base.specs.Trees.{Tree}
use Rattle.sdc_base.specs.Cells.{cut_tree}
use Rattle.sdc_base.specs.Cubes.{choices, codes_in}
use Rattle.sdc_base.specs.declared.dimension.Dimension.{Dimension}
use Rattle.linked_tables.specs.BookViews.{BookView}
use Rattle.linked_tables.specs.BookCells.{cell_at}
use Rattle.hypercube.specs.LeastCubes.{is_marked}

-- the codes of a subtable with these parents, variable by variable of its table; none for a variable that has no parent
abbrev pub code_lists : List Tree → List Dimension → List ℕ → List (List ℕ)
code_lists trees [] parents = []
code_lists trees (dimension ∷ table) [] = [] ∷ code_lists trees table []
code_lists trees (dimension ∷ table) (parent ∷ parents) =
    codes_in (cut_tree trees dimension) parent ∷ code_lists trees table parents

-- the places that begin so and go on with one code of each list
abbrev pub places_below : List ℕ → List (List ℕ) → List (List ℕ)
places_below begun lists = map (λ rest. begun ++ rest) (choices lists)

-- ascending cells, with the one at a place of table t, where one stands there and is hidden
abbrev pub with_place : BookView → ℕ → List ℕ → List ℕ → List ℕ
with_place book t found place =
    option_map_or (λ cell. if is_marked book cell then insert_key nat_cmp found cell else found) (cell_at book t place)
    found
