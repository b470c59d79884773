-- The subtables of tables, and the order in which a plan goes through them (handbook, modular method; the order own).
use Rattle.std.specs.Prelude.{ℕ, ◌+◌, ◌==◌, ◌&&◌, ◌||◌, Bool, true, false, not, List, [], ◌∷◌, ◌++◌, length, map, filter, flat_map, slice_index_or}
use Rattle.std.specs.List.{range_with_len}
use Rattle.sdc_base.specs.Trees.{Tree}
use Rattle.sdc_base.specs.CutTrees.{CutTree, children_within, depth_in, is_child_within}
use Rattle.sdc_base.specs.Cells.{cut_tree, trees_of}
use Rattle.sdc_base.specs.Cubes.{choices}
use Rattle.sdc_base.specs.declared.cube.Subtable.{Subtable}
use Rattle.sdc_base.specs.declared.dimension.Dimension.{Dimension}

-- those of these codes that have children in the cut tree
abbrev pub inner_among : CutTree → List ℕ → List ℕ
inner_among cut codes = filter (λ code. not (length (children_within cut code) == 0)) codes

-- the codes that have children in a cut tree, in its order
abbrev pub inner_codes : CutTree → List ℕ
inner_codes cut = inner_among cut (range_with_len 0 (length cut.tree))

-- the parents of a subtable of table t
abbrev pub subtable_at : ℕ → List ℕ → Subtable
subtable_at t parents = record { table = t; parents = parents }

-- the subtables of table t, which spans variables with these trees, by the places of their parents
abbrev pub subtables_in : ℕ → List CutTree → List Subtable
subtables_in t trees = map (subtable_at t) (choices (map inner_codes trees))

-- the subtables of tables that are numbered from t, by their tables and then by the places of their parents
abbrev pub subtables_from : List Tree → ℕ → List (List Dimension) → List Subtable
subtables_from trees t [] = []
subtables_from trees t (table ∷ tables) = subtables_in t (trees_of trees table) ++ subtables_from trees (t + 1) tables

-- the depths of a place's codes together, where the table spans these variables
abbrev pub summed_depth : List Tree → List Dimension → List ℕ → ℕ
summed_depth trees [] place = 0
summed_depth trees (dimension ∷ table) [] = 0
summed_depth trees (dimension ∷ table) (code ∷ place) =
    depth_in (slice_index_or trees dimension.variable []) code + summed_depth trees table place

-- the summed depth of a subtable's parents
abbrev pub depth_of : List Tree → List (List Dimension) → Subtable → ℕ
depth_of trees tables subtable = summed_depth trees (slice_index_or tables subtable.table []) subtable.parents

-- a summed depth that no place exceeds: that of 8 codes at depth 9
abbrev pub most_depth : ℕ
most_depth = 72

-- those of these subtables that have one summed depth
abbrev pub of_depth : List Tree → List (List Dimension) → ℕ → List Subtable → List Subtable
of_depth trees tables depth subtables = filter (λ subtable. depth_of trees tables subtable == depth) subtables

-- these subtables, those of the first of these summed depths first
abbrev pub by_depths : List Tree → List (List Dimension) → List Subtable → List ℕ → List Subtable
by_depths trees tables subtables depths = flat_map (λ depth. of_depth trees tables depth subtables) depths

-- all subtables: by the summed depth of their parents, then by their tables, then by the places of the parents
abbrev pub ordered_subtables : List Tree → List (List Dimension) → List Subtable
ordered_subtables trees tables =
    by_depths trees tables (subtables_from trees 0 tables) (range_with_len 0 (most_depth + 1))

-- the code is the parent or one of its children
abbrev pub is_code_in : CutTree → ℕ → ℕ → Bool
is_code_in cut parent code = code == parent || is_child_within cut parent code

-- each code of a place is one of the subtable
abbrev pub is_place_below : List Tree → List Dimension → List ℕ → List ℕ → Bool
is_place_below trees [] parents place = true
is_place_below trees (dimension ∷ table) [] place = false
is_place_below trees (dimension ∷ table) (parent ∷ parents) [] = false
is_place_below trees (dimension ∷ table) (parent ∷ parents) (code ∷ place) =
    is_code_in (cut_tree trees dimension) parent code && is_place_below trees table parents place
