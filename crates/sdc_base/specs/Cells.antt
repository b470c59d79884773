-- Cells of linked tables: their names, and the order in which tables first name them (tau-ARGUS user manual, linked
-- tables; tables to a depth: own).
use Rattle.std.specs.Prelude.{ℕ, ◌==◌, Bool, List, [], ◌∷◌, ◌++◌, length, map, flat_map, fold, slice_index_or, if◌then◌else◌, bytes_eq}
use Rattle.std.specs.List.{list_any, range_with_len}
use Rattle.sdc_base.specs.Trees.{Tree}
use Rattle.sdc_base.specs.CutTrees.{CutTree, codes_within, whole_depth}
use Rattle.sdc_base.specs.Records.{Name}
use Rattle.sdc_base.specs.declared.dimension.Dimension.{Dimension}

-- a variable that a table spans with all its codes
abbrev pub whole : ℕ → Dimension
whole variable = record { variable = variable; depth = whole_depth }

-- the table that spans these variables with all their codes
abbrev pub whole_table : List ℕ → List Dimension
whole_table variables = map whole variables

-- the places of a table whose variables have these trees, cut at its depths, in lexicographic order
abbrev pub places : List CutTree → List (List ℕ)
places [] = [] ∷ []
places (tree ∷ trees) = flat_map (λ code. map (λ rest. code ∷ rest) (places trees)) (codes_within tree)

-- the code that a place of a table has for a variable; the total where the table doesn't span it
abbrev pub code_for : List Dimension → List ℕ → ℕ → ℕ
code_for [] place variable = 0
code_for (dimension ∷ table) [] variable = 0
code_for (dimension ∷ table) (code ∷ place) variable =
    if dimension.variable == variable then code else code_for table place variable

-- the name of a table's place: one code for each of so many variables
abbrev pub name_of : ℕ → List Dimension → List ℕ → Name
name_of variables table place = map (code_for table place) (range_with_len 0 variables)

-- the table spans the variable
abbrev pub spans : List Dimension → ℕ → Bool
spans table variable = list_any (λ dimension. dimension.variable == variable) table

-- the tree of a variable that a table spans, down to the table's depth
abbrev pub cut_tree : List Tree → Dimension → CutTree
cut_tree trees dimension =
    record { tree = slice_index_or trees dimension.variable []; depth = dimension.depth }

-- the trees of the variables that a table spans, each down to the table's depth
abbrev pub trees_of : List Tree → List Dimension → List CutTree
trees_of trees table = map (cut_tree trees) table

-- the names that a table gives, in the order of its places
abbrev pub named_by : List Tree → List Dimension → List Name
named_by trees table = map (name_of (length trees) table) (places (trees_of trees table))

-- the name is among these
abbrev pub is_named : List Name → Name → Bool
is_named names name = list_any (bytes_eq name) names

-- a name at the end, unless it is there already
abbrev pub with_name : List Name → Name → List Name
with_name names name = if is_named names name then names else names ++ name ∷ []

-- the distinct names, in the order in which they are first given
abbrev pub first_names : List Name → List Name
first_names names = fold with_name [] names

-- The cells of tables: the distinct names in the order in which the tables first name them. Not: a cell anew for each
-- depth at which a table has it.
abbrev pub cells_of : List Tree → List (List Dimension) → List Name
cells_of trees tables = first_names (flat_map (named_by trees) tables)
