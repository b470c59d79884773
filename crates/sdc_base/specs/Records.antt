-- Records of microdata, names of cells, and which record falls in which cell (tau-ARGUS user manual, tables).
use Rattle.std.specs.Prelude.{◌≡◌, ◌↔◌, ℕ, ◌<◌, ◌&&◌, Bool, true, false, IsTrue, List, [], ◌∷◌, length, slice_index, slice_index_or}
use Rattle.sdc_base.specs.Trees.{Tree, is_under}
use Rattle.sdc_base.specs.declared.rows.Row.{Row}

-- one place for each variable in its tree: the name of a cell, or the codes of a record
abbrev pub Name : Type 0
Name = List ℕ

-- each of the codes is under the cell's code for that variable; a name or codes that are too short fall in no cell
abbrev pub falls_in : List Tree → Name → Name → Bool
falls_in [] name codes = true
falls_in (tree ∷ trees) [] codes = false
falls_in (tree ∷ trees) (above ∷ name) [] = false
falls_in (tree ∷ trees) (above ∷ name) (code ∷ codes) = is_under tree code above && falls_in trees name codes

-- the record (codes, value, weight) falls in the cell
abbrev pub row_falls : List Tree → Name → Row → Bool
row_falls trees name row = falls_in trees name row.codes

-- variable by variable: the code is under the cell's
abbrev pub IsUnderInEach : List Tree → Name → Name → Type 0
IsUnderInEach trees name codes =
    (variable : ℕ) → variable < length trees
    → IsTrue (is_under (slice_index_or trees variable []) (slice_index codes variable) (slice_index name variable))

-- a record falls in a cell exactly where each of its codes is under the cell's code
abbrev pub FallsWhereUnderInEach : Type 0
FallsWhereUnderInEach =
    (trees : List Tree) (name codes : Name) → length name ≡ length trees → length codes ≡ length trees
    → IsTrue (falls_in trees name codes) ↔ IsUnderInEach trees name codes
