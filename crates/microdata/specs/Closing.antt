-- What becomes of the codes behind the last record: the trees of the variables, and the records' places in them
-- (tau-ARGUS user manual, hierarchies; order of further codes own).
use Rattle.std.specs.Prelude.{ℕ, if◌then◌else◌, List, [], ◌∷◌, ◌++◌, map, slice_index_or, None, is_some, Result, Ok, Err}
use Rattle.std.specs.Option.{unwrap_or}
use Rattle.sdc_base.specs.Steps.{◌>>=◌}
use Rattle.sdc_base.specs.Trees.{Tree, find, flat_tree}
use Rattle.sdc_base.specs.declared.rows.Row.{Row}
use Rattle.code_trees.specs.Children.{first_child}
use Rattle.code_trees.specs.Levels.{boundaries, tree_of_codes}
use Rattle.microdata.specs.Faults.{at_record}
use Rattle.microdata.specs.KeptRows.{KeptRow}
use Rattle.microdata.specs.declared.closing.ClosedVariable.{ClosedVariable}
use Rattle.microdata.specs.declared.faults.RowWhy.{RowWhy}
use Rattle.microdata.specs.declared.faults.RowWhy.TheVariants.{NotLeaf}
use Rattle.microdata.specs.declared.layout.Source.{Source}
use Rattle.microdata.specs.declared.layout.Source.TheVariants as source
use Rattle.microdata.specs.declared.record.Variable.{Variable}
use Rattle.microdata.specs.declared.taking.Seen.{Seen}

-- The tree of a variable: the listed one; by levels, the codes and their prefixes in ascending order of bytes; else the
-- listed codes in their order, and then the further ones in ascending order of bytes.
abbrev pub tree_of : Source → Seen → Tree
tree_of (source.Listed tree) seen = tree
tree_of (source.Levels widths total) seen = tree_of_codes total (boundaries 0 widths) ((total, None) ∷ []) seen.nodes
tree_of (source.Flat codes total) seen = flat_tree total (codes ++ seen.nodes)

-- the places of codes in a tree
abbrev pub places_in : Tree → List (List ℕ) → List ℕ
places_in tree codes = map (λ code. unwrap_or (find tree code) 0) codes

-- a variable's tree, and the places in it of its codes in the order of their first records
abbrev pub closed_of : Variable → ClosedVariable
closed_of variable =
    let tree = tree_of variable.field.source variable.seen in
    record { tree = tree; places = places_in tree variable.seen.codes }

-- the place in the tree of the code with this number; in a listed tree the number is the place
abbrev pub tree_place : ClosedVariable → ℕ → ℕ
tree_place closed number = slice_index_or closed.places number number

-- the place, where no other codes stand below it
abbrev pub leaf_of : ClosedVariable → ℕ → Result ℕ RowWhy
leaf_of closed number =
    if is_some (first_child closed.tree (tree_place closed number)) then Err NotLeaf else Ok (tree_place closed number)

-- the places of a record's codes, in the order of the variables
unfoldable pub leaves_of : List ClosedVariable → List ℕ → Result (List ℕ) RowWhy
leaves_of [] numbers = Ok []
leaves_of (closed ∷ more) [] = Ok []
leaves_of (closed ∷ more) (number ∷ numbers) = do
  place ← leaf_of closed number
  places ← leaves_of more numbers
  Ok (place ∷ places)

-- a record with the places of its codes
unfoldable pub row_of : List ClosedVariable → KeptRow → Result Row RowWhy
row_of closed kept = do
  places ← leaves_of closed kept.places
  Ok (record { codes = places; value = kept.value; weight = kept.weight })

-- the records with the places of their codes, or the first one with a code that has others below it
unfoldable pub rows_of : List ClosedVariable → List KeptRow → Result (List Row) (ℕ × RowWhy)
rows_of closed [] = Ok []
rows_of closed (one ∷ kept) = do
  row ← at_record one.number (row_of closed one)
  rows ← rows_of closed kept
  Ok (row ∷ rows)
