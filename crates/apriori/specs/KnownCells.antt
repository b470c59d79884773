-- The cell that a line of an a priori file names, of those that are known (own).
use Rattle.std.specs.Prelude.{ℕ, List, [], ◌∷◌, map, slice_get, unwrap_or, Option, None, Some, ℤ}
use Rattle.std.specs.Option.{option_and_then}
use Rattle.sdc_base.specs.Trees.{Tree, find}
use Rattle.sdc_base.specs.CutTrees.{CutTree}
use Rattle.sdc_base.specs.Cells.{trees_of}
use Rattle.sdc_base.specs.declared.dimension.Dimension.{Dimension}
use Rattle.sdc_base.specs.declared.facts.CellFacts.{CellFacts}
use Rattle.linked_tables.specs.BookViews.{BookView}
use Rattle.linked_tables.specs.declared.mark.Mark.{Mark}
use Rattle.linked_tables.specs.BookCells.{cell_at}

-- a place in front of the place of the other codes, where both are there
abbrev pub with_place : Option ℕ → Option (List ℕ) → Option (List ℕ)
with_place None places = None
with_place (Some place) None = None
with_place (Some place) (Some places) = Some (place ∷ places)

-- the place that codes write, one for each tree, whether or not the table goes so deep
abbrev pub place_in : List CutTree → List (List ℕ) → Option (List ℕ)
place_in [] codes = Some []
place_in (tree ∷ trees) [] = None
place_in (tree ∷ trees) (code ∷ codes) = with_place (find tree.tree code) (place_in trees codes)

-- what is known of a cell: its truth and its number of records
pub record KnownCell : Type 0 where
  pub truth : ℤ
  pub freq : ℕ

-- what the facts of a cell tell of it
abbrev pub known_of : CellFacts → KnownCell
known_of facts = record { truth = facts.truth; freq = facts.freq }

-- what statements are held against: the trees, the tables, and what is known of each cell by its number
pub record Basis : Type 0 where
  pub trees : List Tree
  pub tables : List (List Dimension)
  pub known : List KnownCell

-- the basis that a book is
abbrev pub basis_of : BookView → Basis
basis_of book =
    record { trees = book.trees; tables = book.tables; known = map (λ (mark : Mark). known_of mark.facts) book.marks }

-- a book with these trees and tables, whatever its marks
abbrev pub bare_book : Basis → BookView
bare_book basis = record { trees = basis.trees; tables = basis.tables; marks = [] }

-- the variables that table t spans, each with its depth
abbrev pub variables_of_table : Basis → ℕ → List Dimension
variables_of_table basis t = unwrap_or (slice_get basis.tables t) []

-- the cell that the codes of a line of table t name, in the table's order; none where one of them is deeper than the
-- table goes
abbrev pub cell_of : Basis → ℕ → List (List ℕ) → Option ℕ
cell_of basis t codes =
    option_and_then (cell_at (bare_book basis) t) (place_in (trees_of basis.trees (variables_of_table basis t)) codes)
