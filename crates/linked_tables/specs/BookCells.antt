-- The cells of a book, and which cell stands at a place of a table (tau-ARGUS user manual, linked tables).
use Rattle.std.specs.Prelude.{◌≡◌, ℕ, ◌+◌, ◌≤◌, Bool, false, List, [], length, take, slice_get, slice_index_or, slice_range, bytes_eq, if◌then◌else◌, All, Option, None}
use Rattle.std.specs.Option.{option_and_then, option_map_or}
use Rattle.sdc_base.specs.Trees.{IsCodeTree, Tree}
use Rattle.sdc_base.specs.CutTrees.{CutTree, goes_below}
use Rattle.code_trees.specs.Children.{first_child}
use Rattle.sdc_base.specs.Records.{Name}
use Rattle.sdc_base.specs.Places.{first_place}
use Rattle.sdc_base.specs.Cells.{cells_of, name_of, trees_of}
use Rattle.sdc_base.specs.CellOrder.{is_place_in}
use Rattle.sdc_base.specs.declared.dimension.Dimension.{Dimension}
use Rattle.linked_tables.specs.declared.mark.Mark.{Mark}
use Rattle.linked_tables.specs.BookViews.{BookView}
use Rattle.linked_tables.specs.Tables.{most_cells, has_unknown, has_twice}

-- the tree of a variable, which has no codes behind the last variable
abbrev pub tree_of : BookView → ℕ → Tree
tree_of book variable = slice_index_or book.trees variable []

-- the first code right below a code in a cut tree; none where it is on the last level, or has none below it
abbrev pub first_child_within : CutTree → ℕ → Option ℕ
first_child_within cut above = if goes_below cut above then first_child cut.tree above else None

-- the names of the cells, in the order of their numbers
abbrev pub cells : BookView → List Name
cells book = cells_of book.trees book.tables

-- the name of what stands at a place of a table that spans these variables
abbrev pub name_in_table : BookView → List Dimension → List ℕ → Name
name_in_table book table place = name_of (length book.trees) table place

-- the place is one of a table that spans these variables
abbrev pub is_in : BookView → List Dimension → List ℕ → Bool
is_in book table place = is_place_in (trees_of book.trees table) place

-- the number of the cell with this name
abbrev pub number_of : BookView → Name → Option ℕ
number_of book name = first_place (bytes_eq name) (cells book)

-- there is such a table, and the place is one of it
abbrev pub is_place_of : BookView → ℕ → List ℕ → Bool
is_place_of book t place = option_map_or (λ table. is_in book table place) (slice_get book.tables t) false

-- the name of what stands at a place of table t
abbrev pub name_at : BookView → ℕ → List ℕ → Name
name_at book t place = option_map_or (λ table. name_in_table book table place) (slice_get book.tables t) []

-- the number of the cell at a place of table t; none where t is no table or the place isn't in it
abbrev pub cell_at : BookView → ℕ → List ℕ → Option ℕ
cell_at book t place =
    option_and_then (λ table. if is_in book table place then number_of book (name_in_table book table place) else None)
    (slice_get book.tables t)

-- The number of the first cell that no table before t names: how many cells these name. Not: how many places they have.
abbrev pub first_own : BookView → ℕ → ℕ
first_own book t = length (cells_of book.trees (take t book.tables))

-- the marks of the cells that tables before t name
abbrev pub earlier_marks : BookView → ℕ → List Mark
earlier_marks book t = take (first_own book t) book.marks

-- the marks of the cells that table t names first
abbrev pub own_marks : BookView → ℕ → List Mark
own_marks book t = slice_range book.marks (first_own book t) (first_own book (t + 1))

-- the table spans variables of the book, none of them twice
pub record IsTable (variables : ℕ) (table : List Dimension) : Type 0 where
  pub known : has_unknown variables table ≡ false
  pub once : has_twice table ≡ false

-- what holds of every book
pub record IsBook (book : BookView) : Type 0 where
  pub at_most_8_trees : length book.trees ≤ 8
  pub trees : All IsCodeTree book.trees
  pub tables : All (IsTable (length book.trees)) book.tables
  pub one_each : length book.marks ≡ length (cells book)
  pub at_most : length (cells book) ≤ most_cells
