-- What a book keeps beside what contracts see of it (own).
use Rattle.std.specs.Prelude.{◌≡◌, ℕ, ◌+◌, ◌<◌, ◌≤◌, ◌^◌, List, ◌++◌, length, map, take, drop, All, Result}
use Rattle.std.specs.List.{range_with_len}
use Rattle.sdc_base.specs.Trees.{Tree, IsCodeTree}
use Rattle.sdc_base.specs.Records.{Name}
use Rattle.sdc_base.specs.Cells.{cells_of, name_of, places, trees_of}
use Rattle.sdc_base.specs.declared.dimension.Dimension.{Dimension}
use Rattle.linked_tables.specs.declared.mark.Mark.{Mark}
use Rattle.linked_tables.specs.declared.book_fault.BookFault.{BookFault}
use Rattle.linked_tables.specs.Tables.{most_cells, cells_fault, unless_fault}
use Rattle.linked_tables.specs.BookCells.{IsTable}

-- how many cells the first t tables name, for each t from 0 to the number of tables
abbrev pub starts_of : List Tree → List (List Dimension) → ℕ → List ℕ
starts_of trees tables n = map (λ t. length (cells_of trees (take t tables))) (range_with_len 0 n)

-- the names are those of the cells, and the starts say where each table's own cells begin
pub record IsNumbered (trees : List Tree) (tables : List (List Dimension)) (names : List Name)
    (starts : List ℕ) : Type 0 where
  pub sound : All (IsTable (length trees)) tables
  pub named : names ≡ cells_of trees tables
  pub at_most : length names ≤ most_cells
  pub begun : starts ≡ starts_of trees tables (length tables + 1)

-- the invariant of a book
pub record IsKept (trees : List Tree) (tables : List (List Dimension)) (names : List Name) (starts : List ℕ)
    (marks : List Mark) : Type 0 where
  pub at_most_8_trees : length trees ≤ 8
  pub each : All IsCodeTree trees
  pub countable : length tables < 2 ^ 32
  pub numbered : IsNumbered trees tables names starts
  pub one_each : length marks ≡ length names

-- the names, unless they are too many up to table t
abbrev pub names_within_limit : ℕ → List Name → Result (List Name) BookFault
names_within_limit t names = unless_fault (cells_fault t names) names

-- the names of the places of a table that begin with this one
abbrev pub names_below : List Tree → List Dimension → List ℕ → List Name
names_below trees table place =
    map (λ rest. name_of (length trees) table (place ++ rest)) (places (trees_of trees (drop (length place) table)))
