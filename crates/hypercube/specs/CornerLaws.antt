-- Each cube has all its corners: their places have cells, and no two of them have the same (own).
use Rattle.std.specs.Prelude.{◌≡◌, ℕ, ◌^◌, IsTrue, List, [], ◌∷◌, length, map, slice_get, slice_index, Some}
use Rattle.std.specs.List.{AllByRecursion}
use Rattle.std.specs.List.Sorted.{IsStrictlyIncreasing}
use Rattle.sdc_base.specs.Trees.{Tree}
use Rattle.sdc_base.specs.CutTrees.{has_code}
use Rattle.sdc_base.specs.Records.{Name}
use Rattle.sdc_base.specs.Cells.{cut_tree}
use Rattle.sdc_base.specs.Cubes.{corners_of, cubes_at}
use Rattle.sdc_base.specs.declared.cube.Corner.{Corner}
use Rattle.sdc_base.specs.declared.dimension.Dimension.{Dimension}
use Rattle.linked_tables.specs.BookViews.{BookView}
use Rattle.linked_tables.specs.BookCells.{IsBook, cell_at}

-- variable by variable of a table, the parent and the name's code are codes that the table has
abbrev pub AreInTrees : List Tree → Name → List Dimension → List ℕ → Type 0
AreInTrees trees name [] [] = Unit {0}
AreInTrees trees name [] (parent ∷ parents) = ⊥
AreInTrees trees name (dimension ∷ table) [] = ⊥
AreInTrees trees name (dimension ∷ table) (parent ∷ parents) =
    IsTrue (has_code (cut_tree trees dimension) parent)
    × IsTrue (has_code (cut_tree trees dimension) (slice_index name dimension.variable))
    × AreInTrees trees name table parents

-- the corners of a cube over so many variables: 2 to this number of them, and each has a higher number than the one
-- before
pub record AreWhole (variables : ℕ) (corners : List Corner) : Type 0 where
  pub all : length corners ≡ 2 ^ variables
  pub ascending : IsStrictlyIncreasing (map (λ corner. corner.cell) corners)

-- each cube of a cell in a subtable of a book has all its corners, by their numbers upwards
abbrev pub CubesAreWhole : Type 0
CubesAreWhole =
    (book : BookView) (t : ℕ) (table : List Dimension) (name : Name) (parents : List ℕ) → IsBook book
    → slice_get book.tables t ≡ Some table → AreInTrees book.trees name table parents
    → AllByRecursion (λ cube. AreWhole (length table) (corners_of (cell_at book t) cube))
    (cubes_at book.trees name table parents)
