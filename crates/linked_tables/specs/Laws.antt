-- Which cells tables share, in the subject's words (tau-ARGUS user manual, linked tables; tables to a depth: own).
use Rattle.std.specs.Prelude.{◌≡◌, ◌↔◌, ℕ, ◌+◌, ◌<◌, ◌≤◌, ◌==◌, ◌&&◌, Bool, true, false, IsTrue, List, [], ◌∷◌, ◌++◌, length, take, drop, replicate, slice_index, if◌then◌else◌, All, Option, None, Some}
use Rattle.std.specs.List.Sorted.{IsPermutation}
use Rattle.std.specs.Option.{option_map_or}
use Rattle.sdc_base.specs.Trees.{IsCodeTree, Tree}
use Rattle.sdc_base.specs.CutTrees.{has_code}
use Rattle.sdc_base.specs.Records.{Name}
use Rattle.sdc_base.specs.Cells.{cut_tree, is_named, named_by, spans}
use Rattle.sdc_base.specs.declared.dimension.Dimension.{Dimension}
use Rattle.linked_tables.specs.declared.mark.Mark.{Mark}
use Rattle.linked_tables.specs.BookViews.{BookView}
use Rattle.linked_tables.specs.BookCells.{IsTable, cell_at, is_place_of, name_at}
use Rattle.linked_tables.specs.Lending.{written_from}

-- how a table spans a variable; none where it doesn't
abbrev pub dimension_of : List Dimension → ℕ → Option Dimension
dimension_of [] variable = None
dimension_of (dimension ∷ table) variable =
    if dimension.variable == variable then Some dimension else dimension_of table variable

-- a code that the table's cells can have for a variable: where the table spans it one of its tree that is at most as deep
-- as the table goes, and else the total's
abbrev pub is_code : List Tree → List Dimension → ℕ → ℕ → Bool
is_code trees table variable code =
    option_map_or (λ dimension. has_code (cut_tree trees dimension) code) (dimension_of table variable) (code == 0)

-- a table names exactly the cells that have such a code for each variable
abbrev pub CellsByCode : Type 0
CellsByCode =
    (trees : List Tree) (table : List Dimension) (name : Name) → IsTable (length trees) table
    → length name ≡ length trees
    → IsTrue (is_named (named_by trees table) name) ↔
    ((variable : ℕ) → variable < length trees → IsTrue (is_code trees table variable (slice_index name variable)))

-- tables over the same variables, to the same depths, in another order share all their cells
abbrev pub TurnedShareAll : Type 0
TurnedShareAll =
    (trees : List Tree) (table turned : List Dimension) (name : Name) → IsTable (length trees) table
    → IsTable (length trees) turned → IsPermutation table turned
    → IsTrue (is_named (named_by trees table) name) ↔ IsTrue (is_named (named_by trees turned) name)

-- the cell of all records: the total for each variable
abbrev pub grand_total : ℕ → Name
grand_total variables = replicate variables 0

-- tables that share no variable share exactly the grand total
abbrev pub ApartShareTotal : Type 0
ApartShareTotal =
    (trees : List Tree) (one other : List Dimension) (name : Name) → All IsCodeTree trees
    → IsTable (length trees) one → IsTable (length trees) other
    → ((variable : ℕ) → (spans one variable && spans other variable) ≡ false)
    → (IsTrue (is_named (named_by trees one) name) × IsTrue (is_named (named_by trees other) name)) ↔
    (name ≡ grand_total (length trees))

-- two places have one number exactly where they have one name
abbrev pub NumbersAreNames : Type 0
NumbersAreNames =
    (book : BookView) (t u : ℕ) (place other : List ℕ) → is_place_of book t place ≡ true
    → is_place_of book u other ≡ true
    → (cell_at book t place ≡ cell_at book u other) ↔ (name_at book t place ≡ name_at book u other)

-- marks that are written stand where they are written, and all before and behind them stay
abbrev pub WrittenStand : Type 0
WrittenStand =
    (marks : List Mark) (from : ℕ) (own : List Mark) → from + length own ≤ length marks
    → written_from marks from own ≡ take from marks ++ (own ++ drop (from + length own) marks)
