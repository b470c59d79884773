-- What a book becomes where its cells are given records (own).
use Rattle.std.specs.Prelude.{◌≡◌, ℕ, ◌+◌, ◌==◌, ◌&&◌, nat_le, Bool, false, List, [], ◌∷◌, ◌++◌, flat_map, map, replicate, slice_get, slice_index}
use Rattle.std.specs.Option.{option_map_or}
use Rattle.sdc_base.specs.Trees.{Tree}
use Rattle.sdc_base.specs.CutTrees.{code_within}
use Rattle.sdc_base.specs.Cells.{cut_tree}
use Rattle.sdc_base.specs.Places.{count}
use Rattle.sdc_base.specs.declared.dimension.Dimension.{Dimension}
use Rattle.sdc_base.specs.declared.rows.Row.{Row}
use Rattle.linked_tables.specs.BookViews.{BookView}
use Rattle.linked_tables.specs.BookCells.{cell_at}
use Rattle.tabulate.specs.MarkRecords.{MarksHoldRecords, settings_at}

-- the cell stands at a place of table t, and isn't one of so many first ones
abbrev pub is_at : BookView → ℕ → ℕ → List ℕ → ℕ → Bool
is_at book t first place cell =
    option_map_or (λ found. found == cell && nat_le first found) (cell_at book t place) false

-- at how many of these places it stands
abbrev pub hits : BookView → ℕ → ℕ → List (List ℕ) → ℕ → ℕ
hits book t first places cell = count (λ place. is_at book t first place cell) places

-- the variables that table t spans, each with its depth
abbrev pub dimensions_of : BookView → ℕ → List Dimension
dimensions_of book t = option_map_or (λ table. table) (slice_get book.tables t) []

-- the code of a table under which one of these codes stands: that for the variable, or the one above it on the table's
-- last level
abbrev pub code_in_table : List Tree → List ℕ → Dimension → ℕ
code_in_table trees codes dimension = code_within (cut_tree trees dimension) (slice_index codes dimension.variable)

-- the codes of a table under which these codes stand
abbrev pub codes_for : List Tree → List ℕ → List Dimension → List ℕ
codes_for trees codes table = map (code_in_table trees codes) table

-- the place of table t under which the record's codes stand, alone
abbrev pub own_places : BookView → ℕ → Row → List (List ℕ)
own_places book t row = codes_for book.trees row.codes (dimensions_of book t) ∷ []

-- a record was given to each of table t's cells at these places, but for the first ones; all else stayed
pub record GaveRecord (old new : BookView) (t first : ℕ) (row : Row) (places : List (List ℕ)) : Type 0 where
  pub frame : new ≡ record old { marks = new.marks }
  pub kept : (cell : ℕ) → settings_at new.marks cell ≡ settings_at old.marks cell
  pub given : (given : ℕ → List Row) → MarksHoldRecords old.marks given
      → MarksHoldRecords new.marks (λ cell. given cell ++ replicate (hits old t first places cell) row)

-- the records that a cell is given through table t
abbrev pub rows_for : BookView → ℕ → ℕ → List Row → ℕ → List Row
rows_for book t first rows cell = flat_map (λ row. replicate (hits book t first (own_places book t row) cell) row) rows

-- records were given to the cells of table t, but for the first ones; all else stayed
pub record GaveRecords (old new : BookView) (t first : ℕ) (rows : List Row) : Type 0 where
  pub frame : new ≡ record old { marks = new.marks }
  pub kept : (cell : ℕ) → settings_at new.marks cell ≡ settings_at old.marks cell
  pub given : (given : ℕ → List Row) → MarksHoldRecords old.marks given
      → MarksHoldRecords new.marks (λ cell. given cell ++ rows_for old t first rows cell)
