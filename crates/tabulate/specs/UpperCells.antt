-- What cells pass on to those above them (own).
use Rattle.std.specs.Prelude.{◌≡◌, ℕ, zero, suc, ◌+◌, ◌-◌, ◌==◌, ◌&&◌, nat_le, Bool, false, List, [], ◌∷◌, ◌++◌, slice_get, slice_set, slice_index, slice_index_or, if◌then◌else◌, Option}
use Rattle.std.specs.Option.{option_map_or, option_and_then}
use Rattle.sdc_base.specs.Trees.{parent_at}
use Rattle.sdc_base.specs.declared.dimension.Dimension.{Dimension}
use Rattle.sdc_base.specs.declared.rows.Row.{Row}
use Rattle.linked_tables.specs.BookViews.{BookView}
use Rattle.linked_tables.specs.BookCells.{cells, number_of}
use Rattle.tabulate.specs.MarkRecords.{MarksHoldRecords, settings_at}

-- the cell with the parent's code for a variable and else the same codes, where the code has a parent
abbrev pub upper_of : BookView → ℕ → ℕ → Option ℕ
upper_of book variable cell =
    option_and_then (λ name. option_and_then (λ parent. number_of book (slice_set name variable parent))
    (parent_at (slice_index_or book.trees variable []) (slice_index name variable))) (slice_get (cells book) cell)

-- that is this cell, and it is none of so many first ones
abbrev pub goes_to : BookView → ℕ → ℕ → ℕ → ℕ → Bool
goes_to book variable first cell other =
    option_map_or (λ upper. upper == other && nat_le first upper) (upper_of book variable cell) false

-- what each cell has, where one passed on what it has
abbrev pub after_cell : BookView → ℕ → ℕ → ℕ → (ℕ → List Row) → ℕ → List Row
after_cell book variable first cell given other =
    if goes_to book variable first cell other then given other ++ given cell else given other

-- the same after so many cells, the last first
abbrev pub after_cells : BookView → ℕ → ℕ → ℕ → ℕ → (ℕ → List Row) → ℕ → List Row
after_cells book variable first past zero given = given
after_cells book variable first past (suc n) given = after_cell book variable first (past - (n + 1))
    (after_cells book variable first past n given)

-- after all cells from the first one on, for one variable of a table after another
abbrev pub after_variables : BookView → ℕ → ℕ → List Dimension → (ℕ → List Row) → ℕ → List Row
after_variables book first past [] given = given
after_variables book first past (dimension ∷ table) given = after_variables book first past table
    (after_cells book dimension.variable first past (past - first) given)

-- what cells have was passed on so; all else stayed
pub record PassedRecords (old new : BookView) (after : (ℕ → List Row) → ℕ → List Row) : Type 0 where
  pub frame : new ≡ record old { marks = new.marks }
  pub kept : (cell : ℕ) → settings_at new.marks cell ≡ settings_at old.marks cell
  pub given : (given : ℕ → List Row) → MarksHoldRecords old.marks given → MarksHoldRecords new.marks (after given)
