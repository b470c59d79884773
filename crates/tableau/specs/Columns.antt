-- A column of a table, and the rows whose lists are compared by their numbers there (own).
use Rattle.std.specs.Prelude.{◌≡◌, ◌<◌, ℕ, ℤ, pos, ◌≤ℤ◌, length}
use Rattle.tableau.specs.declared.column.Column.{Column}
use Rattle.tableau.specs.Choices.{AreSlackPlaces}
use Rattle.tableau.specs.RowLists.{lead}
use Rattle.tableau.specs.SparseTables.{table_of, column_of, IsSoundTable}
use Rattle.tableau.specs.Tables.{entry}
use Rattle.tableau.specs.Walks.{IsTableOf}

-- how far the k-th row's list, over its number in the column, is above the row's list over its own
abbrev pub lead_in : Column → ℕ → ℕ → ℕ → ℤ
lead_in column row k i = lead column.problem.now (table_of column.table.now) column.place row k i

-- the place, the numbers and the slacks' places are those of a sound table that is kept of the problem
pub record IsColumn (column : Column) : Type 0 where
  pub sound : IsSoundTable column.table.now
  pub kept : IsTableOf column.problem.now (table_of column.table.now)
  pub places : AreSlackPlaces column.problem.now (table_of column.table.now) column.places.now
  pub within : column.place < length column.table.now.others.items
  pub numbers : column.numbers.now ≡ column_of column.table.now column.place

-- two members' rows, each with a number above 0 in the column
pub record AreComparable (column : Column) (one other : ℕ) : Type 0 where
  pub one_within : one < length column.table.now.members.items
  pub other_within : other < length column.table.now.members.items
  pub one_above : pos 1 ≤ℤ entry (table_of column.table.now) one column.place
  pub other_above : pos 1 ≤ℤ entry (table_of column.table.now) other column.place
