-- Lists of places with numbers, seen as the rows of a table (own).
use Rattle.std.specs.Prelude.{◌+◌, [], length, map, take, slice_index_or, ◌≡◌, ℕ, ℤ, List}
use Rattle.tableau.specs.declared.sparse_table.SparseTable.{SparseTable}
use Rattle.sdc_base.specs.Forms.{coefficient}
use Rattle.tableau.specs.OwnRows.{row_over, factor_of, AreOwnRows}
use Rattle.tableau.specs.Tables.{Table}
use Rattle.tableau.specs.Readings.{member_values}
use Rattle.tableau.specs.declared.problem.Problem.{Problem}
use Rattle.tableau.specs.Widths.{name_in}

-- the table that is kept: the members' rows, and then the objective's, brought to one den
abbrev pub table_of : SparseTable → Table
table_of sparse = record {
  den = sparse.den;
  members = sparse.members.items;
  others = sparse.others.items;
  rows = map (row_over sparse.den (length sparse.others.items + 1)) (take (length sparse.members.items) sparse.rows.items);
  objective = row_over sparse.den (length sparse.others.items + 1)
      (slice_index_or sparse.rows.items (length sparse.members.items) []);
}

-- how many numbers a row has: one for each of the others, and the value
abbrev pub width_of : SparseTable → ℕ
width_of table = length table.others.items + 1

-- how many times the own den of the k-th row is the table's
abbrev pub factor_at : SparseTable → ℕ → ℤ
factor_at table k = factor_of table.den (width_of table) (slice_index_or table.rows.items k [])

-- the numbers of all rows at a place, each over the row's own den
abbrev pub column_of : SparseTable → ℕ → List ℤ
column_of table column = map (λ entries. coefficient entries column) table.rows.items

-- rows are over dens of their own, and what is kept over the table's den are the members' values and the objective's
-- numbers
pub record IsSoundTable (table : SparseTable) : Type 0 where
  pub rows : AreOwnRows table.den (width_of table) table.rows.items
  pub values : table.values.items ≡ member_values (table_of table)
  pub objective : table.objective.items ≡ (table_of table).objective

-- a row and a column are the names of the place j in the row k
abbrev pub NamesPlace : Problem → SparseTable → ℕ → ℕ → ℕ → ℕ → Type 0
NamesPlace problem table k j row column =
    (row ≡ name_in problem table.members.items k) × (column ≡ name_in problem table.others.items j)
