-- Problems of some columns and rows of others, and what is read of both (own).
use Rattle.std.specs.Prelude.{◌≡◌, ◌≢◌, ℕ, ◌+◌, ◌<◌, Bool, true, false, length, slice_index, ℤ, pos, ◌*ℤ◌, ◌<ℤ◌, ◌≤ℤ◌, if◌then◌else◌}
use Rattle.tableau.specs.Amounts.{value_of}
use Rattle.tableau.specs.declared.problem.Problem.{Problem}
use Rattle.tableau.specs.Problems.{rows_of, row_at, number_for}
use Rattle.tableau.specs.TableLaws.{value}
use Rattle.tableau.specs.Tables.{Table}

-- The columns and rows of a problem that a smaller one has: which these are, where each of them stands in the smaller
-- one, and where each of the smaller one's stands in the larger one; and the columns that are left out, which are 0.
pub record Selection : Type 0 where
  pub has_column : ℕ → Bool
  pub column_in_part : ℕ → ℕ
  pub column_in_whole : ℕ → ℕ
  pub has_row : ℕ → Bool
  pub row_in_part : ℕ → ℕ
  pub row_in_whole : ℕ → ℕ
  pub leaves_out : ℕ → Bool

-- amounts of the smaller problem's columns, with 0 at all others
abbrev pub amounts_in_whole : Selection → (ℕ → ℤ) → ℕ → ℤ
amounts_in_whole s amounts column = if s.has_column column then amounts (s.column_in_part column) else pos 0

-- amounts of the larger problem's columns, of which the smaller one's are taken
abbrev pub amounts_in_part : Selection → (ℕ → ℤ) → ℕ → ℤ
amounts_in_part s amounts column = amounts (s.column_in_whole column)

-- the selection's rows, in the order in which they stand in the larger problem
pub record SelectsRows (s : Selection) (part whole : ℕ) : Type 0 where
  pub ascend : (j k : ℕ) → j < k → k < part → s.row_in_whole j < s.row_in_whole k
  pub within : (k : ℕ) → k < part → s.row_in_whole k < whole
  pub had : (k : ℕ) → k < part → s.has_row (s.row_in_whole k) ≡ true
  pub in_part : (k : ℕ) → k < whole → s.has_row k ≡ true → s.row_in_part k < part
  pub stands : (k : ℕ) → k < whole → s.has_row k ≡ true → s.row_in_whole (s.row_in_part k) ≡ k

-- The smaller problem is what the selection leaves of the larger one: where the columns that are left out are 0, its
-- rows and its objective come to the same, and with the same bounds. A row that it hasn't names none of its columns.
pub record IsPartOf (s : Selection) (part whole : Problem) : Type 0 where
  pub rows : SelectsRows s (length (rows_of part)) (length (rows_of whole))
  pub bounds : (k : ℕ) → k < length (rows_of part) → (row_at part k).bound ≡ (row_at whole (s.row_in_whole k)).bound
  pub target : part.target ≡ whole.target
  pub widened_rows : (amounts : ℕ → ℤ) (k : ℕ) → k < length (rows_of part) →
      value_of (amounts_in_whole s amounts) (row_at whole (s.row_in_whole k)).entries
      ≡ value_of amounts (row_at part k).entries
  pub other_rows : (amounts : ℕ → ℤ) (k : ℕ) → k < length (rows_of whole) → s.has_row k ≡ false →
      value_of (amounts_in_whole s amounts) (row_at whole k).entries ≡ pos 0
  pub widened_objective : (amounts : ℕ → ℤ) →
      value_of (amounts_in_whole s amounts) whole.objective ≡ value_of amounts part.objective
  pub narrowed_rows : (amounts : ℕ → ℤ) (k : ℕ) → ((column : ℕ) → s.leaves_out column ≡ true → amounts column ≡ pos 0) →
      k < length (rows_of part) →
      value_of (amounts_in_part s amounts) (row_at part k).entries
      ≡ value_of amounts (row_at whole (s.row_in_whole k)).entries
  pub narrowed_objective : (amounts : ℕ → ℤ) → ((column : ℕ) → s.leaves_out column ≡ true → amounts column ≡ pos 0) →
      value_of (amounts_in_part s amounts) part.objective ≡ value_of amounts whole.objective

-- The larger problem's table is one that can't be improved in the smaller one: the columns that are left out are no
-- members, the objective is below the target, and no number in its row is below 0 at the smaller one's columns and at
-- the slacks.
pub record IsBlockedIn (s : Selection) (whole : Problem) (table : Table) : Type 0 where
  pub below : value table <ℤ (table.den *ℤ whole.target)
  pub left : (column k : ℕ) → s.leaves_out column ≡ true → k < length table.members → slice_index table.members k ≢ column
  pub columns : (column : ℕ) → s.has_column column ≡ true → pos 0 ≤ℤ number_for table column
  pub slacks : (k : ℕ) → k < length (rows_of whole) → pos 0 ≤ℤ number_for table (whole.columns + k)
