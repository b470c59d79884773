-- Linear problems and their first table (own).
use Rattle.std.specs.Prelude.{◌≡◌, ◌≢◌, ℕ, ◌+◌, ◌-◌, ◌<◌, List, [], ◌∷◌, ◌++◌, length, map, slice_index, slice_index_or, All, zip, ℤ, pos, neg_ℤ, ◌+ℤ◌, ◌-ℤ◌, ◌*ℤ◌, ◌≤ℤ◌, nat_lt, if◌then◌else◌}
use Rattle.std.specs.List.{range_with_len}
use Rattle.sdc_base.specs.Totals.{sum_below}
use Rattle.sdc_base.specs.Forms.{coefficient}
use Rattle.tableau.specs.Amounts.{value_of}
use Rattle.tableau.specs.declared.problem.LinRow.{LinRow}
use Rattle.tableau.specs.declared.problem.Problem.{Problem}
use Rattle.tableau.specs.Tables.{Table, Holds, HasShape}
use Rattle.tableau.specs.TableLaws.{value}

-- the target as a row: the objective comes to at most the target
abbrev pub target_row : Problem → LinRow
target_row problem = record { entries = problem.objective; bound = problem.target }

-- all rows, that of the target as the last
abbrev pub rows_of : Problem → List LinRow
rows_of problem = problem.rows ++ target_row problem ∷ []

-- how many columns and slacks there are
abbrev pub variable_count : Problem → ℕ
variable_count problem = problem.columns + length (rows_of problem)

abbrev pub no_row : LinRow
no_row = record { entries = []; bound = pos 0 }

-- the k-th row
abbrev pub row_at : Problem → ℕ → LinRow
row_at problem k = slice_index_or (rows_of problem) k no_row

-- the entries name columns
pub record NamesColumns (problem : Problem) : Type 0 where
  pub rows : (k : ℕ) → k < length (rows_of problem) → All (λ term. term.0 < problem.columns) (row_at problem k).entries
  pub objective : All (λ term. term.0 < problem.columns) problem.objective

-- bounds are 0 or more, the target's among them
abbrev pub BoundsAreFromZero : Problem → Type 0
BoundsAreFromZero problem = (k : ℕ) → k < length (rows_of problem) → pos 0 ≤ℤ (row_at problem k).bound

-- what the k-th row leaves free, with all amounts over one denominator
abbrev pub slack : Problem → (ℕ → ℤ) → ℤ → ℕ → ℤ
slack problem amounts whole k = (row_at problem k).bound *ℤ whole -ℤ value_of amounts (row_at problem k).entries

-- the amounts of columns, and behind them those of the slacks
abbrev pub all_amounts : Problem → (ℕ → ℤ) → ℤ → ℕ → ℤ
all_amounts problem amounts whole v =
    if nat_lt v problem.columns then amounts v else slack problem amounts whole (v - problem.columns)

-- a number for each column, then the value
abbrev pub numbers_then_value : ℕ → (ℕ → ℤ) → ℤ → List ℤ
numbers_then_value columns numbers value = map numbers (range_with_len 0 columns) ++ value ∷ []

-- the first table: the slacks are the members, over the den 1
abbrev pub first_table : Problem → Table
first_table problem = record {
  den = pos 1;
  members = range_with_len problem.columns (length (rows_of problem));
  others = range_with_len 0 problem.columns;
  rows = map (λ row. numbers_then_value problem.columns (coefficient row.entries) row.bound) (rows_of problem);
  objective = numbers_then_value problem.columns (λ column. neg_ℤ (coefficient problem.objective column)) (pos 0);
}

-- the first table is true of every choice of amounts for the columns
abbrev pub StartHolds : Type 0
StartHolds = (problem : Problem) → NamesColumns problem → (amounts : ℕ → ℤ) (whole : ℤ) →
    Holds (first_table problem) (all_amounts problem amounts whole) (value_of amounts problem.objective) whole

-- the objective's number at a column or slack, 0 where it is a member
abbrev pub number_for : Table → ℕ → ℤ
number_for table v = coefficient (zip table.others table.objective) v

-- the table is true of every choice of amounts for the columns
abbrev pub IsTrueOf : Problem → Table → Type 0
IsTrueOf problem table = (amounts : ℕ → ℤ) (whole : ℤ) →
    Holds table (all_amounts problem amounts whole) (value_of amounts problem.objective) whole

-- the objective's numbers at the slacks weigh the rows: the bounds to the value, the entries to the objective and its
-- numbers at the columns
pub record AreDuals (problem : Problem) (table : Table) : Type 0 where
  pub bounds :
      sum_below (length (rows_of problem)) (λ k. number_for table (problem.columns + k) *ℤ (row_at problem k).bound)
      ≡ value table
  pub entries : (column : ℕ) → column < problem.columns →
      table.den *ℤ coefficient problem.objective column +ℤ number_for table column
      ≡ sum_below (length (rows_of problem))
      (λ k. number_for table (problem.columns + k) *ℤ coefficient (row_at problem k).entries column)

abbrev pub TablesGiveDuals : Type 0
TablesGiveDuals = (problem : Problem) (table : Table) → NamesColumns problem → HasShape table →
    All (λ v. v < problem.columns + length (rows_of problem)) table.others → IsTrueOf problem table →
    AreDuals problem table

-- the number of the k-th row at a column or slack, its own member included
abbrev pub number_in : Table → ℕ → ℕ → ℤ
number_in table k v =
    coefficient ((slice_index table.members k, table.den) ∷ zip table.others (slice_index_or table.rows k [])) v

-- each row has a number other than 0 at some slack
abbrev pub NoRowIsZero : Type 0
NoRowIsZero = (problem : Problem) (table : Table) (k : ℕ) → NamesColumns problem → HasShape table →
    pos 1 ≤ℤ table.den → k < length table.members →
    All (λ v. v < problem.columns + length (rows_of problem)) table.others →
    slice_index table.members k < problem.columns + length (rows_of problem) →
    All (λ v. v ≢ slice_index table.members k) table.others →
    IsTrueOf problem table →
    ((slack : ℕ) → slack < length (rows_of problem) → number_in table k (problem.columns + slack) ≡ pos 0) → ⊥
