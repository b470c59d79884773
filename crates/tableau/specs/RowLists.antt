-- The list of a row, its value and then its number at each slack, and the lexicographic order (own).
use Rattle.std.specs.Prelude.{◌≡◌, ◌≢◌, ◌⊎◌, ℕ, zero, suc, ◌+◌, ◌<◌, [], length, slice_index, slice_index_or, ℤ, pos, ◌-ℤ◌, ◌*ℤ◌, ◌<ℤ◌, ◌≤ℤ◌}
use Rattle.tableau.specs.Tables.{Table, HasShape, IsQuotient, Holds, entry, exchanged_table}
use Rattle.sdc_base.specs.Systems.{number_at}
use Rattle.tableau.specs.TableLaws.{value}
use Rattle.tableau.specs.declared.problem.Problem.{Problem}
use Rattle.tableau.specs.Problems.{rows_of, number_in, number_for}

-- of so many numbers from a place on, the first that isn't 0 is above 0
abbrev pub IsLexPositive : ℕ → ℕ → (ℕ → ℤ) → Type 0
IsLexPositive zero from g = ⊥
IsLexPositive (suc n) from g = (pos 0 <ℤ g from) ⊎ ((g from ≡ pos 0) × IsLexPositive n (suc from) g)

-- all are 0
abbrev pub AreZeros : ℕ → ℕ → (ℕ → ℤ) → Type 0
AreZeros n from g = (i : ℕ) → i < n → g (from + i) ≡ pos 0

-- the k-th row's list: place 0 has the value, place 1 + s the number at slack s
abbrev pub list_of : Problem → Table → ℕ → ℕ → ℤ
list_of problem table k zero = number_at (slice_index_or table.rows k []) (length table.others)
list_of problem table k (suc s) = number_in table k (problem.columns + s)

-- the objective's list
abbrev pub objective_list : Problem → Table → ℕ → ℤ
objective_list problem table zero = value table
objective_list problem table (suc s) = number_for table (problem.columns + s)

abbrev pub list_size : Problem → ℕ
list_size problem = suc (length (rows_of problem))

-- each row's list is lexicographically above 0
abbrev pub RowsAreLexPositive : Problem → Table → Type 0
RowsAreLexPositive problem table = (k : ℕ) → k < length table.members →
    IsLexPositive (list_size problem) 0 (list_of problem table k)

-- How far the k-th row's list, over its number in a column, is above the row's list over its own, with both brought to
-- one denominator.
abbrev pub lead : Problem → Table → ℕ → ℕ → ℕ → ℕ → ℤ
lead problem table column row k i =
    entry table row column *ℤ list_of problem table k i -ℤ entry table k column *ℤ list_of problem table row i

-- the row's list, over its number in a column, is less than the k-th row's over its own, or the same and the row comes
-- first
abbrev pub LeavesBefore : Problem → Table → ℕ → ℕ → ℕ → Type 0
LeavesBefore problem table column row k =
    IsLexPositive (list_size problem) 0 (lead problem table column row k)
    ⊎ (AreZeros (list_size problem) 0 (lead problem table column row k) × (row < k))

-- The member of the row leaves: its number in the column is above 0, and its list divided by that number is
-- lexicographically less than that of each other row with a number above 0 there, at a tie the first.
pub record Leaves (problem : Problem) (table : Table) (row column : ℕ) : Type 0 where
  pub row_within : row < length table.members
  pub above : pos 1 ≤ℤ entry table row column
  pub least : (k : ℕ) → k < length table.members → k ≢ row →
      pos 1 ≤ℤ entry table k column →
      LeavesBefore problem table column row k

-- the objective's list, over the den, is lexicographically greater in the second table
abbrev pub Rises : Problem → Table → Table → Type 0
Rises problem before after =
    IsLexPositive (list_size problem) 0
    (λ i. before.den *ℤ objective_list problem after i -ℤ after.den *ℤ objective_list problem before i)

-- an exchange where the member of a row leaves and the objective's number is below 0: rows' lists stay above 0, and the
-- objective's list rises
abbrev pub ExchangeRises : Type 0
ExchangeRises = (problem : Problem) (table : Table) (row column : ℕ) → HasShape table → pos 1 ≤ℤ table.den →
    column < length table.others → Leaves problem table row column → RowsAreLexPositive problem table →
    ((k : ℕ) → k < length table.members →
    AreZeros (length (rows_of problem)) 1 (list_of problem (exchanged_table table row column) k) → ⊥) →
    number_at table.objective column <ℤ pos 0 →
    RowsAreLexPositive problem (exchanged_table table row column)
    × Rises problem table (exchanged_table table row column)

-- what one table is true of, another is
abbrev pub Implies : Table → Table → Type 0
Implies one other = (amounts : ℕ → ℤ) (objective whole : ℤ) → Holds one amounts objective whole →
    Holds other amounts objective whole

-- the members are distinct and none is among the others
pub record IsBasis (table : Table) : Type 0 where
  pub distinct : (j k : ℕ) → j < length table.members → k < length table.members →
      slice_index table.members j ≡ slice_index table.members k → j ≡ k
  pub apart : (j k : ℕ) → j < length table.members → k < length table.others →
      slice_index table.members j ≢ slice_index table.others k

-- a basis determines the objective's list: two tables that say as much and whose others have no member of the first
-- have equal lists over their dens
abbrev pub BasisDetermines : Type 0
BasisDetermines = (problem : Problem) (one other : Table) → HasShape one → HasShape other → IsBasis one →
    Implies one other →
    ((j k : ℕ) → j < length one.members → k < length other.others →
    slice_index one.members j ≢ slice_index other.others k) →
    (i : ℕ) → other.den *ℤ objective_list problem one i ≡ one.den *ℤ objective_list problem other i

-- tables whose objective rises from one to the next, however far apart, are of different bases
abbrev pub RisingIsTransitive : Type 0
RisingIsTransitive = (problem : Problem) (first second third : Table) → pos 1 ≤ℤ first.den → pos 1 ≤ℤ second.den →
    pos 1 ≤ℤ third.den → Rises problem first second → Rises problem second third → Rises problem first third

abbrev pub RisingIsApart : Type 0
RisingIsApart = (problem : Problem) (one other : Table) → Rises problem one other →
    ((i : ℕ) → other.den *ℤ objective_list problem one i ≡ one.den *ℤ objective_list problem other i) → ⊥

-- dividing a table's numbers keeps how it compares
abbrev pub DivisionRises : Type 0
DivisionRises = (problem : Problem) (d : ℤ) (before whole part : Table) → HasShape part → IsQuotient d whole part →
    Rises problem before whole → Rises problem before part
