-- Pairs of solutions, of a problem and of its dual, that show each other to be the best, and what is read of them (linear
-- duality, complementary slackness; own).
use Rattle.std.specs.Prelude.{◌≡◌, true, false, ℕ, zero, suc, ◌+◌, ◌<◌, ◌==◌, length, map, ℤ, pos, ◌-ℤ◌, ◌+ℤ◌, ◌*ℤ◌, ◌<ℤ◌, ◌≤ℤ◌, if◌then◌else◌}
use Rattle.std.specs.List.{range_with_len}
use Rattle.sdc_base.specs.Totals.{sum_below}
use Rattle.sdc_base.specs.Forms.{coefficient}
use Rattle.tableau.specs.Amounts.{value_of}
use Rattle.tableau.specs.declared.problem.Problem.{Problem}
use Rattle.tableau.specs.PartProblems.{Selection, IsPartOf, IsBlockedIn}
use Rattle.tableau.specs.Problems.{NamesColumns, BoundsAreFromZero, rows_of, row_at, variable_count, number_for}
use Rattle.tableau.specs.RowLists.{list_size}
use Rattle.tableau.specs.Readings.{slacks_of}
use Rattle.tableau.specs.Steps.{IsBlocked, IsReached}
use Rattle.tableau.specs.TableLaws.{value}
use Rattle.tableau.specs.Tables.{Table, times_row}
use Rattle.tableau.specs.Walks.{IsTableOf, IsWalk}

-- a row's list before any step: its bound, and then 1 at its own slack's place
abbrev pub bound_list : Problem → ℕ → ℕ → ℤ
bound_list problem k zero = (row_at problem k).bound
bound_list problem k (suc s) = if k == s then pos 1 else pos 0

-- of so many numbers the first that isn't 0, if there is one, is above 0
abbrev pub IsNotBelowZeros : ℕ → (ℕ → ℤ) → Type 0
IsNotBelowZeros size list = (i : ℕ) → i < size → ((j : ℕ) → j < i → list j ≡ pos 0) → pos 0 ≤ℤ list i

-- what the weighed rows have at a column, above the objective's q times
abbrev pub reduced_number : Problem → (ℕ → ℤ) → ℤ → ℕ → ℤ
reduced_number problem weights q column =
    sum_below (length (rows_of problem)) (λ k. weights k *ℤ coefficient (row_at problem k).entries column)
    -ℤ q *ℤ coefficient problem.objective column

-- Lists of the columns and slacks, over d, that satisfy the rows at each place, and weights of the rows, over q, none
-- below 0; at each column the list is 0 or the reduced number is, and at each slack the list or the weight.
pub record AreComplements (problem : Problem) (d q : ℤ) (lists : ℕ → ℕ → ℤ) (weights : ℕ → ℤ) : Type 0 where
  pub d_above : pos 1 ≤ℤ d
  pub q_above : pos 1 ≤ℤ q
  pub rows : (k i : ℕ) → k < length (rows_of problem) → i < list_size problem →
      value_of (λ column. lists column i) (row_at problem k).entries +ℤ lists (problem.columns + k) i
      ≡ d *ℤ bound_list problem k i
  pub weights_above : (k : ℕ) → k < length (rows_of problem) → pos 0 ≤ℤ weights k
  pub at_columns : (column i : ℕ) → column < problem.columns → i < list_size problem →
      reduced_number problem weights q column *ℤ lists column i ≡ pos 0
  pub at_slacks : (k i : ℕ) → k < length (rows_of problem) → i < list_size problem →
      weights k *ℤ lists (problem.columns + k) i ≡ pos 0

-- Complements that show each other to be the best: no list is lexicographically below 0, and no reduced number is below
-- 0.
pub record IsPair (problem : Problem) (d q : ℤ) (lists : ℕ → ℕ → ℤ) (weights : ℕ → ℤ) : Type 0 where
  pub complements : AreComplements problem d q lists weights
  pub lists_above : (v : ℕ) → v < variable_count problem → IsNotBelowZeros (list_size problem) (lists v)
  pub numbers_above : (column : ℕ) → column < problem.columns → pos 0 ≤ℤ reduced_number problem weights q column

-- the objective's value on the lists, over d
abbrev pub pair_value : Problem → (ℕ → ℕ → ℤ) → ℤ
pair_value problem lists = value_of (λ column. lists column 0) problem.objective

-- a table's numbers at the slacks, over its den, are the weights over q, those at the columns are the reduced numbers,
-- and its value is the lists'
pub record IsRead (problem : Problem) (d q : ℤ) (lists : ℕ → ℕ → ℤ) (weights : ℕ → ℤ) (last : Table) : Type 0 where
  pub values : pair_value problem lists *ℤ last.den ≡ value last *ℤ d
  pub numbers : (k : ℕ) → k < length (rows_of problem) →
      weights k *ℤ last.den ≡ number_for last (problem.columns + k) *ℤ q
  pub columns : (column : ℕ) → column < problem.columns →
      reduced_number problem weights q column *ℤ last.den ≡ number_for last column *ℤ q
  pub slacks : times_row last.den (map weights (range_with_len 0 (length (rows_of problem))))
      ≡ times_row q (slacks_of problem last)

-- whatever found it, what is read of a pair is read of each blocked table of the problem
abbrev pub PairIsRead : Type 0
PairIsRead =
    (problem : Problem) (d q : ℤ) (lists : ℕ → ℕ → ℤ) (weights : ℕ → ℤ) (last : Table) → NamesColumns problem →
    IsPair problem d q lists weights → IsTableOf problem last → IsBlocked problem last →
    IsRead problem d q lists weights last

-- each blocked table gives a pair
abbrev pub TableGivesPair : Type 0
TableGivesPair = (problem : Problem) (table : Table) → NamesColumns problem → IsTableOf problem table →
    IsBlocked problem table →
    (lists : ℕ → ℕ → ℤ)
    × IsPair problem table.den table.den lists (λ k. number_for table (problem.columns + k))
    × (pair_value problem lists ≡ value table)

-- where a pair's value is below the target no table of the problem is reached
abbrev pub PairIsNotReached : Type 0
PairIsNotReached =
    (problem : Problem) (d q : ℤ) (lists : ℕ → ℕ → ℤ) (weights : ℕ → ℤ) (last : Table) → NamesColumns problem →
    IsPair problem d q lists weights → pair_value problem lists <ℤ (d *ℤ problem.target) → IsTableOf problem last →
    IsReached problem last → ⊥

-- so the problem's walk ends in a blocked table, of which this is read
abbrev pub PairEnds : Type 0
PairEnds =
    (problem : Problem) (d q : ℤ) (lists : ℕ → ℕ → ℤ) (weights : ℕ → ℤ) → NamesColumns problem →
    BoundsAreFromZero problem → IsPair problem d q lists weights →
    pair_value problem lists <ℤ (d *ℤ problem.target) →
    (n : ℕ) × (last : Table) × IsWalk problem n last × IsBlocked problem last
    × IsRead problem d q lists weights last

-- Complements of the larger problem that show what is best in the smaller one: the lists of the columns that are left
-- out are 0, those of the smaller problem's columns and slacks are not below 0, and no reduced number of its columns is.
pub record IsPairIn (s : Selection) (part whole : Problem) (d q : ℤ) (lists : ℕ → ℕ → ℤ) (weights : ℕ → ℤ) : Type 0 where
  pub complements : AreComplements whole d q lists weights
  pub left : (column i : ℕ) → s.leaves_out column ≡ true → i < list_size whole → lists column i ≡ pos 0
  pub columns_above : (column : ℕ) → column < part.columns →
      IsNotBelowZeros (list_size whole) (lists (s.column_in_whole column))
  pub slacks_above : (k : ℕ) → k < length (rows_of part) →
      IsNotBelowZeros (list_size whole) (lists (whole.columns + s.row_in_whole k))
  pub numbers_above : (column : ℕ) → column < whole.columns → s.has_column column ≡ true →
      pos 0 ≤ℤ reduced_number whole weights q column

-- A table of the smaller problem has, over its den, the lists' value and the weights of its rows over q, and the weights
-- of all other rows are 0.
pub record IsReadIn (s : Selection) (part whole : Problem) (d q : ℤ) (lists : ℕ → ℕ → ℤ) (weights : ℕ → ℤ) (last : Table) : Type 0 where
  pub values : pair_value whole lists *ℤ last.den ≡ value last *ℤ d
  pub numbers : (k : ℕ) → k < length (rows_of part) →
      weights (s.row_in_whole k) *ℤ last.den ≡ number_for last (part.columns + k) *ℤ q
  pub others : (k : ℕ) → k < length (rows_of whole) → s.has_row k ≡ false → weights k ≡ pos 0
  pub slacks : times_row last.den (map (λ k. weights (s.row_in_whole k)) (range_with_len 0 (length (rows_of part))))
      ≡ times_row q (slacks_of part last)

-- what is read of such a pair is read of each blocked table of the smaller problem
abbrev pub PairInIsRead : Type 0
PairInIsRead =
    (s : Selection) (part whole : Problem) (d q : ℤ) (lists : ℕ → ℕ → ℤ) (weights : ℕ → ℤ) (last : Table) →
    NamesColumns part → NamesColumns whole → BoundsAreFromZero whole → IsPartOf s part whole →
    IsPairIn s part whole d q lists weights → IsTableOf part last → IsBlocked part last →
    IsReadIn s part whole d q lists weights last

-- each table of the larger problem that is blocked in the smaller one gives such a pair
abbrev pub TableGivesPairIn : Type 0
TableGivesPairIn =
    (s : Selection) (part whole : Problem) (table : Table) → NamesColumns whole → IsTableOf whole table →
    IsBlockedIn s whole table →
    (lists : ℕ → ℕ → ℤ)
    × IsPairIn s part whole table.den table.den lists (λ k. number_for table (whole.columns + k))
    × (pair_value whole lists ≡ value table)

-- where its value is below the target no table of the smaller problem is reached
abbrev pub PairInIsNotReached : Type 0
PairInIsNotReached =
    (s : Selection) (part whole : Problem) (d q : ℤ) (lists : ℕ → ℕ → ℤ) (weights : ℕ → ℤ) (last : Table) →
    NamesColumns part → NamesColumns whole → BoundsAreFromZero whole → IsPartOf s part whole →
    IsPairIn s part whole d q lists weights → pair_value whole lists <ℤ (d *ℤ whole.target) → IsTableOf part last →
    IsReached part last → ⊥

-- so the smaller problem's walk ends in a blocked table, of which this is read
abbrev pub PairInEnds : Type 0
PairInEnds =
    (s : Selection) (part whole : Problem) (d q : ℤ) (lists : ℕ → ℕ → ℤ) (weights : ℕ → ℤ) → NamesColumns part →
    NamesColumns whole → BoundsAreFromZero whole → IsPartOf s part whole → IsPairIn s part whole d q lists weights →
    pair_value whole lists <ℤ (d *ℤ whole.target) →
    (n : ℕ) × (last : Table) × IsWalk part n last × IsBlocked part last
    × IsReadIn s part whole d q lists weights last
