-- Steps from table to table, and what each keeps (own).
use Rattle.std.specs.Prelude.{◌≡◌, ◌≢◌, ◌⊎◌, ℕ, zero, suc, ◌<◌, ◌≤◌, ◌^◌, List, [], ◌∷◌, length, slice_index, ℤ, pos, ◌≤ℤ◌}
use Rattle.tableau.specs.Tables.{Table, HasShape}
use Rattle.tableau.specs.declared.problem.Problem.{Problem}
use Rattle.tableau.specs.Problems.{NamesColumns, IsTrueOf, BoundsAreFromZero, rows_of, variable_count, first_table}
use Rattle.tableau.specs.RowLists.{RowsAreLexPositive, Rises, Implies}
use Rattle.tableau.specs.Steps.{IsStep, IsStepOf, CanImprove, IsReached, IsBlocked}

-- members and others are distinct numbers of columns and slacks
pub record IsBasisOf (numbers : ℕ) (member_list other_list : List ℕ) : Type 0 where
  pub members : (j k : ℕ) → j < length member_list → k < length member_list →
      slice_index member_list j ≡ slice_index member_list k → j ≡ k
  pub others : (j k : ℕ) → j < length other_list → k < length other_list →
      slice_index other_list j ≡ slice_index other_list k → j ≡ k
  pub apart : (j k : ℕ) → j < length member_list → k < length other_list →
      slice_index member_list j ≢ slice_index other_list k
  pub members_below : (k : ℕ) → k < length member_list → slice_index member_list k < numbers
  pub others_below : (k : ℕ) → k < length other_list → slice_index other_list k < numbers

-- a table of the problem has a member for each row, and all else are its others
pub record HasSize (problem : Problem) (table : Table) : Type 0 where
  pub members : length table.members ≡ length (rows_of problem)
  pub others : length table.others ≡ problem.columns

-- A table of the problem: it has a member for each row, distinct columns and slacks, and a den above 0; it is true of
-- the same amounts as the first table, and its rows' lists are lexicographically above 0
pub record IsTableOf (problem : Problem) (table : Table) : Type 0 where
  pub shaped : HasShape table
  pub sized : HasSize problem table
  pub above_zero : pos 1 ≤ℤ table.den
  pub basis : IsBasisOf (variable_count problem) table.members table.others
  pub true_of : IsTrueOf problem table
  pub from_start : Implies (first_table problem) table
  pub to_start : Implies table (first_table problem)
  pub rows_above : RowsAreLexPositive problem table

-- a step from a table of the problem leads to one, and the objective's list rises
abbrev pub StepGivesTable : Type 0
StepGivesTable = (problem : Problem) (table after : Table) (row column : ℕ) (d : ℤ) → NamesColumns problem →
    IsTableOf problem table → IsStep problem table after row column d →
    IsTableOf problem after × Rises problem table after

-- a chain of tables, the last one first, each made by a step from the one before
abbrev pub IsChain : Problem → List Table → Type 0
IsChain problem [] = Unit {0}
IsChain problem (table ∷ []) = IsTableOf problem table
IsChain problem (after ∷ before ∷ tables) = IsStepOf problem before after × IsChain problem (before ∷ tables)

-- no basis comes twice, so a chain has at most as many tables as there are sets of columns and slacks
abbrev pub ChainsAreShort : Type 0
ChainsAreShort = (problem : Problem) (tables : List Table) → NamesColumns problem → IsChain problem tables →
    length tables ≤ 2 ^ variable_count problem

-- the first table is one, where bounds are 0 or more
abbrev pub StartGivesTable : Type 0
StartGivesTable = (problem : Problem) → NamesColumns problem →
    BoundsAreFromZero problem →
    IsTableOf problem (first_table problem)

-- the table is the end of a walk of n steps, which begins with the first table
abbrev pub IsWalk : Problem → ℕ → Table → Type 0
IsWalk problem zero table = table ≡ first_table problem
IsWalk problem (suc n) table = (before : Table) × IsWalk problem n before × IsStepOf problem before table

-- every table of a walk is one
abbrev pub WalkGivesTable : Type 0
WalkGivesTable = (problem : Problem) (n : ℕ) (table : Table) → NamesColumns problem →
    BoundsAreFromZero problem → IsWalk problem n table →
    IsTableOf problem table

-- a walk has fewer steps than there are sets of columns and slacks
abbrev pub WalksAreShort : Type 0
WalksAreShort = (problem : Problem) (n : ℕ) (table : Table) → NamesColumns problem →
    BoundsAreFromZero problem → IsWalk problem n table →
    n < 2 ^ variable_count problem

-- from a table there is at most one step
abbrev pub StepIsOne : Type 0
StepIsOne = (problem : Problem) (table one other : Table) → IsTableOf problem table → IsStepOf problem table one →
    IsStepOf problem table other → one ≡ other

-- so many steps lead to one table
abbrev pub WalkIsOne : Type 0
WalkIsOne =
    (problem : Problem) (n : ℕ) (one other : Table) → NamesColumns problem →
    BoundsAreFromZero problem → IsWalk problem n one →
    IsWalk problem n other → one ≡ other

-- a problem has one walk to a table that can't be improved
abbrev pub EndIsOne : Type 0
EndIsOne =
    (problem : Problem) (m n : ℕ) (one other : Table) → NamesColumns problem →
    BoundsAreFromZero problem
    → IsWalk problem m one → IsWalk problem n other → ¬ CanImprove problem one → ¬ CanImprove problem other →
    (m ≡ n) × (one ≡ other)

-- from every table that can be improved there is a step
abbrev pub StepExists : Type 0
StepExists = (problem : Problem) (table : Table) → NamesColumns problem → IsTableOf problem table →
    CanImprove problem table → (after : Table) × IsStepOf problem table after

-- every problem has a walk to a table that is reached or blocked
abbrev pub EndExists : Type 0
EndExists = (problem : Problem) → NamesColumns problem → BoundsAreFromZero problem →
    (n : ℕ) × (last : Table) × IsWalk problem n last × (IsReached problem last ⊎ IsBlocked problem last)
