-- Choices among the first places or rows, as a search comes to them (own).
use Rattle.std.specs.Prelude.{◌≡◌, ◌≢◌, ℕ, ◌<◌, ◌≤◌, Option, Some, None, slice_index, pos, ◌<ℤ◌, ◌≤ℤ◌, ◌+◌, ◌-◌, List, length}
use Rattle.tableau.specs.declared.problem.Problem.{Problem}
use Rattle.tableau.specs.Tables.{Table, entry}
use Rattle.sdc_base.specs.Systems.{number_at}
use Rattle.tableau.specs.RowLists.{LeavesBefore}

-- of the first k places this is the one that comes in
pub record EntersAmong (table : Table) (k column : ℕ) : Type 0 where
  pub within : column < k
  pub below : number_at table.objective column <ℤ pos 0
  pub least : (j : ℕ) → j < k → number_at table.objective column ≤ℤ number_at table.objective j
  pub first : (j : ℕ) → j < k → number_at table.objective j ≡ number_at table.objective column →
      slice_index table.others column ≤ slice_index table.others j

-- what comes in among the first k places, if anything does
abbrev pub IsEntering : Table → ℕ → Option ℕ → Type 0
IsEntering table k None = (j : ℕ) → j < k → pos 0 ≤ℤ number_at table.objective j
IsEntering table k (Some column) = EntersAmong table k column

-- of the first k rows this is the one whose member leaves
pub record LeavesAmong (problem : Problem) (table : Table) (column k row : ℕ) : Type 0 where
  pub within : row < k
  pub above : pos 1 ≤ℤ entry table row column
  pub least : (j : ℕ) → j < k → j ≢ row → pos 1 ≤ℤ entry table j column →
      LeavesBefore problem table column row j

-- which row's member leaves among the first k rows, if any does
abbrev pub IsLeaving : Problem → Table → ℕ → ℕ → Option ℕ → Type 0
IsLeaving problem table column k None = (j : ℕ) → j < k → entry table j column ≤ℤ pos 0
IsLeaving problem table column k (Some row) = LeavesAmong problem table column k row

-- for each slack its place among the others, or a number that is no place of theirs where it is a member
pub record AreSlackPlaces (problem : Problem) (table : Table) (places : List ℕ) : Type 0 where
  pub long : length places ≡ length table.members
  pub each : (j : ℕ) → j < length table.others → problem.columns ≤ slice_index table.others j →
      slice_index places (slice_index table.others j - problem.columns) ≡ j
  pub back : (slack : ℕ) → slack < length places → slice_index places slack < length table.others →
      slice_index table.others (slice_index places slack) ≡ problem.columns + slack
