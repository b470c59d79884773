-- The step from a table: which column or slack comes in, which member leaves, and the exchange with its divisor (own).
use Rattle.std.specs.Prelude.{◌≡◌, ℕ, ◌<◌, ◌≤◌, length, slice_index, ℤ, pos, ◌*ℤ◌, ◌<ℤ◌, ◌≤ℤ◌}
use Rattle.tableau.specs.declared.problem.Problem.{Problem}
use Rattle.tableau.specs.Tables.{Table, IsQuotient, exchanged_table}
use Rattle.sdc_base.specs.Systems.{number_at}
use Rattle.tableau.specs.TableLaws.{CannotImprove, value}
use Rattle.tableau.specs.RowLists.{Leaves}

-- The column or slack at this place comes in: its number in the objective's row is below 0 and the least there, and of
-- those with that number it is the first, columns before slacks.
pub record Enters (table : Table) (column : ℕ) : Type 0 where
  pub within : column < length table.others
  pub below : number_at table.objective column <ℤ pos 0
  pub least : (k : ℕ) → k < length table.others → number_at table.objective column ≤ℤ number_at table.objective k
  pub first : (k : ℕ) → k < length table.others → number_at table.objective k ≡ number_at table.objective column →
      slice_index table.others column ≤ slice_index table.others k

-- One table is the other with its den and all its numbers divided by d, and no greater number divides them all: d is
-- the divisor of the exchange that made the other.
pub record IsInLowestTerms (d : ℤ) (whole part : Table) : Type 0 where
  pub divided : IsQuotient d whole part
  pub greatest : (e : ℤ) (other : Table) → IsQuotient e whole other → e ≤ℤ d

-- the step from a table whose objective is below the target: what comes in takes the place of what leaves, by the
-- exchange divided by its divisor
pub record IsStep (problem : Problem) (table after : Table) (row column : ℕ) (d : ℤ) : Type 0 where
  pub below : value table <ℤ (table.den *ℤ problem.target)
  pub enters : Enters table column
  pub leaves : Leaves problem table row column
  pub reduced : IsInLowestTerms d (exchanged_table table row column) after

-- the second table is made by the step from the first
abbrev pub IsStepOf : Problem → Table → Table → Type 0
IsStepOf problem table after = (row : ℕ) × (column : ℕ) × (d : ℤ) × IsStep problem table after row column d

-- the objective is below the target, and a column or slack improves it
abbrev pub CanImprove : Problem → Table → Type 0
CanImprove problem table = (value table <ℤ (table.den *ℤ problem.target)) × (column : ℕ) × Enters table column

-- the objective, value over den, equals the target
abbrev pub IsReached : Problem → Table → Type 0
IsReached problem table = value table ≡ table.den *ℤ problem.target

-- the objective is below the target, and no number at a column or slack in its row is below 0
pub record IsBlocked (problem : Problem) (table : Table) : Type 0 where
  pub below : value table <ℤ (table.den *ℤ problem.target)
  pub none_below : CannotImprove table
