-- What a table of a walk says of its problem: amounts that the problem allows, and the numbers at the slacks (linear
-- duality).
use Rattle.std.specs.Prelude.{◌≡◌, ℕ, ◌+◌, ◌<◌, length, pos, ◌+ℤ◌, ◌*ℤ◌, ◌≤ℤ◌, ◌<ℤ◌}
use Rattle.tableau.specs.declared.problem.Problem.{Problem}
use Rattle.tableau.specs.Amounts.{value_of}
use Rattle.tableau.specs.Tables.{Table, HasShape, entry}
use Rattle.sdc_base.specs.Systems.{number_at}
use Rattle.tableau.specs.TableLaws.{CannotImprove, value}
use Rattle.tableau.specs.Problems.{NamesColumns, rows_of, row_at, number_for}
use Rattle.tableau.specs.Walks.{IsTableOf}
use Rattle.tableau.specs.Readings.{value_for}

-- The values of a table, over its den, are amounts that the problem allows: none is below 0, in every row the entries
-- and the slack come to the bound, and the objective comes to its value.
pub record AreFeasible (problem : Problem) (table : Table) : Type 0 where
  pub from_zero : (v : ℕ) → pos 0 ≤ℤ value_for table v
  pub rows : (k : ℕ) → k < length (rows_of problem) →
      value_of (value_for table) (row_at problem k).entries +ℤ value_for table (problem.columns + k)
      ≡ table.den *ℤ (row_at problem k).bound
  pub objective : value_of (value_for table) problem.objective ≡ value table

-- every table of a walk has such values
abbrev pub ValuesAreFeasible : Type 0
ValuesAreFeasible = (problem : Problem) (table : Table) → NamesColumns problem → IsTableOf problem table →
    AreFeasible problem table

-- the objective is never above the target
abbrev pub TargetBounds : Type 0
TargetBounds = (problem : Problem) (table : Table) → NamesColumns problem → IsTableOf problem table →
    value table ≤ℤ (table.den *ℤ problem.target)

-- where a number in the objective's row is below 0, some member has a number above 0 there, since the target bounds the
-- objective
abbrev pub SomeMemberLeaves : Type 0
SomeMemberLeaves =
    (problem : Problem) (table : Table) (column : ℕ) → NamesColumns problem → IsTableOf problem table →
    column < length table.others → number_at table.objective column <ℤ pos 0 →
    ((k : ℕ) → k < length table.members → entry table k column ≤ℤ pos 0) → ⊥

-- where no number in the objective's row is below 0, none is at any column or slack
abbrev pub NoneBelow : Type 0
NoneBelow = (table : Table) → HasShape table → CannotImprove table → (v : ℕ) → pos 0 ≤ℤ number_for table v

-- where a column or slack has a value above 0 the objective's number there is 0
abbrev pub ComplementarySlackness : Type 0
ComplementarySlackness = (problem : Problem) (table : Table) (v : ℕ) → IsTableOf problem table →
    pos 0 <ℤ value_for table v → number_for table v ≡ pos 0

-- where the objective is below the target, its number at the target's slack is 0
abbrev pub TargetIsFree : Type 0
TargetIsFree =
    (problem : Problem) (table : Table) → NamesColumns problem → IsTableOf problem table →
    value table <ℤ (table.den *ℤ problem.target) →
    number_for table (problem.columns + length problem.rows) ≡ pos 0
