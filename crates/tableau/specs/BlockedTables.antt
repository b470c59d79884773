-- What the tables of a problem have in common where no number in their objectives' rows is below 0 (own).
use Rattle.std.specs.Prelude.{◌≡◌, ℕ, List, ◌∷◌, ◌*ℤ◌}
use Rattle.tableau.specs.declared.problem.Problem.{Problem}
use Rattle.tableau.specs.Problems.{NamesColumns, BoundsAreFromZero, number_for}
use Rattle.tableau.specs.Readings.{slacks_of}
use Rattle.tableau.specs.Steps.{IsBlocked, IsReached}
use Rattle.tableau.specs.TableLaws.{value}
use Rattle.tableau.specs.Tables.{Table, times_row}
use Rattle.tableau.specs.Walks.{IsTableOf, IsChain, IsWalk}

-- the objectives' values, and their numbers at every column and slack, over the dens are the same fractions
pub record HaveOneObjective (one other : Table) : Type 0 where
  pub values : value one *ℤ other.den ≡ value other *ℤ one.den
  pub numbers : (v : ℕ) → number_for one v *ℤ other.den ≡ number_for other v *ℤ one.den

-- whatever way led to them, blocked tables of a problem have one objective
abbrev pub BlockedIsOne : Type 0
BlockedIsOne = (problem : Problem) (one other : Table) → NamesColumns problem → IsTableOf problem one →
    IsTableOf problem other → IsBlocked problem one → IsBlocked problem other → HaveOneObjective one other

-- where a problem's walk ends in a blocked table, every blocked table of the problem has the same objective over its
-- den, and the same numbers at the slacks
pub record EndsLike (problem : Problem) (last table : Table) : Type 0 where
  pub objective : HaveOneObjective table last
  pub slacks : times_row last.den (slacks_of problem table) ≡ times_row table.den (slacks_of problem last)

abbrev pub BlockedAnyTable : Type 0
BlockedAnyTable =
    (problem : Problem) (n : ℕ) (last table : Table) → NamesColumns problem → BoundsAreFromZero problem →
    IsWalk problem n last → IsBlocked problem last → IsTableOf problem table → IsBlocked problem table →
    EndsLike problem last table

-- a chain of steps from any table of the problem to a blocked one ends like the problem's walk
abbrev pub BlockedAnyChain : Type 0
BlockedAnyChain = (problem : Problem) (n : ℕ) (last table : Table) (earlier : List Table) → NamesColumns problem →
    BoundsAreFromZero problem → IsWalk problem n last → IsBlocked problem last →
    IsChain problem (table ∷ earlier) → IsBlocked problem table → EndsLike problem last table

-- where one table of a problem is blocked, none is reached
abbrev pub BlockedIsNotReached : Type 0
BlockedIsNotReached = (problem : Problem) (one other : Table) → IsTableOf problem one → IsTableOf problem other →
    IsBlocked problem one → IsReached problem other → ⊥
