-- What contracts see of a tableau: its problem, how many steps were made, and the table (own).
use Rattle.std.specs.Prelude.{◌≡◌, ℕ, List, ℤ}
use Rattle.tableau.specs.declared.problem.Problem.{Problem}
use Rattle.tableau.specs.Tables.{Table}
use Rattle.tableau.specs.ProblemForm.{IsWellFormed}
use Rattle.tableau.specs.Walks.{IsWalk}
use Rattle.tableau.specs.Readings.{values_of, slacks_of}

-- a walk on a problem: how many steps it made, and the table that it came to
pub record TableauWalk : Type 0 where
  pub problem : Problem
  pub improved : ℕ
  pub table : Table

abbrev pub tableau_walk : Problem → ℕ → Table → TableauWalk
tableau_walk problem improved table = record { problem = problem; improved = improved; table = table }

-- the problem is well formed, and so many steps on it end in the table
pub record IsTableauWalk (walk : TableauWalk) : Type 0 where
  pub well_formed : IsWellFormed walk.problem
  pub steps : IsWalk walk.problem walk.improved walk.table

-- what a tableau keeps: a walk, and what is read off its table
pub record IsTableau (walk : TableauWalk) (values slacks : List ℤ) : Type 0 where
  pub is_walk : IsTableauWalk walk
  pub values_are : values ≡ values_of walk.problem walk.table
  pub slacks_are : slacks ≡ slacks_of walk.problem walk.table
