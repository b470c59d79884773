-- Where a walk on a problem stands, by what is read of it (own).
use Rattle.std.specs.Prelude.{◌≡◌, ℕ, List, [], ◌∷◌, ◌++◌, length, ℤ, pos, ◌*ℤ◌, ◌<ℤ◌}
use Rattle.std.specs.List.{zip}
use Rattle.tableau.specs.declared.problem.Problem.{Problem}
use Rattle.tableau.specs.Readings.{values_of, slacks_of}
use Rattle.tableau.specs.Tableaus.{TableauWalk}
use Rattle.interval_audit.specs.Points.{IsPoint, AreDualWeights, comes_to, weighed_bounds}
use Rattle.sdc_base.specs.Systems.{number_at}

-- what is read where a walk on a problem stands: the denominator, the columns' values and the objective's numbers at
-- the slacks
pub record WalkState : Type 0 where
  pub problem : Problem
  pub improved : ℕ
  pub den : ℤ
  pub values : List ℤ
  pub slacks : List ℤ

-- what is read of a walk
abbrev pub state_of : TableauWalk → WalkState
state_of walk = record {
  problem = walk.problem;
  improved = walk.improved;
  den = walk.table.den;
  values = values_of walk.problem walk.table;
  slacks = slacks_of walk.problem walk.table;
}

-- the objective's value, over the denominator
abbrev pub objective_of : WalkState → ℤ
objective_of walk = comes_to (number_at walk.values) walk.problem.objective

-- the walk stands at a point of its problem, one value for each column
pub record IsAtPoint (walk : WalkState) : Type 0 where
  pub each : length walk.values ≡ walk.problem.columns
  pub point : IsPoint walk.problem walk.den (number_at walk.values)

-- it stands at the target: the objective equals it
pub record IsAtTarget (walk : WalkState) : Type 0 where
  pub stands : IsAtPoint walk
  pub reached : objective_of walk ≡ walk.den *ℤ walk.problem.target

-- It is stuck: the objective is below the target, and the numbers at the slacks, that of the target left off, are dual
-- multipliers with the objective's value.
pub record IsAtOptimum (walk : WalkState) : Type 0 where
  pub stands : IsAtPoint walk
  pub short : objective_of walk <ℤ (walk.den *ℤ walk.problem.target)
  pub weights : List ℤ
  pub slacks : walk.slacks ≡ weights ++ pos 0 ∷ []
  pub duals : AreDualWeights walk.problem walk.den weights
  pub value : weighed_bounds (zip weights walk.problem.rows) ≡ objective_of walk
