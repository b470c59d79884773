use Rattle.tableau.proofs.Solved.{values_are_allowed, target_bounds, some_member_leaves, none_below, value_or_number, target_is_free}
use Rattle.tableau.proofs.DualNumbers.{duals}
use Rattle.tableau.proofs.Exchanges.{blocked}
use Rattle.tableau.proofs.laws.tables_solve.Goals as goal

pub returns-clause-feasible : goal.returns-clause-feasible
returns-clause-feasible c = values_are_allowed

pub returns-clause-bounded : goal.returns-clause-bounded
returns-clause-bounded c = target_bounds

pub returns-clause-leaves : goal.returns-clause-leaves
returns-clause-leaves c = some_member_leaves

pub returns-clause-duals : goal.returns-clause-duals
returns-clause-duals c = duals

pub returns-clause-none_below : goal.returns-clause-none_below
returns-clause-none_below c = none_below

pub returns-clause-blocked : goal.returns-clause-blocked
returns-clause-blocked c = blocked

pub returns-clause-value_or_number : goal.returns-clause-value_or_number
returns-clause-value_or_number c = value_or_number

pub returns-clause-target_free : goal.returns-clause-target_free
returns-clause-target_free c = target_is_free
