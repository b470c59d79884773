use Rattle.std.proofs.Common.{ℕ, pos, ◌<◌, ◌^◌, ◌≤ℤ◌, subst}
use Rattle.tableau.specs.Problems.{variable_count}
use Rattle.interval_audit.proofs.ReadStates.{stands_is, objective_is, reached_is, blocked_is, value_bounded}
use Rattle.interval_audit.proofs.finish.read_state.Goals as goal

pub returns-clause-short : goal.returns-clause-short
returns-clause-short c = subst (λ (n : ℕ). n < 2 ^ variable_count c.args.tableau.now.problem) c.improved-improved.ensures.improved c.improved-improved.ensures.short

pub returns-clause-stands : goal.returns-clause-stands
returns-clause-stands c = stands_is c.args.tableau.now c.improved-improved.ensures.walk.well_formed (subst (λ z. pos 1 ≤ℤ z) c.den-den.ensures.den c.den-den.ensures.above) c.values-values.ensures.feasible

pub returns-clause-objective : goal.returns-clause-objective
returns-clause-objective c = objective_is c.args.tableau.now c.improved-improved.ensures.walk.well_formed c.values-values.ensures.feasible

pub returns-clause-bounded : goal.returns-clause-bounded
returns-clause-bounded c = value_bounded c.args.tableau.now c.values-values.ensures.feasible

pub returns-clause-reached : goal.returns-clause-reached
returns-clause-reached c = λ reached. reached_is c.args.tableau.now c.improved-improved.ensures.walk.well_formed (subst (λ z. pos 1 ≤ℤ z) c.den-den.ensures.den c.den-den.ensures.above) c.values-values.ensures.feasible reached

pub returns-clause-blocked : goal.returns-clause-blocked
returns-clause-blocked c = λ blocked.
    blocked_is c.args.tableau.now c.improved-improved.ensures.walk.well_formed (subst (λ z. pos 1 ≤ℤ z) c.den-den.ensures.den c.den-den.ensures.above) c.values-values.ensures.feasible c.slacks-slacks.ensures.duals (c.slacks-slacks.ensures.above blocked) (c.slacks-slacks.ensures.free blocked) blocked
