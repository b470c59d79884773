use Rattle.std.proofs.Common.{◌≡◌, ◌<◌, ◌≤ℤ◌, pos, sym, subst, length, ◌+◌}
use Rattle.std.proofs.lemmas.List.Elements.{All-from_get_or}
use Rattle.tableau.specs.Tableaus.{TableauWalk}
use Rattle.tableau.specs.Tables.{Table}
use Rattle.tableau.specs.Problems.{AreDuals, variable_count, number_for}
use Rattle.tableau.specs.Steps.{IsBlocked}
use Rattle.tableau.proofs.Solved.{none_below, target_is_free}
use Rattle.tableau.specs.Walks.{IsTableOf}
use Rattle.tableau.specs.SparseTables.{table_of}
use Rattle.tableau.proofs.DualNumbers.{duals}
use Rattle.tableau.proofs.WellFormedProblems.{well_formed_problem, well_formed_keeps}
use Rattle.tableau.proofs.tableau.Tableau.slacks.Goals as goal

pub returns-clause-duals : goal.returns-clause-duals
returns-clause-duals c =
    let i = c.self.inside in
    let t : Table = table_of i.table in
    let is_walk = c.self.invariant.1.is_walk in
    let kept : IsTableOf i.problem t = well_formed_keeps i.problem i.improved t is_walk.well_formed is_walk.steps in
    subst (λ (w : TableauWalk). AreDuals w.problem w.table) c.self.view_is
    (duals i.problem t (well_formed_problem i.problem is_walk.well_formed) kept.shaped (All-from_get_or (λ v. v < variable_count i.problem) t.others 0 kept.basis.others_below) kept.true_of)

pub returns-clause-above : goal.returns-clause-above
returns-clause-above c blocked v =
    let i = c.self.inside in
    let t : Table = table_of i.table in
    let is_walk = c.self.invariant.1.is_walk in
    let kept : IsTableOf i.problem t = well_formed_keeps i.problem i.improved t is_walk.well_formed is_walk.steps in
    let here : IsBlocked i.problem t = subst (λ (w : TableauWalk). IsBlocked w.problem w.table) (sym c.self.view_is) blocked in
    subst (λ (w : TableauWalk). pos 0 ≤ℤ number_for w.table v) c.self.view_is (none_below t kept.shaped here.none_below v)

pub returns-clause-free : goal.returns-clause-free
returns-clause-free c blocked =
    let i = c.self.inside in
    let t : Table = table_of i.table in
    let is_walk = c.self.invariant.1.is_walk in
    let kept : IsTableOf i.problem t = well_formed_keeps i.problem i.improved t is_walk.well_formed is_walk.steps in
    let here : IsBlocked i.problem t = subst (λ (w : TableauWalk). IsBlocked w.problem w.table) (sym c.self.view_is) blocked in
    subst (λ (w : TableauWalk). number_for w.table (w.problem.columns + length w.problem.rows) ≡ pos 0) c.self.view_is (target_is_free i.problem t (well_formed_problem i.problem is_walk.well_formed) kept here.below)
