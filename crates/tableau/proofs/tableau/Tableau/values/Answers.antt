use Rattle.std.proofs.Common.{subst}
use Rattle.tableau.specs.Tableaus.{TableauWalk}
use Rattle.tableau.specs.Solutions.{AreFeasible}
use Rattle.tableau.specs.SparseTables.{table_of}
use Rattle.tableau.proofs.Solved.{values_are_allowed}
use Rattle.tableau.proofs.WellFormedProblems.{well_formed_problem, well_formed_keeps}
use Rattle.tableau.proofs.tableau.Tableau.values.Goals as goal

pub returns-clause-feasible : goal.returns-clause-feasible
returns-clause-feasible c =
    let i = c.self.inside in
    let is_walk = c.self.invariant.1.is_walk in
    subst (λ (w : TableauWalk). AreFeasible w.problem w.table) c.self.view_is
    (values_are_allowed i.problem (table_of i.table) (well_formed_problem i.problem is_walk.well_formed) (well_formed_keeps i.problem i.improved (table_of i.table) is_walk.well_formed is_walk.steps))
