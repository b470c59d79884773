use Rattle.std.proofs.Common.{◌<◌, ◌^◌, subst}
use Rattle.tableau.specs.Tableaus.{TableauWalk}
use Rattle.tableau.specs.Problems.{variable_count}
use Rattle.tableau.specs.SparseTables.{table_of}
use Rattle.tableau.proofs.WellFormedProblems.{well_formed_short}
use Rattle.tableau.proofs.tableau.Tableau.improved.Goals as goal

pub returns-clause-short : goal.returns-clause-short
returns-clause-short c =
    let i = c.self.inside in
    let is_walk = c.self.invariant.1.is_walk in
    subst (λ (w : TableauWalk). i.improved < 2 ^ variable_count w.problem) c.self.view_is (well_formed_short i.problem i.improved (table_of i.table) is_walk.well_formed is_walk.steps)
