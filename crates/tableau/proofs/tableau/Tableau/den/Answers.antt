use Rattle.std.proofs.Common.{arith, rules, FitsSigned}
use Rattle.std.specs.Int.{w128}
use Rattle.std.proofs.lemmas.Int.{ints}
use Rattle.tableau.specs.Walks.{IsTableOf}
use Rattle.tableau.specs.SparseTables.{table_of}
use Rattle.tableau.proofs.WellFormedProblems.{well_formed_keeps}
use Rattle.tableau.proofs.tableau.Tableau.den.Goals as goal

pub returns-clause-above : goal.returns-clause-above
returns-clause-above c =
    let i = c.self.inside in
    let is_walk = c.self.invariant.1.is_walk in
    let kept : IsTableOf i.problem (table_of i.table) = well_formed_keeps i.problem i.improved (table_of i.table) is_walk.well_formed is_walk.steps in
    let fits : FitsSigned w128 i.table.den = search rules in
    omega (arith, ints, kept.above_zero)
