use Rattle.std.proofs.Common.{rules, FitsSigned}
use Rattle.std.specs.Int.{w128}
use Rattle.std.proofs.lemmas.Int.{to_z-of_z}
use Rattle.apriori.proofs.Open.{levels_in_range}
use Rattle.apriori.proofs.settled.settled_cell.Goals as goal

pub returns-clause-levels : goal.returns-clause-levels
returns-clause-levels c =
    let up_fits : FitsSigned w128 c.in-Some.levels.up = search rules in
    let down_fits : FitsSigned w128 c.in-Some.levels.down = search rules in
    let within = levels_in_range c.args.facts.now.truth c.in-Some.levels c.requires.truth (c.primary_levels.ensures.open c.in-Some.levels c.in-Some.is) in
    record { up = simp to_z-of_z (within.0); down = simp to_z-of_z (within.1) }
