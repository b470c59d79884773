use Rattle.std.proofs.Common.{rules}
use Rattle.std.specs.Int.{w128}
use Rattle.std.specs.Prelude.{FitsSigned}
use Rattle.std.proofs.lemmas.Int.{to_z-of_z}
use Rattle.tabulate.specs.MarkRecords.{units_of}
use Rattle.tabulate.proofs.MarkSteps.{holds-joined}
use Rattle.tabulate.proofs.adding.join.Goals as goal

pub returns-clause-given : goal.returns-clause-given
returns-clause-given c = λ rows more holds held.
    let fits : FitsSigned w128 c.sum_of_both-facts.result = search rules in
    let room : FitsSigned w128 c.args.mark.now.facts.truth = search rules in
    let other : FitsSigned w128 c.args.other.now.facts.truth = search rules in
    let sum = simp to_z-of_z at c.sum_of_both-facts.ensures in
    holds-joined c.args.mark.now c.args.other.now _ rows more holds held (simp to_z-of_z sum) c.saturating_add-facts.ensures (c.join.ensures.tells (units_of rows) (units_of more) holds.largest held.largest)
