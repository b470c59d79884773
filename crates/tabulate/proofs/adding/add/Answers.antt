use Rattle.std.proofs.Common.{rules}
use Rattle.std.specs.Int.{w128}
use Rattle.std.specs.Prelude.{FitsSigned}
use Rattle.std.proofs.lemmas.Int.{to_z-of_z}
use Rattle.tabulate.specs.MarkRecords.{units_of}
use Rattle.tabulate.proofs.MarkSteps.{holds-more}
use Rattle.tabulate.proofs.adding.add.Goals as goal

pub returns-clause-given : goal.returns-clause-given
returns-clause-given c = λ rows holds.
    let fits : FitsSigned w128 c.sum_with_row-facts.result = search rules in
    let room : FitsSigned w128 c.args.mark.now.facts.truth = search rules in
    let sum = c.sum_with_row-facts.ensures in
    let sum = simp to_z-of_z at sum in
    holds-more c.args.mark.now _ rows c.args.row.now holds c.requires.from_zero (simp to_z-of_z sum) c.saturating_add-facts.ensures (c.offer.ensures.tells (units_of rows) holds.largest)
