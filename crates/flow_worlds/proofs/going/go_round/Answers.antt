use Rattle.std.proofs.Common.{◌≤ℤ◌, ◌+ℤ◌, ◌-ℤ◌, arith, rules, FitsSigned}
use Rattle.std.specs.Int.{w128}
use Rattle.std.proofs.lemmas.Int.{ints, to_z-of_z}
use Rattle.sdc_base.specs.Systems.{number_at}
use Rattle.flow_worlds.proofs.GoingRound.{goes_round, near_fits}
use Rattle.flow_worlds.proofs.going.go_round.Goals as goal

pub move_cells-requires-clause-fits : goal.move_cells-requires-clause-fits
move_cells-requires-clause-fits c =
    let amount : FitsSigned w128 c.args.amount = c.ranges.amount in
    let target : FitsSigned w128 c.args.target = c.ranges.target in
    let by : FitsSigned w128 c.least_room-by.result = search rules in
    let less : FitsSigned w128 (c.args.target -ℤ c.args.amount) = omega (arith, ints, c.requires.from_zero, c.requires.below, target) in
    let most : c.least_room-by.result ≤ℤ (c.args.target -ℤ c.args.amount) = simp to_z-of_z at c.least_room-by.ensures.at_most in
    simp to_z-of_z (λ k d inside. near_fits c.least_room-by.result (number_at c.args.moves.now _) _ c.args.amount c.args.target (omega (arith, ints, c.least_room-by.ensures.from_one)) most c.requires.from_zero c.requires.to_2_110 (c.requires.flow.low _) (c.requires.flow.high _))

pub returns-clause-flow : goal.returns-clause-flow
returns-clause-flow c =
    let amount : FitsSigned w128 c.args.amount = c.ranges.amount in
    let target : FitsSigned w128 c.args.target = c.ranges.target in
    let by : FitsSigned w128 c.least_room-by.result = search rules in
    let less : FitsSigned w128 (c.args.target -ℤ c.args.amount) = omega (arith, ints, c.requires.from_zero, c.requires.below, target) in
    let most : c.least_room-by.result ≤ℤ (c.args.target -ℤ c.args.amount) = simp to_z-of_z at c.least_room-by.ensures.at_most in
    let sum : FitsSigned w128 (c.args.amount +ℤ c.least_room-by.result) = omega (arith, ints, most, c.least_room-by.ensures.from_one, c.requires.from_zero, target) in
    let gone = simp to_z-of_z at c.move_cells.ensures in
    simp to_z-of_z (goes_round c.args.task.now c.args.amount c.least_room-by.result c.args.moves.now c.move_cells.new.moves c.args.steps.now c.requires.task c.requires.flow c.requires.circuit (omega (arith, ints, c.least_room-by.ensures.from_one)) c.least_room-by.ensures.each (omega (arith, c.move_cells.auto.moves)) gone)
