use Rattle.std.proofs.Common.{◌≡◌, ℤ, ◌<ℤ◌, ◌≤ℤ◌, to_z, arith, subst, FitsSigned}
use Rattle.std.specs.Int.{w128}
use Rattle.std.proofs.lemmas.Int.{ints, to_z-of_z}
use Rattle.flow_worlds.specs.FlowAnswers.{IsWholeWorldAt}
use Rattle.flow_worlds.proofs.Answering.{world_is, multipliers_are}
use Rattle.flow_worlds.proofs.Rooming.{lt_from, not_lt}
use Rattle.flow_worlds.proofs.flows.raise_moves.Goals as goal

pub returns-in-Cut : goal.returns-in-Cut
returns-in-Cut c =
    let task = c.args.task.now in
    let amount : ℤ = to_z w128 c.rounds.amount-bits in
    let target : FitsSigned w128 c.args.target = c.ranges.target in
    let test : amount <ℤ c.args.target = lt_from amount c.args.target (simp to_z-of_z at c.rounds-test.true) in
    let cut = rw c.in-Cut.is at c.in_ok-found.ensures in
    λ side way. (
      test,
      world_is task amount c.rounds.moves c.in_ok-world-in-Cut.world side c.requires.task c.rounds.invariant.flow c.in_ok-world-in-Cut.ensures.whole c.in_ok-world-in-Cut.ensures.listed c.in_ok-world-in-Cut.ensures.given way,
      multipliers_are task amount c.rounds.moves c.in-Cut.multipliers side c.requires.task c.rounds.invariant.flow c.rounds.invariant.from_zero (omega (arith, ints, test, c.requires.to_2_110)) cut way,
    )

pub returns : goal.returns
returns c =
    let task = c.args.task.now in
    let amount : ℤ = to_z w128 c.rounds.amount-bits in
    let target : FitsSigned w128 c.args.target = c.ranges.target in
    let test : c.args.target ≤ℤ amount = not_lt amount c.args.target (simp to_z-of_z at c.rounds-test.false) in
    let most : amount ≤ℤ c.args.target = simp to_z-of_z at c.rounds.invariant.at_most in
    let same : amount ≡ c.args.target = omega (arith, ints, test, most) in
    λ side way. subst (λ (z : ℤ). IsWholeWorldAt task.system.now task.cells.now task.flags.now task.asked.cell side z c.in_ok-world.world) same
    (world_is task amount c.rounds.moves c.in_ok-world.world side c.requires.task c.rounds.invariant.flow c.in_ok-world.ensures.whole c.in_ok-world.ensures.listed c.in_ok-world.ensures.given way)
