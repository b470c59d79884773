use Rattle.std.proofs.Common.{◌≡◌, ◌<◌, ◌+ℤ◌, ◌*ℤ◌, All, List, false, Some, pos, get_or, slice_get, length, take, arith, rules, subst, sym, FitsSigned}
use Rattle.std.specs.Int.{w128}
use Rattle.std.proofs.lemmas.Int.{ints, to_z-of_z}
use Rattle.std.proofs.lemmas.List.{take_all}
use Rattle.std.proofs.lemmas.Option.{slice_get-get_or}
use Rattle.sdc_base.specs.declared.cell.Cell.{Cell}
use Rattle.sdc_base.specs.Systems.{number_at}
use Rattle.sdc_base.specs.Worlds.{IsWithinBounds}
use Rattle.flow_worlds.specs.declared.steps.Step.{Step}
use Rattle.flow_worlds.specs.Steps.{turn_of}
use Rattle.flow_worlds.specs.Circuits.{CanGo, step_at}
use Rattle.flow_worlds.proofs.Rooming.{open_room}
use Rattle.flow_worlds.proofs.GoingRound.{least_more, can_go}
use Rattle.flow_worlds.proofs.going.least_room.Goals as goal

pub room_of-least-requires-clause-within : goal.room_of-least-requires-clause-within
room_of-least-requires-clause-within c =
    let step = step_at c.args.steps.now c.steps.step-index in
    let opened = c.requires.steps c.steps.step-index (record { cell = 0; up = false; start = 0; end = 0 }) c.steps-test.true in
    let inside : step.cell < length c.args.task.now.cells.now = omega (arith, opened.known, c.requires.task.are_arcs.each, c.requires.task.ground.each_cell) in
    let moved : FitsSigned w128 (number_at c.args.moves.now step.cell) = search rules in
    let found = slice_get-get_or c.args.task.now.cells.now step.cell c.index-task-cell.result inside in
    simp to_z-of_z (c.requires.flow.bounds_hold step.cell (get_or c.args.task.now.cells.now step.cell c.index-task-cell.result) found)

pub room_of-least-requires-clause-room : goal.room_of-least-requires-clause-room
room_of-least-requires-clause-room c =
    let step = step_at c.args.steps.now c.steps.step-index in
    let opened = c.requires.steps c.steps.step-index (record { cell = 0; up = false; start = 0; end = 0 }) c.steps-test.true in
    let inside : step.cell < length c.args.task.now.cells.now = omega (arith, opened.known, c.requires.task.are_arcs.each, c.requires.task.ground.each_cell) in
    let moved : FitsSigned w128 (number_at c.args.moves.now step.cell) = search rules in
    let found = slice_get-get_or c.args.task.now.cells.now step.cell c.index-task-cell.result inside in
    simp to_z-of_z (open_room c.args.task.now.cells.now c.args.moves.now step (get_or c.args.task.now.cells.now step.cell c.index-task-cell.result) found opened.opened)

pub steps-preserved : goal.steps-preserved
steps-preserved c =
    let step = step_at c.args.steps.now c.steps.step-index in
    let opened = c.requires.steps c.steps.step-index (record { cell = 0; up = false; start = 0; end = 0 }) c.steps-test.true in
    let inside : step.cell < length c.args.task.now.cells.now = omega (arith, opened.known, c.requires.task.are_arcs.each, c.requires.task.ground.each_cell) in
    let moved : FitsSigned w128 (number_at c.args.moves.now step.cell) = search rules in
    let most : FitsSigned w128 c.args.most = c.ranges.most in
    let least : FitsSigned w128 c.room_of-least.result = search rules in
    let cell : Cell = get_or c.args.task.now.cells.now step.cell c.index-task-cell.result in
    let found : slice_get c.args.task.now.cells.now step.cell ≡ Some cell = slice_get-get_or c.args.task.now.cells.now step.cell c.index-task-cell.result inside in
    let within : IsWithinBounds cell (pos 1) (number_at c.args.moves.now step.cell +ℤ c.room_of-least.result *ℤ turn_of step) = simp to_z-of_z at c.room_of-least.ensures.kept in
    let before : All (CanGo c.args.task.now.cells.now c.args.moves.now c.steps.least) (take c.steps.step-index c.args.steps.now) = subst (λ z. All (CanGo c.args.task.now.cells.now c.args.moves.now z) (take c.steps.step-index c.args.steps.now)) c.steps.least-is c.steps.invariant.each in
    simp to_z-of_z (record {
      from_one = c.room_of-least.ensures.from_one;
      at_most = omega (arith, ints, c.room_of-least.ensures.at_most, c.steps.invariant.at_most, c.steps.least-is);
      each = least_more c.args.task.now.cells.now c.args.moves.now c.steps.least c.room_of-least.result c.args.steps.now c.steps.step-index c.steps-test.true c.requires.flow.bounds_hold (omega (arith, ints, c.room_of-least.ensures.from_one)) (omega (arith, ints, c.room_of-least.ensures.at_most, c.steps.least-is)) before
          (can_go c.args.task.now.cells.now c.args.moves.now c.room_of-least.result step cell found within);
    })

pub returns-clause-each : goal.returns-clause-each
returns-clause-each c =
    subst (λ z. All (CanGo c.args.task.now.cells.now c.args.moves.now z) c.args.steps.now) (sym c.steps.least-is)
    (subst (λ (steps : List Step). All (CanGo c.args.task.now.cells.now c.args.moves.now c.steps.least) steps) (take_all c.steps.step-index c.args.steps.now c.steps-test.false)
    (subst (λ z. All (CanGo c.args.task.now.cells.now c.args.moves.now z) (take c.steps.step-index c.args.steps.now)) c.steps.least-is c.steps.invariant.each))
