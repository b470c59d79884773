use Rattle.std.proofs.Common.{◌≡◌, ◌<◌, ◌*ℤ◌, ◌+ℤ◌, false, length, arith, rules, subst, sym, FitsSigned}
use Rattle.std.specs.Int.{w128}
use Rattle.std.proofs.lemmas.Int.{to_z-of_z}
use Rattle.sdc_base.specs.Systems.{number_at}
use Rattle.flow_worlds.specs.Steps.{turn_of}
use Rattle.flow_worlds.specs.Circuits.{step_at}
use Rattle.flow_worlds.proofs.GoingRound.{none_gone, gone_more, gone_whole, still_there}
use Rattle.flow_worlds.proofs.going.move_cells.Goals as goal

pub steps-init : goal.steps-init
steps-init c =
    let by : FitsSigned w128 c.args.by = c.ranges.by in
    simp to_z-of_z (λ cell. none_gone c.args.by c.args.moves.now cell)

pub moved_by-moved-requires : goal.moved_by-moved-requires
moved_by-moved-requires c =
    let k = c.steps.step-index in
    let step = step_at c.args.steps.now k in
    let by : FitsSigned w128 c.args.by = c.ranges.by in
    let before = simp to_z-of_z at c.steps.invariant in
    let here : number_at c.steps.moves step.cell ≡ number_at c.args.moves.now step.cell = still_there c.args.by c.args.moves.now c.steps.moves c.args.steps.now k c.steps-test.true c.requires.apart before in
    let fits : FitsSigned w128 (number_at c.args.moves.now step.cell +ℤ c.args.by *ℤ turn_of step) = c.requires.fits k (record { cell = 0; up = false; start = 0; end = 0 }) c.steps-test.true in
    let moved : FitsSigned w128 (number_at c.steps.moves step.cell) = search rules in
    simp to_z-of_z (subst (λ z. FitsSigned w128 (z +ℤ c.args.by *ℤ turn_of step)) (sym here) fits)

pub steps-preserved : goal.steps-preserved
steps-preserved c =
    let k = c.steps.step-index in
    let step = step_at c.args.steps.now k in
    let by : FitsSigned w128 c.args.by = c.ranges.by in
    let before = simp to_z-of_z at c.steps.invariant in
    let moved : FitsSigned w128 (number_at c.steps.moves step.cell) = search rules in
    let fits : FitsSigned w128 c.moved_by-moved.result = search rules in
    let is : c.moved_by-moved.result ≡ number_at c.steps.moves step.cell +ℤ c.args.by *ℤ turn_of step = simp to_z-of_z at c.moved_by-moved.ensures in
    let known : step.cell < length c.args.moves.now = c.requires.known k (record { cell = 0; up = false; start = 0; end = 0 }) c.steps-test.true in
    let inside : step.cell < length c.steps.moves = omega (arith, known, c.steps.auto.moves) in
    simp to_z-of_z (λ cell. gone_more c.args.by c.args.moves.now c.steps.moves c.args.steps.now k c.moved_by-moved.result c.steps-test.true inside is before cell)

pub returns : goal.returns
returns c =
    let by : FitsSigned w128 c.args.by = c.ranges.by in
    let before = simp to_z-of_z at c.steps.invariant in
    gone_whole c.args.by c.args.moves.now c.steps.moves c.args.steps.now c.steps.step-index c.steps-test.false before
