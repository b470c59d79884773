use Rattle.std.proofs.Common.{◌≡◌, ◌⊎◌, ◌<◌, ◌*ℤ◌, ◌+ℤ◌, ℤ, pos, negsuc, length, arith, refl, ap, FitsSigned}
use Rattle.std.specs.Int.{w128}
use Rattle.std.proofs.lemmas.Int.{ints, to_z-of_z}
use Rattle.std.proofs.lemmas.List.Elements.{All-get_or}
use Rattle.sdc_base.specs.Systems.{number_at}
use Rattle.rounding.specs.declared.steps.Step.{Step}
use Rattle.rounding.specs.Circuits.{step_at}
use Rattle.rounding.proofs.Moving.{none_gone, gone_more, gone_whole, moved_within, near_start, near_more, turn_fits}
use Rattle.rounding.proofs.underway.move_cells.Goals as goal

pub steps-init : goal.steps-init
steps-init c =
    let by : FitsSigned w128 c.args.by = c.ranges.by in
    simp to_z-of_z (record { is = λ cell. none_gone c.args.by c.args.numbers.now cell; near = near_start c.args.numbers.now c.requires.numbers })

pub overflow_add-numbers : goal.overflow_add-numbers
overflow_add-numbers c =
    let k = c.steps.step-index in
    let step = step_at c.args.steps.now k in
    let own = All-get_or (λ (s : Step). (s.cell < length c.args.numbers.now) × ((s.turn ≡ pos 1) ⊎ (s.turn ≡ negsuc 0))) c.args.steps.now k (record { cell = 0; turn = pos 0; start = 0; end = 0 }) c.steps-test.true c.requires.each in
    let by : FitsSigned w128 c.args.by = c.ranges.by in
    let turn : FitsSigned w128 step.turn = turn_fits step.turn own.1 in
    let is : c.turn_after.result ≡ c.args.by *ℤ step.turn = simp to_z-of_z at c.turn_after.ensures in
    let within = moved_within c.args.by step.turn own.1 c.requires.by.0 c.requires.by.1 in
    let low = c.steps.invariant.near.low step.cell in
    let high = c.steps.invariant.near.high step.cell in
    let number : FitsSigned w128 (number_at c.steps.numbers step.cell) = omega (arith, ints, low, high, c.steps-test.true, c.requires.at_most_2_32) in
    let by_moved : FitsSigned w128 c.turn_after.result = omega (arith, ints, is, within.0, within.1) in
    let sum : FitsSigned w128 (number_at c.steps.numbers step.cell +ℤ c.turn_after.result) = omega (arith, ints, low, high, is, within.0, within.1, c.steps-test.true, c.requires.at_most_2_32) in
    simp to_z-of_z sum

pub steps-preserved : goal.steps-preserved
steps-preserved c =
    let k = c.steps.step-index in
    let step = step_at c.args.steps.now k in
    let own = All-get_or (λ (s : Step). (s.cell < length c.args.numbers.now) × ((s.turn ≡ pos 1) ⊎ (s.turn ≡ negsuc 0))) c.args.steps.now k (record { cell = 0; turn = pos 0; start = 0; end = 0 }) c.steps-test.true c.requires.each in
    let by : FitsSigned w128 c.args.by = c.ranges.by in
    let turn : FitsSigned w128 step.turn = turn_fits step.turn own.1 in
    let is : c.turn_after.result ≡ c.args.by *ℤ step.turn = simp to_z-of_z at c.turn_after.ensures in
    let within = moved_within c.args.by step.turn own.1 c.requires.by.0 c.requires.by.1 in
    let low = c.steps.invariant.near.low step.cell in
    let high = c.steps.invariant.near.high step.cell in
    let number : FitsSigned w128 (number_at c.steps.numbers step.cell) = omega (arith, ints, low, high, c.steps-test.true, c.requires.at_most_2_32) in
    let by_moved : FitsSigned w128 c.turn_after.result = omega (arith, ints, is, within.0, within.1) in
    let sum : FitsSigned w128 (number_at c.steps.numbers step.cell +ℤ c.turn_after.result) = omega (arith, ints, low, high, is, within.0, within.1, c.steps-test.true, c.requires.at_most_2_32) in
    let inside : step.cell < length c.steps.numbers = omega (arith, own.0, c.steps.auto.numbers) in
    let before = simp to_z-of_z at c.steps.invariant.is in
    simp to_z-of_z (record {
      is = gone_more c.args.by c.args.numbers.now c.steps.numbers c.args.steps.now k (number_at c.steps.numbers step.cell +ℤ c.turn_after.result) c.steps-test.true inside (ap (λ (z : ℤ). number_at c.steps.numbers step.cell +ℤ z) is) before;
      near = near_more c.steps.numbers step.cell (number_at c.steps.numbers step.cell +ℤ c.turn_after.result) c.turn_after.result k inside refl (omega (arith, ints, is, within.0)) (omega (arith, ints, is, within.1)) c.steps.invariant.near;
    })

pub returns : goal.returns
returns c =
    let by : FitsSigned w128 c.args.by = c.ranges.by in
    let before = simp to_z-of_z at c.steps.invariant.is in
    gone_whole c.args.by c.args.numbers.now c.steps.numbers c.args.steps.now c.steps.step-index c.steps-test.false before
