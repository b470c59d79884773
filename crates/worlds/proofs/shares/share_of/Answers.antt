use Rattle.std.proofs.Common.{◌∙◌, sym, ◌-ℤ◌, ◌≤ℤ◌, FitsSigned, arith, rules}
use Rattle.std.specs.Int.{w128}
use Rattle.std.proofs.lemmas.Int.{ints, to_z-of_z}
use Rattle.sdc_base.specs.HiddenSets.{is_hidden}
use Rattle.sdc_base.specs.Systems.{number_at}
use Rattle.worlds.proofs.ShareSteps.{high_share, low_share}
use Rattle.worlds.proofs.shares.share_of.Goals as goal

pub overflow_sub-room-2 : goal.overflow_sub-room-2
overflow_sub-room-2 c =
    let high : FitsSigned w128 c.in-Some.high = search rules in
    let truth : FitsSigned w128 c.args.cell.now.truth = search rules in
    let beyond : c.args.cell.now.truth ≤ℤ c.in-Some.high = c.args.cell.now.high_beyond c.in-Some.high c.in-Some.is in
    let room : FitsSigned w128 (c.in-Some.high -ℤ c.args.cell.now.truth) = omega (arith, ints, beyond, c.args.cell.now.low_from_zero, c.args.cell.now.low_within) in
    simp to_z-of_z room

pub returns : goal.returns
returns c =
    let coefficient : FitsSigned w128 (number_at c.args.coefficients.now c.args.number) = search rules in
    let high : FitsSigned w128 c.in-Some.high = search rules in
    let truth : FitsSigned w128 c.args.cell.now.truth = search rules in
    let beyond : c.args.cell.now.truth ≤ℤ c.in-Some.high = c.args.cell.now.high_beyond c.in-Some.high c.in-Some.is in
    let room : FitsSigned w128 (c.in-Some.high -ℤ c.args.cell.now.truth) = omega (arith, ints, beyond, c.args.cell.now.low_from_zero, c.args.cell.now.low_within) in
    let here = simp to_z-of_z at c.held_product-2.ensures in
    let up = simp to_z-of_z at c.if-coefficient-le0.false in
    here ∙ sym (high_share (is_hidden c.args.flags.now c.args.number) c.args.number (number_at c.args.coefficients.now c.args.number) c.args.cell.now c.in-Some.high c.if-not-flags-place.false up c.in-Some.is)

pub returns-then-coefficient-le0 : goal.returns-then-coefficient-le0
returns-then-coefficient-le0 c =
    let coefficient : FitsSigned w128 (number_at c.args.coefficients.now c.args.number) = search rules in
    let low : FitsSigned w128 c.args.cell.now.low = search rules in
    let truth : FitsSigned w128 c.args.cell.now.truth = search rules in
    let room : FitsSigned w128 (c.args.cell.now.low -ℤ c.args.cell.now.truth) = omega (arith, ints, c.args.cell.now.low_from_zero, c.args.cell.now.low_within) in
    let here = simp to_z-of_z at c.held_product.ensures in
    let down = simp to_z-of_z at c.if-coefficient-le0.true in
    here ∙ sym (low_share (is_hidden c.args.flags.now c.args.number) c.args.number (number_at c.args.coefficients.now c.args.number) c.args.cell.now c.if-not-flags-place.false down)
