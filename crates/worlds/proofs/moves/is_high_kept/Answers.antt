use Rattle.std.proofs.Common.{◌∙◌, ◌-ℤ◌, ◌≤ℤ◌, FitsSigned, arith, rules}
use Rattle.std.specs.Int.{w128}
use Rattle.std.proofs.lemmas.Int.{ints, to_z-of_z}
use Rattle.worlds.proofs.Bounds.{high_test}
use Rattle.worlds.proofs.moves.is_high_kept.Goals as goal

pub overflow_sub-room : goal.overflow_sub-room
overflow_sub-room c =
    let high : FitsSigned w128 c.in-Some.high = search rules in
    let truth : FitsSigned w128 c.args.cell.now.truth = search rules in
    let beyond : c.args.cell.now.truth ≤ℤ c.in-Some.high = c.args.cell.now.high_beyond c.in-Some.high c.in-Some.is in
    let room : FitsSigned w128 (c.in-Some.high -ℤ c.args.cell.now.truth) = omega (arith, ints, beyond, c.args.cell.now.low_from_zero, c.args.cell.now.low_within) in
    simp to_z-of_z room

pub returns : goal.returns
returns c =
    let den : FitsSigned w128 c.args.den = c.ranges.den in
    let by : FitsSigned w128 c.args.by = c.ranges.by in
    let high : FitsSigned w128 c.in-Some.high = search rules in
    let truth : FitsSigned w128 c.args.cell.now.truth = search rules in
    let beyond : c.args.cell.now.truth ≤ℤ c.in-Some.high = c.args.cell.now.high_beyond c.in-Some.high c.in-Some.is in
    let room : FitsSigned w128 (c.in-Some.high -ℤ c.args.cell.now.truth) = omega (arith, ints, beyond, c.args.cell.now.low_from_zero, c.args.cell.now.low_within) in
    let here = simp to_z-of_z at c.is_at_most.ensures in
    rw c.in-Some.is (here ∙ high_test c.args.den c.args.cell.now.truth c.args.by c.in-Some.high)
