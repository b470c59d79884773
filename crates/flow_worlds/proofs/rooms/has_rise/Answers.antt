use Rattle.std.proofs.Common.{◌-ℤ◌, ◌≤ℤ◌, FitsSigned, arith, rules}
use Rattle.std.specs.Int.{w128}
use Rattle.std.proofs.lemmas.Int.{ints, to_z-of_z}
use Rattle.flow_worlds.proofs.rooms.has_rise.Goals as goal

pub overflow_sub-result : goal.overflow_sub-result
overflow_sub-result c =
    let high : FitsSigned w128 c.in-Some.high = search rules in
    let truth : FitsSigned w128 c.args.cell.now.truth = search rules in
    let beyond : c.args.cell.now.truth ≤ℤ c.in-Some.high = c.args.cell.now.high_beyond c.in-Some.high c.in-Some.is in
    let room : FitsSigned w128 (c.in-Some.high -ℤ c.args.cell.now.truth) = omega (arith, ints, beyond, c.args.cell.now.low_from_zero, c.args.cell.now.low_within) in
    simp to_z-of_z room

pub returns : goal.returns
returns c =
    let by : FitsSigned w128 c.args.by = c.ranges.by in
    let high : FitsSigned w128 c.in-Some.high = search rules in
    let truth : FitsSigned w128 c.args.cell.now.truth = search rules in
    let beyond : c.args.cell.now.truth ≤ℤ c.in-Some.high = c.args.cell.now.high_beyond c.in-Some.high c.in-Some.is in
    let room : FitsSigned w128 (c.in-Some.high -ℤ c.args.cell.now.truth) = omega (arith, ints, beyond, c.args.cell.now.low_from_zero, c.args.cell.now.low_within) in
    rw c.in-Some.is (simp to_z-of_z)
