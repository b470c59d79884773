use Rattle.std.proofs.Common.{pos, ◌+ℤ◌, ◌-ℤ◌, ◌≤ℤ◌, ◌<ℤ◌, FitsSigned, arith, rules}
use Rattle.std.specs.Int.{w128}
use Rattle.std.proofs.lemmas.Int.{ints, to_z-of_z}
use Rattle.sdc_base.specs.Worlds.{IsWithinBounds}
use Rattle.flow_worlds.proofs.Rooming.{le_yes, le_no, up_kept, room_up, from_low, to_high}
use Rattle.flow_worlds.proofs.rooms.rise_of.Goals as goal

pub overflow_sub-rise-2 : goal.overflow_sub-rise-2
overflow_sub-rise-2 c =
    let most : FitsSigned w128 c.args.most = c.ranges.most in
    let high : FitsSigned w128 c.in-Some.high = search rules in
    let truth : FitsSigned w128 c.args.cell.now.truth = search rules in
    let beyond : c.args.cell.now.truth ≤ℤ c.in-Some.high = c.args.cell.now.high_beyond c.in-Some.high c.in-Some.is in
    let room : FitsSigned w128 (c.in-Some.high -ℤ c.args.cell.now.truth) = omega (arith, ints, beyond, c.args.cell.now.low_from_zero, c.args.cell.now.low_within) in
    let less : FitsSigned w128 ((c.in-Some.high -ℤ c.args.cell.now.truth) -ℤ c.args.most) = omega (arith, ints, beyond, room, c.requires.from_one, c.requires.to_2_110) in
    simp to_z-of_z less

pub overflow_sub-result : goal.overflow_sub-result
overflow_sub-result c =
    let by : FitsSigned w128 c.args.by = c.ranges.by in
    let high : FitsSigned w128 c.in-Some.high = search rules in
    let truth : FitsSigned w128 c.args.cell.now.truth = search rules in
    let beyond : c.args.cell.now.truth ≤ℤ c.in-Some.high = c.args.cell.now.high_beyond c.in-Some.high c.in-Some.is in
    let room : FitsSigned w128 (c.in-Some.high -ℤ c.args.cell.now.truth) = omega (arith, ints, beyond, c.args.cell.now.low_from_zero, c.args.cell.now.low_within) in
    let low = from_low c.args.cell.now c.args.by c.requires.within in
    let at_most = to_high c.args.cell.now c.args.by c.in-Some.high c.requires.within c.in-Some.is in
    let less : FitsSigned w128 ((c.in-Some.high -ℤ c.args.cell.now.truth) -ℤ c.args.by) = omega (arith, ints, low, at_most, high, c.args.cell.now.low_from_zero) in
    simp to_z-of_z less

pub returns-then-by-rise-clause-kept : goal.returns-then-by-rise-clause-kept
returns-then-by-rise-clause-kept c =
    let by : FitsSigned w128 c.args.by = c.ranges.by in
    let most : FitsSigned w128 c.args.most = c.ranges.most in
    let high : FitsSigned w128 c.in-Some.high = search rules in
    let truth : FitsSigned w128 c.args.cell.now.truth = search rules in
    let beyond : c.args.cell.now.truth ≤ℤ c.in-Some.high = c.args.cell.now.high_beyond c.in-Some.high c.in-Some.is in
    let room : FitsSigned w128 (c.in-Some.high -ℤ c.args.cell.now.truth) = omega (arith, ints, beyond, c.args.cell.now.low_from_zero, c.args.cell.now.low_within) in
    let less : FitsSigned w128 ((c.in-Some.high -ℤ c.args.cell.now.truth) -ℤ c.args.most) = omega (arith, ints, beyond, room, c.requires.from_one, c.requires.to_2_110) in
    let test : c.args.by ≤ℤ ((c.in-Some.high -ℤ c.args.cell.now.truth) -ℤ c.args.most) = le_yes _ _ (simp to_z-of_z at c.if-by-rise.true) in
    simp to_z-of_z (up_kept c.args.cell.now c.args.by c.in-Some.high c.args.most c.requires.within (omega (arith, ints, c.requires.from_one)) c.in-Some.is (omega (arith, ints, test)))

pub returns-else-by-rise-clause-from_one : goal.returns-else-by-rise-clause-from_one
returns-else-by-rise-clause-from_one c =
    let by : FitsSigned w128 c.args.by = c.ranges.by in
    let high : FitsSigned w128 c.in-Some.high = search rules in
    let truth : FitsSigned w128 c.args.cell.now.truth = search rules in
    let beyond : c.args.cell.now.truth ≤ℤ c.in-Some.high = c.args.cell.now.high_beyond c.in-Some.high c.in-Some.is in
    let room : FitsSigned w128 (c.in-Some.high -ℤ c.args.cell.now.truth) = omega (arith, ints, beyond, c.args.cell.now.low_from_zero, c.args.cell.now.low_within) in
    let low = from_low c.args.cell.now c.args.by c.requires.within in
    let at_most = to_high c.args.cell.now c.args.by c.in-Some.high c.requires.within c.in-Some.is in
    let less : FitsSigned w128 ((c.in-Some.high -ℤ c.args.cell.now.truth) -ℤ c.args.by) = omega (arith, ints, low, at_most, high, c.args.cell.now.low_from_zero) in
    let some = room_up c.args.cell.now c.args.by c.in-Some.high c.in-Some.is c.requires.room in
    let is : pos 1 ≤ℤ ((c.in-Some.high -ℤ c.args.cell.now.truth) -ℤ c.args.by) = omega (arith, ints, some) in
    simp to_z-of_z is

pub returns-else-by-rise-clause-at_most : goal.returns-else-by-rise-clause-at_most
returns-else-by-rise-clause-at_most c =
    let by : FitsSigned w128 c.args.by = c.ranges.by in
    let most : FitsSigned w128 c.args.most = c.ranges.most in
    let high : FitsSigned w128 c.in-Some.high = search rules in
    let truth : FitsSigned w128 c.args.cell.now.truth = search rules in
    let beyond : c.args.cell.now.truth ≤ℤ c.in-Some.high = c.args.cell.now.high_beyond c.in-Some.high c.in-Some.is in
    let room : FitsSigned w128 (c.in-Some.high -ℤ c.args.cell.now.truth) = omega (arith, ints, beyond, c.args.cell.now.low_from_zero, c.args.cell.now.low_within) in
    let low = from_low c.args.cell.now c.args.by c.requires.within in
    let at_most = to_high c.args.cell.now c.args.by c.in-Some.high c.requires.within c.in-Some.is in
    let less : FitsSigned w128 ((c.in-Some.high -ℤ c.args.cell.now.truth) -ℤ c.args.by) = omega (arith, ints, low, at_most, high, c.args.cell.now.low_from_zero) in
    let fewer : FitsSigned w128 ((c.in-Some.high -ℤ c.args.cell.now.truth) -ℤ c.args.most) = omega (arith, ints, beyond, room, c.requires.from_one, c.requires.to_2_110) in
    let test : ((c.in-Some.high -ℤ c.args.cell.now.truth) -ℤ c.args.most) <ℤ c.args.by = le_no _ _ (simp to_z-of_z at c.if-by-rise.false) in
    let is : ((c.in-Some.high -ℤ c.args.cell.now.truth) -ℤ c.args.by) ≤ℤ c.args.most = omega (arith, ints, test) in
    simp to_z-of_z is

pub returns-else-by-rise-clause-kept : goal.returns-else-by-rise-clause-kept
returns-else-by-rise-clause-kept c =
    let by : FitsSigned w128 c.args.by = c.ranges.by in
    let high : FitsSigned w128 c.in-Some.high = search rules in
    let truth : FitsSigned w128 c.args.cell.now.truth = search rules in
    let beyond : c.args.cell.now.truth ≤ℤ c.in-Some.high = c.args.cell.now.high_beyond c.in-Some.high c.in-Some.is in
    let room : FitsSigned w128 (c.in-Some.high -ℤ c.args.cell.now.truth) = omega (arith, ints, beyond, c.args.cell.now.low_from_zero, c.args.cell.now.low_within) in
    let low = from_low c.args.cell.now c.args.by c.requires.within in
    let at_most = to_high c.args.cell.now c.args.by c.in-Some.high c.requires.within c.in-Some.is in
    let less : FitsSigned w128 ((c.in-Some.high -ℤ c.args.cell.now.truth) -ℤ c.args.by) = omega (arith, ints, low, at_most, high, c.args.cell.now.low_from_zero) in
    let is : IsWithinBounds c.args.cell.now (pos 1) (c.args.by +ℤ ((c.in-Some.high -ℤ c.args.cell.now.truth) -ℤ c.args.by)) =
    up_kept c.args.cell.now c.args.by c.in-Some.high ((c.in-Some.high -ℤ c.args.cell.now.truth) -ℤ c.args.by) c.requires.within (omega (arith, ints, at_most)) c.in-Some.is (omega (arith, ints)) in
    simp to_z-of_z is
