use Rattle.std.proofs.Common.{pos, ◌+ℤ◌, ◌-ℤ◌, ◌*ℤ◌, ◌≤ℤ◌, ◌<ℤ◌, FitsSigned, arith, rules}
use Rattle.std.specs.Int.{w128}
use Rattle.std.proofs.lemmas.Int.{ints, to_z-of_z}
use Rattle.sdc_base.specs.Signs.{number_with_sign}
use Rattle.sdc_base.specs.Worlds.{IsWithinBounds}
use Rattle.flow_worlds.proofs.Rooming.{le_yes, le_no, turned_up, turned_down, down_kept, room_down}
use Rattle.flow_worlds.proofs.rooms.room_of.Goals as goal

pub returns-then-up-clause-kept : goal.returns-then-up-clause-kept
returns-then-up-clause-kept c =
    let by : FitsSigned w128 c.args.by = c.ranges.by in
    let fits : FitsSigned w128 c.rise_of.result = search rules in
    let here : IsWithinBounds c.args.cell.now (pos 1) (c.args.by +ℤ c.rise_of.result) = simp to_z-of_z at c.rise_of.ensures.kept in
    simp to_z-of_z (turned_up c.args.cell.now c.args.by c.rise_of.result c.args.up c.if-up.true here)

pub returns-then-by-most-clause-kept : goal.returns-then-by-most-clause-kept
returns-then-by-most-clause-kept c =
    let by : FitsSigned w128 c.args.by = c.ranges.by in
    let most : FitsSigned w128 c.args.most = c.ranges.most in
    let truth : FitsSigned w128 c.args.cell.now.truth = search rules in
    let low : FitsSigned w128 c.args.cell.now.low = search rules in
    let fall : FitsSigned w128 (c.args.cell.now.truth -ℤ c.args.cell.now.low) = omega (arith, ints, truth, c.args.cell.now.low_from_zero, c.args.cell.now.low_within) in
    let less : FitsSigned w128 (c.args.most -ℤ (c.args.cell.now.truth -ℤ c.args.cell.now.low)) = omega (arith, ints, fall, most, c.requires.from_one, c.args.cell.now.low_within) in
    let test : (c.args.most -ℤ (c.args.cell.now.truth -ℤ c.args.cell.now.low)) ≤ℤ c.args.by = le_yes _ _ (simp to_z-of_z at c.if-by-most.true) in
    simp to_z-of_z (turned_down c.args.cell.now c.args.by c.args.most c.args.up c.if-up.false (down_kept c.args.cell.now c.args.by c.args.most c.requires.within (omega (arith, ints, c.requires.from_one)) (omega (arith, ints, test))))

pub returns-else-by-most-clause-from_one : goal.returns-else-by-most-clause-from_one
returns-else-by-most-clause-from_one c =
    let by : FitsSigned w128 c.args.by = c.ranges.by in
    let most : FitsSigned w128 c.args.most = c.ranges.most in
    let truth : FitsSigned w128 c.args.cell.now.truth = search rules in
    let low : FitsSigned w128 c.args.cell.now.low = search rules in
    let fall : FitsSigned w128 (c.args.cell.now.truth -ℤ c.args.cell.now.low) = omega (arith, ints, truth, c.args.cell.now.low_from_zero, c.args.cell.now.low_within) in
    let less : FitsSigned w128 (c.args.most -ℤ (c.args.cell.now.truth -ℤ c.args.cell.now.low)) = omega (arith, ints, fall, most, c.requires.from_one, c.args.cell.now.low_within) in
    let test : c.args.by <ℤ (c.args.most -ℤ (c.args.cell.now.truth -ℤ c.args.cell.now.low)) = le_no _ _ (simp to_z-of_z at c.if-by-most.false) in
    let some = room_down c.args.cell.now c.args.by c.args.up c.if-up.false c.requires.room in
    let sum : FitsSigned w128 ((c.args.cell.now.truth -ℤ c.args.cell.now.low) +ℤ c.args.by) = omega (arith, ints, test, some, most) in
    let is : pos 1 ≤ℤ ((c.args.cell.now.truth -ℤ c.args.cell.now.low) +ℤ c.args.by) = omega (arith, ints, some) in
    simp to_z-of_z is

pub returns-else-by-most-clause-kept : goal.returns-else-by-most-clause-kept
returns-else-by-most-clause-kept c =
    let by : FitsSigned w128 c.args.by = c.ranges.by in
    let most : FitsSigned w128 c.args.most = c.ranges.most in
    let truth : FitsSigned w128 c.args.cell.now.truth = search rules in
    let low : FitsSigned w128 c.args.cell.now.low = search rules in
    let fall : FitsSigned w128 (c.args.cell.now.truth -ℤ c.args.cell.now.low) = omega (arith, ints, truth, c.args.cell.now.low_from_zero, c.args.cell.now.low_within) in
    let less : FitsSigned w128 (c.args.most -ℤ (c.args.cell.now.truth -ℤ c.args.cell.now.low)) = omega (arith, ints, fall, most, c.requires.from_one, c.args.cell.now.low_within) in
    let test : c.args.by <ℤ (c.args.most -ℤ (c.args.cell.now.truth -ℤ c.args.cell.now.low)) = le_no _ _ (simp to_z-of_z at c.if-by-most.false) in
    let some = room_down c.args.cell.now c.args.by c.args.up c.if-up.false c.requires.room in
    let sum : FitsSigned w128 ((c.args.cell.now.truth -ℤ c.args.cell.now.low) +ℤ c.args.by) = omega (arith, ints, test, some, most) in
    let is : IsWithinBounds c.args.cell.now (pos 1) (c.args.by +ℤ ((c.args.cell.now.truth -ℤ c.args.cell.now.low) +ℤ c.args.by) *ℤ number_with_sign c.args.up (pos 1)) =
    turned_down c.args.cell.now c.args.by ((c.args.cell.now.truth -ℤ c.args.cell.now.low) +ℤ c.args.by) c.args.up c.if-up.false
    (down_kept c.args.cell.now c.args.by ((c.args.cell.now.truth -ℤ c.args.cell.now.low) +ℤ c.args.by) c.requires.within (omega (arith, ints, some)) (omega (arith, ints))) in
    simp to_z-of_z is
