use Rattle.std.proofs.Common.{◌≡◌, arith, true, false, nat_lt, length, slice_index_or}
use Rattle.std.proofs.lemmas.Bool.Decides.{nat_tests}
use Rattle.sdc_base.specs.declared.cube.Corner.{Corner}
use Rattle.hypercube.proofs.CornerLists.{found-place}
use Rattle.hypercube.proofs.corners.corner_place.Goals as goal

pub returns-then-new-corner-clause-place : goal.returns-then-new-corner-clause-place
returns-then-new-corner-clause-place c =
    let d : Corner = record { cell = 0; plus = false } in
    let test : nat_lt c.args.new.cell (slice_index_or c.args.corners.now c.loop-i.i d).cell ≡ true = grind (arith, nat_tests) in
    found-place c.args.corners.now c.args.new c.loop-i.i d (omega arith) (λ k h. c.loop-i.invariant k d h) (λ _. test)

pub returns-clause-place : goal.returns-clause-place
returns-clause-place c =
    let d : Corner = record { cell = 0; plus = false } in
    found-place c.args.corners.now c.args.new (length c.args.corners.now) d (omega arith) (λ k h. c.loop-i.invariant k d (omega arith)) (λ h. absurd (omega arith))
