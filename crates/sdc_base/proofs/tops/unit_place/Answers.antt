use Rattle.std.proofs.Common.{arith, rules, pos, length, slice_index_or, FitsSigned, w64}
use Rattle.std.proofs.lemmas.Int.{to_z-of_z}
use Rattle.sdc_base.specs.declared.tops.Unit.{Unit as Contribution}
use Rattle.sdc_base.proofs.Kept.{found_place}
use Rattle.sdc_base.proofs.tops.unit_place.Goals as goal

pub returns-then-unit-new-clause-place : goal.returns-then-unit-new-clause-place
returns-then-unit-new-clause-place c =
    let d : Contribution = record { value = pos 0; weight = 0 } in
    let own : FitsSigned w64 c.args.new.value = search rules in
    let other : FitsSigned w64 (slice_index_or c.args.units.now c.loop-i.i d).value = search rules in
    let here = simp to_z-of_z at c.if-unit-new.true in
    found_place c.args.units.now c.args.new c.loop-i.i d (omega arith) (λ k h. c.loop-i.invariant k d h) (λ _. here)

pub returns-clause-place : goal.returns-clause-place
returns-clause-place c =
    let d : Contribution = record { value = pos 0; weight = 0 } in
    found_place c.args.units.now c.args.new (length c.args.units.now) d (omega arith) (λ k h. c.loop-i.invariant k d (omega arith)) (λ h. absurd (omega arith))
