use Rattle.std.proofs.Common.{◌≡◌, ◌-◌, ◌+◌, min, pos, ap, ◌∙◌, arith, slice_index_or}
use Rattle.std.proofs.lemmas.Int.{ints}
use Rattle.sdc_base.specs.declared.tops.Unit.{Unit as Contribution}
use Rattle.sdc_base.proofs.Kept.{steps_more}
use Rattle.sdc_base.proofs.tops.over_first_steps.Goals as goal

pub loop-unit-preserved : goal.loop-unit-preserved
loop-unit-preserved c =
    let d : Contribution = record { value = pos 0; weight = 0 } in
    let unit : Contribution = slice_index_or c.args.units.now c.loop-unit.unit-index d in
    let more = steps_more c.loop-unit.left c.loop-unit.unit-index c.args.units.now d c.loop-unit-test.true in
    let left : c.saturating_sub-left.result ≡ c.loop-unit.left - unit.weight = c.saturating_sub-left.ensures ∙ ap (λ w. c.loop-unit.left - w) c.from.ensures in
    let used : c.args.steps - c.saturating_sub-left.result ≡ (c.args.steps - c.loop-unit.left) + min unit.weight c.loop-unit.left = omega (arith, left, c.loop-unit.invariant.left) in
    let low = c.part_of-sum.ensures.low in
    let high = c.part_of-sum.ensures.high in
    record {
      sum = rw left (omega (arith, ints, more));
      left = omega (arith, left, c.loop-unit.invariant.left);
      low = rw used (omega (arith, ints, low));
      high = rw used (omega (arith, ints, high));
    }
