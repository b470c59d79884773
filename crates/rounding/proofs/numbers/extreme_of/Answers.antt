use Rattle.std.proofs.Common.{◌<◌, ◌^◌, ℕ, List, length, arith, ap}
use Rattle.std.proofs.lemmas.Int.{ints}
use Rattle.sdc_base.specs.Systems.{number_at}
use Rattle.rounding.specs.Extremes.{extreme_numbers}
use Rattle.rounding.proofs.SumSteps.{sum_of_more, sum_of_all}
use Rattle.rounding.proofs.numbers.extreme_of.Goals as goal

few : (c : goal.After-distance-sum-in-parts) → c.parts.part-index < 2 ^ 32
few c = let long = ap (λ (ys : List ℕ). length ys) c.as_slice-part-items.ensures in omega (arith, long, c.parts-test.true, c.args.relation.now.fewer_than_2_32)

pub overflow_sub-sum : goal.overflow_sub-sum
overflow_sub-sum c = omega (arith, ints, few c, c.parts.invariant.low, c.parts.invariant.high, c.distance-sum-in-parts.ensures.low, c.distance-sum-in-parts.ensures.high)

pub parts-preserved : goal.parts-preserved
parts-preserved c =
    let r = c.args.relation.now in
    let under = few c in
    let numbers = sum_of_more (extreme_numbers r (number_at c.args.one.now) (number_at c.args.other.now)) r.parts c.as_slice-part-items.result.now c.parts.part-index c.as_slice-part-items.ensures c.parts-test.true in
    let truths = sum_of_more (number_at c.args.truths.now) r.parts c.as_slice-part-items.result.now c.parts.part-index c.as_slice-part-items.ensures c.parts-test.true in
    record {
      sum = omega (arith, ints, under, numbers, truths, c.parts.invariant.sum, c.parts.invariant.low, c.parts.invariant.high, c.distance-sum-in-parts.ensures.value, c.distance-sum-in-parts.ensures.low, c.distance-sum-in-parts.ensures.high);
      low = omega (arith, ints, under, c.parts.invariant.low, c.parts.invariant.high, c.distance-sum-in-parts.ensures.low, c.distance-sum-in-parts.ensures.high);
      high = omega (arith, ints, under, c.parts.invariant.low, c.parts.invariant.high, c.distance-sum-in-parts.ensures.low, c.distance-sum-in-parts.ensures.high);
    }

pub returns : goal.returns
returns c =
    let r = c.args.relation.now in
    let numbers = sum_of_all (extreme_numbers r (number_at c.args.one.now) (number_at c.args.other.now)) r.parts c.as_slice-part-items.result.now c.parts.part-index c.as_slice-part-items.ensures c.parts-test.false in
    let truths = sum_of_all (number_at c.args.truths.now) r.parts c.as_slice-part-items.result.now c.parts.part-index c.as_slice-part-items.ensures c.parts-test.false in
    omega (arith, ints, numbers, truths, c.parts.invariant.sum, c.requires.holds)
