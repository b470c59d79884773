use Rattle.std.proofs.lemmas.Grind.{common_steps}
use Rattle.std.proofs.Common.{◌≡◌, pos, ◌*ℤ◌, ◌^◌, FitsSigned, to_z, of_z, arith}
use Rattle.std.specs.Int.{w128}
use Rattle.std.proofs.lemmas.Int.{ints, to_z-of_z}
use Rattle.sdc_base.proofs.Products.{scaled_low, scaled_high}
use Rattle.primary_rules.proofs.quotient.hundredths.Goals as goal

pub returns : goal.returns
returns c =
    let low = scaled_low c.args.percent c.args.amount 1000 (2 ^ 110) c.requires.percent c.requires.low in
    let high = scaled_high c.args.percent c.args.amount 1000 (2 ^ 110) c.requires.percent c.requires.high in
    let own : FitsSigned w128 c.args.amount = c.ranges.amount in
    let factor : FitsSigned w128 (pos c.args.percent) = omega (arith, ints) in
    let whole : FitsSigned w128 (pos c.args.percent *ℤ c.args.amount) = omega (arith, ints) in
    let is : to_z w128 (of_z w128 (to_z w128 (of_z w128 c.from.result) *ℤ to_z w128 (of_z w128 c.args.amount))) ≡ pos c.args.percent *ℤ c.args.amount =
    rw c.from.ensures (simp to_z-of_z) in
    record { value = is; low = rw is (omega (arith, ints, low)); high = rw is (omega (arith, ints, high)) }

pub overflow_mul-result : goal.overflow_mul-result
overflow_mul-result c = grind (arith, common_steps)
