use Rattle.std.proofs.Common.{◌^◌, FitsSigned, arith, rules}
use Rattle.std.specs.Int.{w128}
use Rattle.std.proofs.lemmas.Int.{ints, to_z-of_z}
use Rattle.sdc_base.proofs.Products.{scaled_low, scaled_high}
use Rattle.primary_rules.proofs.naming.by_prior_posterior.Goals as goal

pub excess-requires-clause-most : goal.excess-requires-clause-most
excess-requires-clause-most c =
    let rest_fits : FitsSigned w128 c.rest_of.result = search rules in
    let sum_fits : FitsSigned w128 c.sum_of_largest.result = search rules in
    let low = scaled_low c.args.q c.rest_of.result 1000 (2 ^ 80) (omega arith) c.rest_of.ensures.low in
    let high = scaled_high c.args.p c.sum_of_largest.result 1000 (2 ^ 80) (omega arith) c.sum_of_largest.ensures.high in
    let rest_is = simp to_z-of_z at c.hundredths-rest.ensures.value in
    let bound_is = simp to_z-of_z at c.hundredths-bound.ensures.value in
    omega (arith, ints, low, high, rest_is, bound_is)
