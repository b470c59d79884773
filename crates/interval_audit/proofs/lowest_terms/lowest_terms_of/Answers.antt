use Rattle.std.proofs.Common.{◌≡◌, sym, rules, FitsSigned, to_z, of_z}
use Rattle.std.specs.Int.{w128}
use Rattle.std.proofs.lemmas.Int.{to_z-of_z}
use Rattle.interval_audit.proofs.Divisors.{reduced_is}
use Rattle.interval_audit.proofs.lowest_terms.lowest_terms_of.Goals as goal

pub returns-clause-reduced : goal.returns-clause-reduced
returns-clause-reduced c =
    let den : FitsSigned w128 c.args.den = c.ranges.den in
    let lower : FitsSigned w128 c.quotient_of-lower.result = search rules in
    let is = simp to_z-of_z at c.quotient_of-lower.ensures.value in
    let greatest = simp to_z-of_z at c.divisor_of-by.ensures.greatest in
    let low : to_z w128 (of_z w128 c.quotient_of-lower.result) ≡ c.quotient_of-lower.result = to_z-of_z w128 c.quotient_of-lower.result lower in
    rw low (reduced_is c.divisor_of-by.result c.args.den c.args.terms.now c.quotient_of-lower.result c.in_ok-less.less.items c.divisor_of-by.ensures.positive c.requires.positive greatest (sym is) c.in_ok-less.ensures.each)
