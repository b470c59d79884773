use Rattle.std.proofs.Common.{arith, subst}
use Rattle.std.proofs.lemmas.Int.{ints}
use Rattle.job_lang.specs.JobLimits.{IsMethod}
use Rattle.job_inputs.proofs.Units.{in-units, held}
use Rattle.job_inputs.proofs.bases.base_in_units.Goals as goal

pub returns-in-Rnd-clause-from_one : goal.returns-in-Rnd-clause-from_one
returns-in-Rnd-clause-from_one c =
    let within = subst IsMethod c.in-Rnd.is c.requires.method in
    let product = in-units c.in-Rnd.base c.units_in_one.result within.0 within.1 c.units_in_one.ensures.from_one c.units_in_one.ensures.at_most in
    rw (c.in_units.ensures, held c.in-Rnd.base within.0 (omega (arith, ints, within.1)), held _ product.0 product.1) product.0

pub returns-in-Rnd-clause-at_most : goal.returns-in-Rnd-clause-at_most
returns-in-Rnd-clause-at_most c =
    let within = subst IsMethod c.in-Rnd.is c.requires.method in
    let product = in-units c.in-Rnd.base c.units_in_one.result within.0 within.1 c.units_in_one.ensures.from_one c.units_in_one.ensures.at_most in
    rw (c.in_units.ensures, held c.in-Rnd.base within.0 (omega (arith, ints, within.1)), held _ product.0 product.1) product.1
