use Rattle.std.proofs.Common.{◌≤◌, ◌^◌, arith}
use Rattle.std.proofs.Math.Nat.{one-le-pow, pow-le-pow_right}
use Rattle.job_inputs.proofs.bases.units_in_one.Goals as goal

pub returns-clause-from_one : goal.returns-clause-from_one
returns-clause-from_one c = omega (arith, c.pow.ensures, one-le-pow c.from.result 10 (omega arith))

pub returns-clause-at_most : goal.returns-clause-at_most
returns-clause-at_most c =
    let within : c.from.result ≤ 13 = omega (arith, c.from.ensures, c.requires) in
    let few : 10 ^ c.from.result ≤ 10 ^ 13 = pow-le-pow_right (omega arith) within in
    omega (arith, c.pow.ensures, few)
