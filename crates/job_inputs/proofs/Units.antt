-- A base in units.
use Rattle.std.proofs.Common.{◌≡◌, ℕ, ◌*◌, ◌≤◌, ℤ, pos, negsuc, ◌*ℤ◌, ◌≤ℤ◌, to_z, of_z, arith}
use Rattle.std.specs.Int.{w128}
use Rattle.std.proofs.Math.Nat.{one-le-mul}
use Rattle.std.proofs.lemmas.Int.{ints, to_z-of_z}
use Rattle.std.proofs.lemmas.Nat.{mul-le}

-- a base of a job in units is from 1 and at most 10^22
pub in-units : (base : ℤ) (units : ℕ) → pos 1 ≤ℤ base → base ≤ℤ pos 1000000000 → 1 ≤ units → units ≤ 10000000000000
    → (pos 1 ≤ℤ (base *ℤ pos units)) × ((base *ℤ pos units) ≤ℤ pos 10000000000000000000000)
in-units (pos n) units from most one few =
    let a : 1 ≤ n = omega (arith, ints, from) in
    let b : n ≤ 1000000000 = omega (arith, ints, most) in
    let product : 1 ≤ n * units = one-le-mul a one in
    let within : n * units ≤ 1000000000 * 10000000000000 = mul-le n units 1000000000 10000000000000 b few in
    (omega (arith, ints, product), omega (arith, ints, within))
in-units (negsuc n) units from most one few = absurd (omega (arith, ints, from))

-- what is no more is written and read back as its type holds it
pub held : (number : ℤ) → pos 1 ≤ℤ number → number ≤ℤ pos 10000000000000000000000 → to_z w128 (of_z w128 number) ≡ number
held (pos n) from most = to_z-of_z w128 (pos n) (omega (arith, ints, most))
held (negsuc n) from most = absurd (omega (arith, ints, from))
