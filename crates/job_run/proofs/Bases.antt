-- The base of a job, in units.
use Rattle.std.proofs.Common.{◌≡◌, ◌^◌, ◌≤◌, ℕ, ℤ, pos, ◌*ℤ◌, ◌≤ℤ◌, Some, arith, ap, subst, ◌∙◌}
use Rattle.std.proofs.lemmas.Int.{ints}
use Rattle.std.proofs.Math.Nat.{one-le-pow, pow-le-pow_right}
use Rattle.sdc_base.proofs.WholeNumbers.{times_up}
use Rattle.sdc_base.specs.declared.method.Method.{Method}
use Rattle.sdc_base.specs.declared.method.Method.TheVariants as method
use Rattle.job_lang.specs.JobLimits.{IsMethod}
use Rattle.job_run.specs.Roundings.{base_in_units}

-- a base brought to units is from 1 to 10^22
pub units-within : (base : ℤ) (decimals : ℕ) → pos 1 ≤ℤ base → base ≤ℤ pos 1000000000 → decimals ≤ 13 → (pos 1 ≤ℤ (base *ℤ pos (10 ^ decimals))) × ((base *ℤ pos (10 ^ decimals)) ≤ℤ pos (10 ^ 22))
units-within base decimals from to few =
    let some : 1 ≤ 10 ^ decimals = one-le-pow decimals 10 (omega arith) in
    let most : 10 ^ decimals ≤ 10 ^ 13 = pow-le-pow_right (omega arith) few in
    within base (10 ^ decimals) from to some most
  where
    within : (base : ℤ) (unit : ℕ) → pos 1 ≤ℤ base → base ≤ℤ pos 1000000000 → 1 ≤ unit → unit ≤ 10 ^ 13 → (pos 1 ≤ℤ (base *ℤ pos unit)) × ((base *ℤ pos unit) ≤ℤ pos (10 ^ 22))
    within base unit from to some most =
        let low : (base *ℤ pos 1) ≤ℤ (base *ℤ pos unit) = times_up base (pos 1) (pos unit) (omega (arith, ints, from)) (omega (arith, ints, some)) in
        let high : (base *ℤ pos unit) ≤ℤ (base *ℤ pos (10 ^ 13)) = times_up base (pos unit) (pos (10 ^ 13)) (omega (arith, ints, from)) (omega (arith, ints, most)) in
        (omega (arith, ints, low, from), omega (arith, ints, high, to))

-- the base of a method in its limits
pub base-within : (one : Method) (decimals : ℕ) (base : ℤ) → IsMethod one → decimals ≤ 13 → base_in_units one decimals ≡ Some base → (pos 1 ≤ℤ base) × (base ≤ℤ pos (10 ^ 22))
base-within (method.Rnd whole) decimals base is few h =
    let same : whole *ℤ pos (10 ^ decimals) ≡ base = cc in
    subst (λ (b : ℤ). (pos 1 ≤ℤ b) × (b ≤ℤ pos (10 ^ 22))) same (units-within whole decimals is.0 is.1 few)
base-within (method.Gh passes) decimals base is few h = absurd cc
base-within method.Modular decimals base is few h = absurd cc

-- a unit of so many decimals
pub unit-is : (unit decimals wide : ℕ) (value : ℤ) → value ≡ pos unit → unit ≡ 10 ^ wide → wide ≡ decimals → value ≡ pos (10 ^ decimals)
unit-is unit decimals wide value is power same = is ∙ ap (λ (n : ℕ). pos n) (power ∙ ap (λ (k : ℕ). 10 ^ k) same)
