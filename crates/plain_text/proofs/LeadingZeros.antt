-- Zeros in front of a number.
use Rattle.std.proofs.Common.{◌≡◌, ℕ, zero, suc, Bool, true, false, cond, List, ◌∷◌, ◌++◌, replicate, length, ◌==◌, Option, None, Some, Result, Ok, Err, ℤ, refl, arith}
use Rattle.sdc_base.specs.declared.number_fault.NumberFault.{NumberFault}
use Rattle.sdc_base.specs.Numbers.{place_of_stray_byte, whole_digits, fraction, read_units, units_of_parts, unless_stray}
use Rattle.plain_text.specs.Laws.{AreZerosPassed}
use Rattle.plain_text.proofs.Parts.{whole-digit, fraction-digit}

no-stray : (o : Option ℕ) (read : Result ℤ NumberFault) (units : ℤ) → unless_stray o read ≡ Ok units → o ≡ None
no-stray None read units e = refl
no-stray (Some place) read units e = absurd cc

read-part : (o : Option ℕ) (read : Result ℤ NumberFault) (units : ℤ) → unless_stray o read ≡ Ok units → read ≡ Ok units
read-part None read units e = e
read-part (Some place) read units e = absurd cc

past-fault : (t : Bool) (fault : NumberFault) (read : Result ℤ NumberFault) (units : ℤ) → cond t (Err fault) read ≡ Ok units → read ≡ Ok units
past-fault true fault read units e = absurd cc
past-fault false fault read units e = e

parts-zero : (front back : List ℕ) (decimals : ℕ) (units : ℤ) → units_of_parts front back decimals ≡ Ok units → units_of_parts (48 ∷ front) back decimals ≡ Ok units
parts-zero front back decimals units e =
    let there : (length (48 ∷ front ++ back) == 0) ≡ false = grind arith in
    rw there (past-fault _ _ _ units e)

zero-passed : (decimals : ℕ) (bytes : List ℕ) (units : ℤ) → read_units bytes decimals ≡ Ok units → read_units (48 ∷ bytes) decimals ≡ Ok units
zero-passed decimals bytes units e =
    let none : place_of_stray_byte false bytes ≡ None = no-stray _ _ units e in
    rw (none, whole-digit 48 bytes refl, fraction-digit 48 bytes refl) (parts-zero (whole_digits bytes) (fraction bytes) decimals units (read-part _ _ units e))

pub zeros_passed : AreZerosPassed
zeros_passed zero decimals bytes units e = e
zeros_passed (suc zeros) decimals bytes units e = zero-passed decimals (replicate zeros 48 ++ bytes) units (zeros_passed zeros decimals bytes units e)
