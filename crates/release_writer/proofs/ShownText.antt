-- What a cell shows is never an empty text.
use Rattle.std.proofs.Common.{ℕ, zero, suc, ◌<◌, ◌==◌, ◌/◌, ◌%◌, ◌^◌, true, false, List, [], ◌∷◌, ◌++◌, length, Option, None, Some, ℤ, arith, length-append, if◌then◌else◌}
use Rattle.std.specs.Prelude.{decimal, unsigned_abs}
use Rattle.std.specs.Fmt.{digits, digits_onto, digit_glyph}
use Rattle.sdc_base.specs.Numbers.{units_text, padded_digits}
use Rattle.sdc_base.specs.TableText.{shown_text}

onto-some : (k n : ℕ) (acc : List ℕ) → 0 < length acc → 0 < length (digits_onto k 10 false n acc)
onto-some zero n acc some = some
onto-some (suc k) n acc some =
    let more : List ℕ = digit_glyph false (n % 10) ∷ acc in
    elim (n / 10 == 0) as (λ b. 0 < length (if b then more else digits_onto k 10 false (n / 10) more)) [ true ↦ omega arith | false ↦ onto-some k (n / 10) more (omega arith) ]

first-digit : (k n : ℕ) → 0 < length (digits_onto (suc k) 10 false n [])
first-digit k n =
    let one : List ℕ = digit_glyph false (n % 10) ∷ [] in
    elim (n / 10 == 0) as (λ b. 0 < length (if b then one else digits_onto k 10 false (n / 10) one)) [ true ↦ omega arith | false ↦ onto-some k (n / 10) one (omega arith) ]

number : (n : ℕ) → 0 < length (decimal n)
unfolding digits
number n = first-digit 63 n

units : (n decimals : ℕ) → 0 < length (units_text n decimals)
units n decimals =
    let back : List ℕ = 46 ∷ padded_digits decimals (n % 10 ^ decimals) in
    let front : List ℕ = decimal (n / 10 ^ decimals) in
    elim (decimals == 0) as (λ b. 0 < length (if b then decimal n else front ++ back)) [
      | true ↦ number n
      | false ↦ omega (arith, length-append front back, number (n / 10 ^ decimals))
    ]

pub shown-some : (decimals : ℕ) (number : Option ℤ) → 0 < length (shown_text decimals number)
shown-some decimals None = omega arith
shown-some decimals (Some number) = units (unsigned_abs number) decimals
