-- A number that has passed a bound stays above it.
use Rattle.std.proofs.Common.{◌≡◌, ℕ, ◌+◌, ◌-◌, ◌*◌, ◌<◌, ◌≤◌, Bool, true, false, ◌&&◌, nat_le, List, [], ◌∷◌, length, drop, get_or, Option, None, refl, ap, ◌∙◌, arith, drop-cons, add-one}
use Rattle.std.specs.Char.{is_ascii_digit, digit_value}
use Rattle.std.specs.Str.Parse.{digits_value, digits_value_after}
use Rattle.sdc_base.specs.Tokens.{is_number, number_in}

digit-is : (b : ℕ) → is_ascii_digit b ≡ true → digit_value b ≡ b - 48
digit-is b h = grind arith

after-least : (n : ℕ) (ds : List ℕ) → n ≤ digits_value_after 10 n ds
after-least n [] = omega arith
after-least n (d ∷ ds) = omega (arith, after-least (n * 10 + digit_value d) ds)

and-false : (t : Bool) → (t && false) ≡ false
and-false true = refl
and-false false = refl

above-is : (n most : ℕ) → most < n → nat_le n most ≡ false
above-is n most h = grind arith

-- digits whose first ones write more than the bound write no number within it
pub too_much : (low high : ℕ) (digits : List ℕ) (i value : ℕ) → i < length digits → is_ascii_digit (get_or digits i 0) ≡ true → digits_value 10 digits ≡ digits_value_after 10 value (drop i digits)
    → high < value * 10 + (get_or digits i 0 - 48) → ◌≡◌ {A = Option ℕ} None (number_in low high digits)
too_much low high digits i value within digit is above =
    let step : drop i digits ≡ get_or digits i 0 ∷ drop (i + 1) digits = rw (add-one, drop-cons digits i 0 within) refl in
    let whole = is ∙ ap (digits_value_after 10 value) step in
    let large : high < digits_value 10 digits = omega (arith, digit-is (get_or digits i 0) digit, after-least (value * 10 + digit_value (get_or digits i 0)) (drop (i + 1) digits)) in
    rw (above-is (digits_value 10 digits) high large, and-false (nat_le low (digits_value 10 digits)), and-false (is_number digits)) refl
