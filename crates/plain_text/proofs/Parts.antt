-- The digits before and after the point.
use Rattle.std.proofs.Common.{◌≡◌, ℕ, suc, ◌+◌, Bool, true, false, cond, ◌&&◌, List, [], ◌∷◌, Option, None, Some, option_map, refl, arith}
use Rattle.std.specs.Char.{is_ascii_digit}
use Rattle.std.specs.Str.{all_ascii_digits}
use Rattle.std.specs.List.{position_or_len}
use Rattle.sdc_base.specs.Numbers.{place_of_stray_byte, whole_digits, fraction, is_point}

not-point : (b : ℕ) → is_ascii_digit b ≡ true → is_point b ≡ false
not-point b h = grind arith

map-none : (f : ℕ → ℕ) (o : Option ℕ) → option_map f o ≡ None → o ≡ None
map-none f None e = refl
map-none f (Some x) e = cc

pub whole-digit : (b : ℕ) (bytes : List ℕ) → is_ascii_digit b ≡ true → whole_digits (b ∷ bytes) ≡ b ∷ whole_digits bytes
whole-digit b bytes h =
    let one : 1 + position_or_len is_point bytes ≡ suc (position_or_len is_point bytes) = omega arith in
    rw (not-point b h, one) refl

pub fraction-digit : (b : ℕ) (bytes : List ℕ) → is_ascii_digit b ≡ true → fraction (b ∷ bytes) ≡ fraction bytes
fraction-digit b bytes h =
    let one : (1 + position_or_len is_point bytes) + 1 ≡ suc (position_or_len is_point bytes + 1) = omega arith in
    rw (not-point b h, one) refl

stray-digit : (seen : Bool) (b : ℕ) (bytes : List ℕ) → is_ascii_digit b ≡ true → place_of_stray_byte seen (b ∷ bytes) ≡ None → place_of_stray_byte seen bytes ≡ None
stray-digit seen b bytes h e = map-none (λ k. k + 1) (place_of_stray_byte seen bytes) (rw h at e)

stray-point : (b : ℕ) (bytes : List ℕ) → is_ascii_digit b ≡ false → is_point b ≡ true → place_of_stray_byte false (b ∷ bytes) ≡ None → place_of_stray_byte true bytes ≡ None
stray-point b bytes h p e = map-none (λ k. k + 1) (place_of_stray_byte true bytes) (rw (h, p) at e)

stray-other : (b : ℕ) (bytes : List ℕ) → is_ascii_digit b ≡ false → is_point b ≡ false → place_of_stray_byte false (b ∷ bytes) ≡ Some 0
stray-other b bytes h p = rw (h, p) refl

stray-second : (b : ℕ) (bytes : List ℕ) → is_ascii_digit b ≡ false → place_of_stray_byte true (b ∷ bytes) ≡ Some 0
stray-second b bytes h = rw h (elim (is_point b) as (λ p. cond (p && false) (option_map (λ k. k + 1) (place_of_stray_byte true bytes)) (Some 0) ≡ Some 0) [ true ↦ refl | false ↦ refl ])

-- after the point there are digits alone
pub all-digits : (bytes : List ℕ) → place_of_stray_byte true bytes ≡ None → all_ascii_digits bytes ≡ true
all-digits [] e = refl
all-digits (b ∷ bytes) e = elim (is_ascii_digit b) as (λ d. is_ascii_digit b ≡ d → all_ascii_digits (b ∷ bytes) ≡ true) [
  | true ↦ λ is. rw is (all-digits bytes (stray-digit true b bytes is e))
  | false ↦ λ is. (let other = stray-second b bytes is in cc)
] refl

pub whole-digits : (bytes : List ℕ) → place_of_stray_byte false bytes ≡ None → all_ascii_digits (whole_digits bytes) ≡ true
whole-digits [] e = refl
whole-digits (b ∷ bytes) e = elim (is_ascii_digit b) as (λ d. is_ascii_digit b ≡ d → all_ascii_digits (whole_digits (b ∷ bytes)) ≡ true) [
  | true ↦ λ is. rw (whole-digit b bytes is, is) (whole-digits bytes (stray-digit false b bytes is e))
  | false ↦ λ is. elim (is_point b) as (λ p. is_point b ≡ p → all_ascii_digits (whole_digits (b ∷ bytes)) ≡ true) [
    | true ↦ λ p. rw p refl
    | false ↦ λ p. (let other = stray-other b bytes is p in cc)
  ] refl
] refl

pub fraction-digits : (bytes : List ℕ) → place_of_stray_byte false bytes ≡ None → all_ascii_digits (fraction bytes) ≡ true
fraction-digits [] e = refl
fraction-digits (b ∷ bytes) e = elim (is_ascii_digit b) as (λ d. is_ascii_digit b ≡ d → all_ascii_digits (fraction (b ∷ bytes)) ≡ true) [
  | true ↦ λ is. rw (fraction-digit b bytes is) (fraction-digits bytes (stray-digit false b bytes is e))
  | false ↦ λ is. elim (is_point b) as (λ p. is_point b ≡ p → all_ascii_digits (fraction (b ∷ bytes)) ≡ true) [
    | true ↦ λ p. rw p (all-digits bytes (stray-point b bytes is p e))
    | false ↦ λ p. (let other = stray-other b bytes is p in cc)
  ] refl
] refl
