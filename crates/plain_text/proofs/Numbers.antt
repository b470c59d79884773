-- Digits, and the numbers that they write.
use Rattle.std.proofs.Common.{◌≡◌, ℕ, zero, suc, ◌+◌, ◌-◌, ◌*◌, ◌<◌, ◌≤◌, Bool, true, false, ◌&&◌, List, [], ◌∷◌, ◌++◌, length, take, drop, get_or, None, Some, refl, ap, sym, ◌∙◌, arith, append_assoc, replicate}
use Rattle.std.specs.Char.{is_ascii_digit, digit_value}
use Rattle.std.specs.Str.{all_ascii_digits}
use Rattle.std.specs.Str.Parse.{digits_value_after}
use Rattle.std.proofs.lemmas.List.{take_more, take-append-drop, replicate-append-replicate}
use Rattle.sdc_base.specs.Numbers.{number_within, too_wide}

pub and-left : (a b : Bool) → (a && b) ≡ true → a ≡ true
and-left true b e = refl
and-left false b e = e

pub and-right : (a b : Bool) → (a && b) ≡ true → b ≡ true
and-right true b e = e
and-right false b e = cc

pub digit-at-least : (b : ℕ) → is_ascii_digit b ≡ true → 48 ≤ b
digit-at-least b h = grind arith

pub digit-value : (b : ℕ) → is_ascii_digit b ≡ true → digit_value b ≡ b - 48
digit-value b h = grind arith

pub digit-at : (digits : List ℕ) (k : ℕ) → all_ascii_digits digits ≡ true → k < length digits → is_ascii_digit (get_or digits k 0) ≡ true
digit-at [] k h below = absurd (omega arith)
digit-at (d ∷ digits) zero h below = and-left _ _ h
digit-at (d ∷ digits) (suc k) h below = digit-at digits k (and-right _ _ h) (omega arith)

pub after-append : (n : ℕ) (xs ys : List ℕ) → digits_value_after 10 n (xs ++ ys) ≡ digits_value_after 10 (digits_value_after 10 n xs) ys
after-append n [] ys = refl
after-append n (x ∷ xs) ys = after-append (n * 10 + digit_value x) xs ys

pub after-ge : (n : ℕ) (digits : List ℕ) → n ≤ digits_value_after 10 n digits
after-ge n [] = omega arith
after-ge n (d ∷ digits) = omega (arith, after-ge (n * 10 + digit_value d) digits)

pub after-more : (n : ℕ) (digits : List ℕ) (i : ℕ) → i < length digits → all_ascii_digits digits ≡ true →
    digits_value_after 10 n (take i digits) * 10 + (get_or digits i 0 - 48) ≡ digits_value_after 10 n (take (i + 1) digits)
after-more n digits i below h =
    let value = digit-value (get_or digits i 0) (digit-at digits i h below) in
    rw (take_more digits i 0 below, after-append n (take i digits) (get_or digits i 0 ∷ []), value) refl

pub narrow-wide : (n : ℕ) → too_wide ≤ n → number_within n ≡ None
narrow-wide n h = grind arith

pub narrow-small : (n : ℕ) → n < too_wide → number_within n ≡ Some n
narrow-small n h = grind arith

pub wide-after : (n : ℕ) (xs ys : List ℕ) → too_wide ≤ digits_value_after 10 n xs → number_within (digits_value_after 10 n (xs ++ ys)) ≡ None
wide-after n xs ys h = narrow-wide _ (omega (arith, after-ge (digits_value_after 10 n xs) ys, after-append n xs ys))

pub wide-taken : (n : ℕ) (digits : List ℕ) (i : ℕ) → too_wide ≤ digits_value_after 10 n (take i digits) → number_within (digits_value_after 10 n digits) ≡ None
wide-taken n digits i h = ap (λ ds. number_within (digits_value_after 10 n ds)) (sym (take-append-drop i digits)) ∙ wide-after n (take i digits) (drop i digits) h

pub wide-narrow : (n : ℕ) → None ≡ number_within n → too_wide ≤ n
wide-narrow n h = grind arith

pub small-narrow : (n m : ℕ) → Some m ≡ number_within n → m ≡ n
small-narrow n m h = grind arith

-- Where the first digits are too wide, so are all.
pub wide-front : (front back zeros : List ℕ) → None ≡ number_within (digits_value_after 10 0 front) → number_within (digits_value_after 10 0 ((front ++ back) ++ zeros)) ≡ None
wide-front front back zeros h = ap (λ ds. number_within (digits_value_after 10 0 ds)) (append_assoc front back zeros) ∙ wide-after 0 front (back ++ zeros) (wide-narrow _ h)

pub two-parts : (front back : List ℕ) (n m : ℕ) → Some n ≡ number_within (digits_value_after 10 0 front) → Some m ≡ number_within (digits_value_after 10 n back) → m ≡ digits_value_after 10 0 (front ++ back)
two-parts front back n m e f =
    small-narrow _ m f ∙ ap (λ k. digits_value_after 10 k back) (small-narrow _ n e) ∙ sym (after-append 0 front back)

pub wide-back : (front back zeros : List ℕ) (n : ℕ) → Some n ≡ number_within (digits_value_after 10 0 front) → None ≡ number_within (digits_value_after 10 n back) → number_within (digits_value_after 10 0 ((front ++ back) ++ zeros)) ≡ None
wide-back front back zeros n e h =
    let whole : digits_value_after 10 0 (front ++ back) ≡ digits_value_after 10 n back = after-append 0 front back ∙ ap (λ k. digits_value_after 10 k back) (sym (small-narrow _ n e)) in
    wide-after 0 (front ++ back) zeros (omega (arith, whole, wide-narrow _ h))

zero-more : (digits : List ℕ) (k : ℕ) → digits_value_after 10 (digits_value_after 10 0 (digits ++ replicate k 48)) (48 ∷ []) ≡ digits_value_after 10 0 (digits ++ replicate (k + 1) 48)
zero-more digits k =
    sym (after-append 0 (digits ++ replicate k 48) (48 ∷ []))
    ∙ ap (digits_value_after 10 0) (append_assoc digits (replicate k 48) (48 ∷ []))
    ∙ ap (λ ds. digits_value_after 10 0 (digits ++ ds)) (replicate-append-replicate k 1 48)

pub one-zero : (digits : List ℕ) (k n m : ℕ) → n ≡ digits_value_after 10 0 (digits ++ replicate k 48) → Some m ≡ number_within (digits_value_after 10 n (48 ∷ [])) → m ≡ digits_value_after 10 0 (digits ++ replicate (k + 1) 48)
one-zero digits k n m e f = small-narrow _ m f ∙ ap (λ v. digits_value_after 10 v (48 ∷ [])) e ∙ zero-more digits k

pub wide-zeros : (digits : List ℕ) (k zeros n : ℕ) → k < zeros → n ≡ digits_value_after 10 0 (digits ++ replicate k 48) → None ≡ number_within (digits_value_after 10 n (48 ∷ [])) → number_within (digits_value_after 10 0 (digits ++ replicate zeros 48)) ≡ None
wide-zeros digits k zeros n below e h =
    let more : zeros ≡ (k + 1) + (zeros - (k + 1)) = omega arith in
    let wide : too_wide ≤ digits_value_after 10 n (48 ∷ []) = wide-narrow _ h in
    let step : digits_value_after 10 n (48 ∷ []) ≡ digits_value_after 10 0 (digits ++ replicate (k + 1) 48) = ap (λ v. digits_value_after 10 v (48 ∷ [])) e ∙ zero-more digits k in
    ap (λ z. number_within (digits_value_after 10 0 (digits ++ replicate z 48))) more
    ∙ ap (λ ds. number_within (digits_value_after 10 0 (digits ++ ds))) (sym (replicate-append-replicate (k + 1) (zeros - (k + 1)) 48))
    ∙ ap (λ ds. number_within (digits_value_after 10 0 ds)) (sym (append_assoc digits (replicate (k + 1) 48) (replicate (zeros - (k + 1)) 48)))
    ∙ wide-after 0 (digits ++ replicate (k + 1) 48) (replicate (zeros - (k + 1)) 48) (omega (arith, wide, step))
