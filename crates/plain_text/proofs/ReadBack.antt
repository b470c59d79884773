-- What is printed is read back.
use Rattle.std.proofs.Common.{◌≡◌, ℕ, zero, suc, ◌+◌, ◌-◌, ◌*◌, ◌/◌, ◌%◌, ◌^◌, ◌<◌, ◌≤◌, true, false, List, [], ◌∷◌, ◌++◌, length, None, Ok, ℤ, pos, negsuc, ◌≤ℤ◌, ◌<ℤ◌, unsigned_abs, decimal, replicate, nat_lt, append-nil, length-append, refl, ap, sym, ◌∙◌, arith, ◌==◌, add-mul, mul_assoc, mul_comm, div-le_self}
use Rattle.std.specs.Char.{is_ascii_digit, digit_value}
use Rattle.std.specs.Str.{all_ascii_digits}
use Rattle.std.specs.Str.Parse.{AllDigits, digits_value, digits_value_after}
use Rattle.std.proofs.lemmas.Int.{ints}
use Rattle.std.proofs.lemmas.Nat.{div-add-mod', mod_below}
use Rattle.std.proofs.lemmas.List.{length-replicate}
use Rattle.std.proofs.lemmas.Fmt.{decimal_is_IsNumeral_wide, length-decimal-le_wide}
use Rattle.std.proofs.Math.Nat.{one-le-pow, pow-suc}
use Rattle.sdc_base.specs.Numbers.{place_of_stray_byte, whole_digits, fraction, read_units, units_of_parts, units_text, padded_digits, too_wide}
use Rattle.plain_text.specs.Laws.{IsPrintedRead, HasAllPlaces}
use Rattle.plain_text.proofs.Numbers.{and-left, and-right, narrow-small, after-append}
use Rattle.plain_text.proofs.Parts.{whole-digit, fraction-digit}

digit-of-value : (c : ℕ) → digit_value c < 10 → is_ascii_digit c ≡ true
digit-of-value c h = grind arith

all-ascii : (ds : List ℕ) → AllDigits 10 ds → all_ascii_digits ds ≡ true
all-ascii [] h = refl
all-ascii (d ∷ ds) h = rw (digit-of-value d h.0) (all-ascii ds h.1)

-- zeros in front are digits too, and add nothing to the value
zeros-ascii : (zeros : ℕ) (ds : List ℕ) → all_ascii_digits ds ≡ true → all_ascii_digits (replicate zeros 48 ++ ds) ≡ true
zeros-ascii zero ds h = h
zeros-ascii (suc zeros) ds h = zeros-ascii zeros ds h

zeros-value : (zeros : ℕ) (ds : List ℕ) → digits_value_after 10 0 (replicate zeros 48 ++ ds) ≡ digits_value_after 10 0 ds
zeros-value zero ds = refl
zeros-value (suc zeros) ds = zeros-value zeros ds

-- the number with further digits after it
pub value-after : (n : ℕ) (ds : List ℕ) → digits_value_after 10 n ds ≡ n * 10 ^ length ds + digits_value_after 10 0 ds
value-after n [] = omega arith
value-after n (d ∷ ds) =
    let here = value-after (n * 10 + digit_value d) ds in
    let alone = value-after (digit_value d) ds in
    let shared : (n * 10 + digit_value d) * 10 ^ length ds ≡ n * 10 * 10 ^ length ds + digit_value d * 10 ^ length ds = add-mul (n * 10) (digit_value d) (10 ^ length ds) in
    let power : n * 10 * 10 ^ length ds ≡ n * 10 ^ (suc (length ds)) = mul_assoc n 10 (10 ^ length ds) ∙ ap (λ p. n * p) (mul_comm 10 (10 ^ length ds) ∙ sym (pow-suc 10 (length ds))) in
    let none : 0 * 10 + digit_value d ≡ digit_value d = omega arith in
    let bare : digits_value_after 10 0 (d ∷ ds) ≡ digits_value_after 10 (digit_value d) ds = ap (λ v. digits_value_after 10 v ds) none in
    here ∙ omega (arith, alone, shared, power, bare)

no-stray-front : (front rest : List ℕ) → all_ascii_digits front ≡ true → place_of_stray_byte false rest ≡ None → place_of_stray_byte false (front ++ rest) ≡ None
no-stray-front [] rest h e = e
no-stray-front (d ∷ front) rest h e =
    let digit : is_ascii_digit d ≡ true = and-left _ _ h in
    let later : place_of_stray_byte false (front ++ rest) ≡ None = no-stray-front front rest (and-right _ _ h) e in
    rw (digit, later) refl

no-stray-back : (back : List ℕ) → all_ascii_digits back ≡ true → place_of_stray_byte true back ≡ None
no-stray-back [] h = refl
no-stray-back (d ∷ back) h =
    let digit : is_ascii_digit d ≡ true = and-left _ _ h in
    let later : place_of_stray_byte true back ≡ None = no-stray-back back (and-right _ _ h) in
    rw (digit, later) refl

whole-front : (front back : List ℕ) → all_ascii_digits front ≡ true → whole_digits (front ++ 46 ∷ back) ≡ front
whole-front [] back h = refl
whole-front (d ∷ front) back h = whole-digit d (front ++ 46 ∷ back) (and-left _ _ h) ∙ ap (λ xs. d ∷ xs) (whole-front front back (and-right _ _ h))

fraction-back : (front back : List ℕ) → all_ascii_digits front ≡ true → fraction (front ++ 46 ∷ back) ≡ back
fraction-back [] back h = refl
fraction-back (d ∷ front) back h = fraction-digit d (front ++ 46 ∷ back) (and-left _ _ h) ∙ fraction-back front back (and-right _ _ h)

whole-all : (ds : List ℕ) → all_ascii_digits ds ≡ true → whole_digits ds ≡ ds
whole-all [] h = refl
whole-all (d ∷ ds) h = whole-digit d ds (and-left _ _ h) ∙ ap (λ xs. d ∷ xs) (whole-all ds (and-right _ _ h))

fraction-none : (ds : List ℕ) → all_ascii_digits ds ≡ true → ◌≡◌ {A = List ℕ} (fraction ds) []
fraction-none [] h = refl
fraction-none (d ∷ ds) h = fraction-digit d ds (and-left _ _ h) ∙ fraction-none ds (and-right _ _ h)

-- as many digits after the point as there are decimals
parts-full : (front back : List ℕ) (n : ℕ) → 0 < length front → digits_value 10 (front ++ back) ≡ n → n < too_wide → units_of_parts front back (length back) ≡ Ok (pos n)
parts-full front back n some e h =
    let there : (length (front ++ back) == 0) ≡ false = grind (arith, length-append) in
    let few : nat_lt (length back) (length back) ≡ false = grind arith in
    let none : length back - length back ≡ 0 = omega arith in
    rw (there, few, none, append-nil (front ++ back), e, narrow-small n h) refl

reads-decimal : (n : ℕ) → n < too_wide → read_units (decimal n) 0 ≡ Ok (pos n)
reads-decimal n h =
    let numeral = decimal_is_IsNumeral_wide n (omega (arith, h)) in
    let digits = all-ascii (decimal n) numeral.0.1 in
    let bare : place_of_stray_byte false (decimal n) ≡ None = ap (place_of_stray_byte false) (sym (append-nil (decimal n))) ∙ no-stray-front (decimal n) [] digits refl in
    rw (bare, whole-all (decimal n) digits, fraction-none (decimal n) digits)
    (parts-full (decimal n) [] n numeral.0.0 (ap (digits_value 10) (append-nil (decimal n)) ∙ numeral.1) h)

reads-point : (front back : List ℕ) (n : ℕ) → all_ascii_digits front ≡ true → all_ascii_digits back ≡ true → 0 < length front → digits_value 10 (front ++ back) ≡ n → n < too_wide → read_units (front ++ 46 ∷ back) (length back) ≡ Ok (pos n)
reads-point front back n f b some e h =
    let later : place_of_stray_byte true back ≡ None = no-stray-back back b in
    let point : place_of_stray_byte false (46 ∷ back) ≡ None = rw later refl in
    rw (no-stray-front front (46 ∷ back) f point, whole-front front back f, fraction-back front back f) (parts-full front back n some e h)

-- a number below 10^k, with zeros in front, has exactly k digits
length-padded : (k r : ℕ) → 0 < k → r < 10 ^ k → r < too_wide → length (padded_digits k r) ≡ k
length-padded k r some below h =
    let short : length (decimal r) ≤ k = length-decimal-le_wide k r some below (omega (arith, h)) in
    length-append (replicate (k - length (decimal r)) 48) (decimal r) ∙ omega (arith, short, length-replicate {A = ℕ} (k - length (decimal r)) 48)

reads-parts : (k q r : ℕ) → 0 < k → r < 10 ^ k → q < too_wide → r < too_wide → q * 10 ^ k + r < too_wide → read_units (decimal q ++ 46 ∷ padded_digits k r) k ≡ Ok (pos (q * 10 ^ k + r))
reads-parts k q r some below hq hr h =
    let front = decimal_is_IsNumeral_wide q (omega (arith, hq)) in
    let back = decimal_is_IsNumeral_wide r (omega (arith, hr)) in
    let long = length-padded k r some below hr in
    let value : digits_value 10 (decimal q ++ padded_digits k r) ≡ q * 10 ^ k + r =
    after-append 0 (decimal q) (padded_digits k r)
    ∙ value-after (digits_value 10 (decimal q)) (padded_digits k r)
    ∙ ap (λ v. v * 10 ^ length (padded_digits k r) + digits_value_after 10 0 (padded_digits k r)) front.1
    ∙ ap (λ l. q * 10 ^ l + digits_value_after 10 0 (padded_digits k r)) long
    ∙ ap (λ v. q * 10 ^ k + v) (zeros-value (k - length (decimal r)) (decimal r) ∙ back.1) in
    ap (read_units (decimal q ++ 46 ∷ padded_digits k r)) (sym long)
    ∙ reads-point (decimal q) (padded_digits k r) (q * 10 ^ k + r) (all-ascii (decimal q) front.0.1)
    (zeros-ascii (k - length (decimal r)) (decimal r) (all-ascii (decimal r) back.0.1)) front.0.0 value h

with-point : (n k : ℕ) → 0 < k → units_text n k ≡ decimal (n / 10 ^ k) ++ 46 ∷ padded_digits k (n % 10 ^ k)
with-point n k some = let other : (k == 0) ≡ false = grind arith in rw other refl

pub printed_read : IsPrintedRead
printed_read n zero h = reads-decimal n h
printed_read n (suc d) h =
    let some : 0 < 10 ^ suc d = one-le-pow (suc d) 10 (omega arith) in
    let split : n / 10 ^ suc d * 10 ^ suc d + n % 10 ^ suc d ≡ n = div-add-mod' n (10 ^ suc d) in
    let below : n % 10 ^ suc d < 10 ^ suc d = mod_below n (10 ^ suc d) some in
    let q_small : n / 10 ^ suc d ≤ n = div-le_self n (10 ^ suc d) in
    let r_small : n % 10 ^ suc d ≤ n = omega (arith, split) in
    ap (λ text. read_units text (suc d)) (with-point n (suc d) (omega arith))
    ∙ reads-parts (suc d) (n / 10 ^ suc d) (n % 10 ^ suc d) (omega arith) below (omega (arith, h, q_small)) (omega (arith, h, r_small)) (omega (arith, h, split))
    ∙ ap (λ v. Ok (pos v)) split

-- exactly so many digits behind the point
pub all_places : HasAllPlaces
all_places n k h some =
    let power : 0 < 10 ^ k = one-le-pow k 10 (omega arith) in
    let split : n / 10 ^ k * 10 ^ k + n % 10 ^ k ≡ n = div-add-mod' n (10 ^ k) in
    let q_small : n / 10 ^ k ≤ n = div-le_self n (10 ^ k) in
    let r_small : n % 10 ^ k ≤ n = omega (arith, split) in
    let front = decimal_is_IsNumeral_wide (n / 10 ^ k) (omega (arith, h, q_small)) in
    ap (λ text. length (fraction text)) (with-point n k some)
    ∙ ap (λ (ds : List ℕ). length ds) (fraction-back (decimal (n / 10 ^ k)) (padded_digits k (n % 10 ^ k)) (all-ascii (decimal (n / 10 ^ k)) front.0.1))
    ∙ length-padded k (n % 10 ^ k) some (mod_below n (10 ^ k) power) (omega (arith, h, r_small))

-- the same at a number of the code's type
pub reads_printed : (z : ℤ) (decimals : ℕ) (text : List ℕ) → pos 0 ≤ℤ z → z <ℤ pos too_wide → text ≡ units_text (unsigned_abs z) decimals → read_units text decimals ≡ Ok z
reads_printed (pos n) decimals text from below e = rw e (printed_read n decimals (omega (arith, ints)))
reads_printed (negsuc n) decimals text from below e = absurd (omega (arith, ints))
