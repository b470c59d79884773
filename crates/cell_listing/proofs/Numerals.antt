-- Numbers that are written are read again, and numbers that are read are written so.
use Rattle.std.proofs.Common.{◌≡◌, ℕ, zero, suc, ◌+◌, ◌*◌, ◌/◌, ◌%◌, ◌^◌, ◌<◌, ◌≤◌, ◌==◌, ◌&&◌, not, Bool, true, false, cond, nat_lt, nat_le, List, [], ◌∷◌, ◌++◌, length, None, Some, refl, ap, sym, ◌∙◌, arith, append_assoc, decimal, ◌⊎◌, inl, inr}
use Rattle.std.specs.List.{list_any}
use Rattle.std.proofs.lemmas.List.{append-nil}
use Rattle.std.specs.Char.{is_ascii_digit, digit_value}
use Rattle.std.specs.Str.{all_ascii_digits}
use Rattle.std.specs.Str.Parse.{AllDigits, digits_value, digits_value_after}
use Rattle.std.proofs.lemmas.Str.{digit_value_digit}
use Rattle.std.proofs.lemmas.Str.Parse.{digit_from_value, numerals_by_value, tells_all_ascii_digits}
use Rattle.std.proofs.lemmas.Fmt.{decimal_is_IsNumeral_wide, decimal_by_steps_wide, decimal_step_wide, decimal_digit}
use Rattle.sdc_base.specs.Tokens.{is_number}
use Rattle.certificate.specs.Pieces.{begins_with}
use Rattle.certificate.specs.Numerals.{is_padded, natural_in}

-- ---- from a number to its digits

-- digits that begin with no zero where the number isn't 0, and that are never padded
abbrev Begun : ℕ → List ℕ → Type 0
Begun n ds = (0 < length ds) × (0 < n → begins_with 48 ds ≡ false) × (is_padded ds ≡ false)

first-digit : (n : ℕ) → 0 < n → (48 + n == 48) ≡ false
first-digit n h = grind arith

and-false : (t : Bool) → (t && false) ≡ false
and-false true = refl
and-false false = refl

begun-one : (n : ℕ) → n < 10 → Begun n ((48 + n) ∷ [])
begun-one n small = (omega arith, (λ some. first-digit n some), refl)

begins-longer : (byte : ℕ) (ds rest : List ℕ) → 0 < length ds → begins_with byte (ds ++ rest) ≡ begins_with byte ds
begins-longer byte [] rest some = absurd (omega (arith, some))
begins-longer byte (d ∷ ds) rest some = refl

begun-more : (n : ℕ) (ds : List ℕ) → 10 ≤ n → Begun (n / 10) ds → Begun n (ds ++ ((48 + n % 10) ∷ []))
begun-more n ds large h =
    let some : 0 < n / 10 = omega arith in
    let begins : begins_with 48 (ds ++ ((48 + n % 10) ∷ [])) ≡ false = begins-longer 48 ds ((48 + n % 10) ∷ []) h.0 ∙ h.1 some in
    (longer ds ((48 + n % 10) ∷ []) h.0, (λ _. begins), rw begins (and-false _))
  where
    longer : (xs ys : List ℕ) → 0 < length xs → 0 < length (xs ++ ys)
    longer [] ys h = absurd (omega (arith, h))
    longer (x ∷ xs) ys h = omega arith

begun : (n : ℕ) → n < 10 ^ 64 → Begun n (decimal n)
begun n h = decimal_by_steps_wide Begun begun-one begun-more n h

digit-of-value : (c : ℕ) → digit_value c < 10 → is_ascii_digit c ≡ true
digit-of-value c h = grind arith

all-ascii : (ds : List ℕ) → AllDigits 10 ds → all_ascii_digits ds ≡ true
all-ascii [] h = refl
all-ascii (d ∷ ds) h = rw (digit-of-value d h.0) (all-ascii ds h.1)

within-is : (m n : ℕ) → m ≤ n → nat_le m n ≡ true
within-is m n h = grind arith

not-zero : (n : ℕ) → 0 < n → (n == 0) ≡ false
not-zero n h = grind arith

pub natural_spelled : (low high n : ℕ) → low ≤ n → n ≤ high → high < 10 ^ 64 → natural_in low high (decimal n) ≡ Some n
natural_spelled low high n above within small =
    let numeral = decimal_is_IsNumeral_wide n (omega arith) in
    rw ((begun n (omega arith)).2, not-zero (length (decimal n)) numeral.0.0, all-ascii (decimal n) numeral.0.1, numeral.1, within-is low n above, within-is n high within) refl

-- ---- from digits to the number

both-true : (p q : Bool) → p ≡ true → q ≡ true → (p && q) ≡ true
both-true true true h g = refl
both-true true false h g = g
both-true false q h g = h

after-least : (n : ℕ) (ds : List ℕ) → n ≤ digits_value_after 10 n ds
after-least n [] = omega arith
after-least n (c ∷ cs) = omega (arith, after-least (n * 10 + digit_value c) cs)

decimal-after : (n : ℕ) (ds : List ℕ) → 0 < n → AllDigits 10 ds → digits_value_after 10 n ds < 10 ^ 64 → decimal (digits_value_after 10 n ds) ≡ decimal n ++ ds
decimal-after n [] some d small = sym (append-nil (decimal n))
decimal-after n (c ∷ cs) some d small =
    let m : ℕ = n * 10 + digit_value c in
    let k = digit_value_digit c (digit_from_value c d.0) in
    let front : m / 10 ≡ n = omega (arith, d.0) in
    let end : 48 + m % 10 ≡ c = omega (arith, d.0) in
    decimal-after m cs (omega arith) d.1 small
    ∙ ap (λ (x : List ℕ). x ++ cs) (decimal_step_wide m (omega arith) (omega (arith, after-least m cs)) ∙ ap (λ (x : ℕ). decimal x ++ ((48 + m % 10) ∷ [])) front ∙ ap (λ (x : ℕ). decimal n ++ (x ∷ [])) end)
    ∙ append_assoc (decimal n) (c ∷ []) cs

more-than-one : (n : ℕ) → nat_lt 1 (suc (suc n)) ≡ true
more-than-one n = grind arith

is-zero : (c : ℕ) → c ≡ 48 → (c == 48) ≡ true
is-zero c h = grind arith

padded-no : (c n : ℕ) → c ≡ 48 → (nat_lt 1 (suc (suc n)) && (c == 48)) ≡ false → ⊥
padded-no c n is h = let no : true ≡ false = sym (both-true _ _ (more-than-one n) (is-zero c is)) ∙ h in absurd cc

decimal-value : (ds : List ℕ) → AllDigits 10 ds → 0 < length ds → is_padded ds ≡ false → digits_value 10 ds < 10 ^ 64 → decimal (digits_value 10 ds) ≡ ds
decimal-value [] d some lead small = absurd (omega (arith, some))
decimal-value (c ∷ []) d some lead small =
    let k = digit_value_digit c (digit_from_value c d.0) in
    decimal_digit (0 * 10 + digit_value c) (omega (arith, d.0)) ∙ ap (λ (x : ℕ). x ∷ []) (omega arith)
decimal-value (c ∷ e ∷ cs) d some lead small =
    let k = digit_value_digit c (digit_from_value c d.0) in
    let no : c ≡ 48 → ⊥ = λ z. padded-no c (length cs) z lead in
    let is : 48 + (0 * 10 + digit_value c) ≡ c = omega arith in
    decimal-after (0 * 10 + digit_value c) (e ∷ cs) (omega (arith, no)) d.1 small
    ∙ ap (λ (x : List ℕ). x ++ (e ∷ cs)) (decimal_digit (0 * 10 + digit_value c) (omega (arith, d.0)) ∙ ap (λ (x : ℕ). x ∷ []) is)

picked : (p q a b : Bool) (v n : ℕ) → cond p None (cond (q && (a && b)) (Some v) None) ≡ Some n → (p ≡ false) × (q ≡ true) × (a ≡ true) × (b ≡ true) × (v ≡ n)
picked true q a b v n h = absurd cc
picked false false a b v n h = absurd cc
picked false true false b v n h = absurd cc
picked false true true false v n h = absurd cc
picked false true true true v n h = (refl, refl, refl, refl, cc)

le-of : (m n : ℕ) → nat_le m n ≡ true → m ≤ n
le-of m n h = grind arith

some-digit : (n : ℕ) (t : Bool) → (not (n == 0) && t) ≡ true → (0 < n) × (t ≡ true)
some-digit zero t h = absurd cc
some-digit (suc n) t h = (omega arith, later n t h)
  where
    later : (n : ℕ) (t : Bool) → (not (suc n == 0) && t) ≡ true → t ≡ true
    later n t h = let fine : (suc n == 0) ≡ false = grind arith in sym (ap (λ (e : Bool). not e && t) fine) ∙ h

pub natural_read : (low high : ℕ) (token : List ℕ) (n : ℕ) → high < 10 ^ 64 → natural_in low high token ≡ Some n → (token ≡ decimal n) × (low ≤ n) × (n ≤ high)
natural_read low high token n small h =
    let p = picked (is_padded token) (is_number token) (nat_le low (digits_value 10 token)) (nat_le (digits_value 10 token) high) (digits_value 10 token) n h in
    let digits = some-digit (length token) (all_ascii_digits token) p.1 in
    let all = (numerals_by_value (λ ds. all_ascii_digits ds ≡ true) tells_all_ascii_digits).to token digits.1 in
    let below = le-of (digits_value 10 token) high p.3 in
    let above = le-of low (digits_value 10 token) p.2 in
    let same = p.4 in
    (sym (decimal-value token all digits.0 p.0 (omega arith)) ∙ ap decimal same, omega arith, omega arith)

-- ---- the bytes of numbers

digit-apart : (d mark : ℕ) → digit_value d < 10 → mark < 48 ⊎ 57 < mark → (d == mark) ≡ false
digit-apart d mark h (inl low) = grind arith
digit-apart d mark h (inr high) = grind arith

digits-apart : (mark : ℕ) (ds : List ℕ) → AllDigits 10 ds → mark < 48 ⊎ 57 < mark → list_any (λ b. b == mark) ds ≡ false
digits-apart mark [] h far = refl
digits-apart mark (d ∷ ds) h far = rw (digit-apart d mark h.0 far, digits-apart mark ds h.1 far) refl

pub decimal_apart : (mark n : ℕ) → n < 10 ^ 64 → mark < 48 ⊎ 57 < mark → list_any (λ b. b == mark) (decimal n) ≡ false
decimal_apart mark n h far = digits-apart mark (decimal n) (decimal_is_IsNumeral_wide n h).0.1 far
