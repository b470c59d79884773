-- The texts of ends: which they are, and which marks they don't have.
use Rattle.std.proofs.Common.{◌≡◌, ℕ, ◌<◌, ◌≤◌, ◌==◌, ◌&&◌, ◌||◌, ◌⊎◌, inl, inr, Bool, true, false, if◌then◌else◌, List, [], ◌∷◌, ◌++◌, Option, None, Some, refl, ap, ap₂, sym, subst, ◌∙◌, append_assoc, arith, decimal}
use Rattle.std.specs.Prelude.{codes}
use Rattle.std.specs.List.{after_first, before_first, list_any}
use Rattle.std.specs.Option.{is_some}
use Rattle.std.specs.Str.{bytes_eq}
use Rattle.std.proofs.lemmas.List.Folds.{list_any-append}
use Rattle.certificate.specs.Numerals.{natural_in}
use Rattle.cell_listing.proofs.Numerals.{decimal_apart, natural_read, natural_spelled}
use Rattle.cell_listing.proofs.Marks.{after_at, before_at, cut_again, mark_in, same_bytes, equal_bytes}
use Rattle.cell_intervals.specs.IntervalTexts.{fraction_text}
use Rattle.cell_listing.specs.IntervalFiles.{greatest, is_fraction, is_natural, is_slash, is_upper_end, IsFraction, IsUpperEnd}

-- ---- tests

pub split : (b : Bool) (P : Type 0) → (b ≡ true → P) → (b ≡ false → P) → P
split true P yes_it no_it = yes_it refl
split false P yes_it no_it = no_it refl

pub and_parts : (a b : Bool) → (a && b) ≡ true → (a ≡ true) × (b ≡ true)
and_parts true b h = (refl, h)
and_parts false b h = absurd cc

or_parts : (a b : Bool) → (a || b) ≡ true → (a ≡ true) ⊎ (b ≡ true)
or_parts true b h = inl refl
or_parts false b h = inr h

or_true : (a : Bool) → (a || true) ≡ true
or_true true = refl
or_true false = refl

some_of : {T : Type 0} (o : Option T) → is_some o ≡ true → (x : T) × (o ≡ Some x)
some_of None h = absurd cc
some_of (Some x) h = (x, refl)

-- ---- numbers

natural_text : (low : ℕ) (text : List ℕ) → is_natural low text ≡ true → (n : ℕ) × (text ≡ decimal n) × (low ≤ n) × (n ≤ greatest)
natural_text low text h =
    let it = some_of (natural_in low greatest text) h in
    let read = natural_read low greatest text it.0 (omega arith) it.1 in
    (it.0, read.0, read.1, read.2)

natural_good : (low n : ℕ) → low ≤ n → n ≤ greatest → is_natural low (decimal n) ≡ true
natural_good low n above within = rw (natural_spelled low greatest n above within (omega arith)) refl

not_one : (den : ℕ) → 2 ≤ den → (den == 1) ≡ false
not_one den large = grind arith

is_one : (den : ℕ) → (den == 1) ≡ true → den ≡ 1
is_one den test = grind arith

above_one : (den : ℕ) → (den == 1) ≡ false → 1 ≤ den → 2 ≤ den
above_one den test from = grind arith

-- a fraction whose denominator isn't 1
divided : (num den : ℕ) → 2 ≤ den → fraction_text num den ≡ decimal num ++ 47 ∷ decimal den
divided num den large = rw (not_one den large) (append_assoc (decimal num) (47 ∷ []) (decimal den))

-- ---- fractions

pub fraction_is : (text : List ℕ) → is_fraction text ≡ true → IsFraction text
fraction_is text h =
    let num : List ℕ = before_first is_slash text in
    let den : List ℕ = after_first is_slash text in
    split (list_any is_slash text) (IsFraction text)
    (λ slash.
    let good : (is_natural 0 num && is_natural 2 den) ≡ true = sym (ap (λ (b : Bool). if b then is_natural 0 num && is_natural 2 den else is_natural 0 text) slash) ∙ h in
    let parts = and_parts (is_natural 0 num) (is_natural 2 den) good in
    let n = natural_text 0 num parts.0 in
    let d = natural_text 2 den parts.1 in
    record {
      num = n.0;
      den = d.0;
      num_fits = n.3;
      den_fits = d.3;
      den_from_1 = omega (arith, d.2);
      text_is = cut_again 47 text slash ∙ ap₂ (λ (a b : List ℕ). a ++ 47 ∷ b) n.1 d.1 ∙ sym (divided n.0 d.0 d.2);
    })
    (λ none.
    let good : is_natural 0 text ≡ true = sym (ap (λ (b : Bool). if b then is_natural 0 num && is_natural 2 den else is_natural 0 text) none) ∙ h in
    let n = natural_text 0 text good in
    record { num = n.0; den = 1; num_fits = n.3; den_fits = omega arith; den_from_1 = omega arith; text_is = n.1 })

-- a fraction is a whole number, or one that is divided by another
whole_or_divided : (text : List ℕ) (it : IsFraction text) → (text ≡ decimal it.num) ⊎ ((2 ≤ it.den) × (text ≡ decimal it.num ++ 47 ∷ decimal it.den))
whole_or_divided text it =
    split (it.den == 1) ((text ≡ decimal it.num) ⊎ ((2 ≤ it.den) × (text ≡ decimal it.num ++ 47 ∷ decimal it.den)))
    (λ one. inl (it.text_is ∙ ap (λ (b : Bool). if b then decimal it.num else decimal it.num ++ codes "/" ++ decimal it.den) one))
    (λ more. let large = above_one it.den more it.den_from_1 in inr (large, it.text_is ∙ divided it.num it.den large))

digits_apart : (mark n : ℕ) → mark < 48 → n ≤ greatest → list_any (λ b. b == mark) (decimal n) ≡ false
digits_apart mark n low within = decimal_apart mark n (omega (arith, within)) (inl low)

whole_good : (n : ℕ) → n ≤ greatest → is_fraction (decimal n) ≡ true
whole_good n within = rw (digits_apart 47 n (omega arith) within) (natural_good 0 n (omega arith) within)

divided_good : (num den : ℕ) → num ≤ greatest → den ≤ greatest → 2 ≤ den → is_fraction (decimal num ++ 47 ∷ decimal den) ≡ true
divided_good num den n d large =
    rw (mark_in 47 (decimal num) (decimal den), before_at 47 (decimal num) (decimal den) (digits_apart 47 num (omega arith) n), after_at 47 (decimal num) (decimal den) (digits_apart 47 num (omega arith) n), natural_good 0 num (omega arith) n)
    (natural_good 2 den large d)

pub fraction_good : (text : List ℕ) → IsFraction text → is_fraction text ≡ true
fraction_good text it =
    elim (whole_or_divided text it) as (λ _. is_fraction text ≡ true) [
      | inl is ↦ subst (λ (t : List ℕ). is_fraction t ≡ true) (sym is) (whole_good it.num it.num_fits)
      | inr is ↦ subst (λ (t : List ℕ). is_fraction t ≡ true) (sym is.1) (divided_good it.num it.den it.num_fits it.den_fits is.0)
    ]

slash_apart : (mark : ℕ) → mark < 47 → (47 == mark) ≡ false
slash_apart mark low = grind arith

divided_apart : (mark num den : ℕ) → mark < 47 → num ≤ greatest → den ≤ greatest → list_any (λ b. b == mark) (decimal num ++ 47 ∷ decimal den) ≡ false
divided_apart mark num den low n d =
    list_any-append (λ b. b == mark) (decimal num) (47 ∷ decimal den)
    ∙ ap₂ (λ (a b : Bool). a || b) (digits_apart mark num (omega (arith, low)) n) (ap₂ (λ (a b : Bool). a || b) (slash_apart mark low) (digits_apart mark den (omega (arith, low)) d))

-- a fraction has no mark that comes before the slash
pub fraction_apart : (mark : ℕ) (text : List ℕ) → mark < 47 → IsFraction text → list_any (λ b. b == mark) text ≡ false
fraction_apart mark text low it =
    elim (whole_or_divided text it) as (λ _. list_any (λ b. b == mark) text ≡ false) [
      | inl is ↦ ap (list_any (λ b. b == mark)) is ∙ digits_apart mark it.num (omega (arith, low)) it.num_fits
      | inr is ↦ ap (list_any (λ b. b == mark)) is.1 ∙ divided_apart mark it.num it.den low it.num_fits it.den_fits
    ]

-- ---- upper ends

pub upper_is : (text : List ℕ) → is_upper_end text ≡ true → IsUpperEnd text
upper_is text h =
    elim (or_parts (is_fraction text) (bytes_eq text (codes "open")) h) as (λ _. IsUpperEnd text) [
      | inl fraction ↦ inl (fraction_is text fraction)
      | inr word ↦ inr (equal_bytes text (codes "open") word)
    ]

pub upper_good : (text : List ℕ) → IsUpperEnd text → is_upper_end text ≡ true
upper_good text (inl it) = ap (λ (b : Bool). b || bytes_eq text (codes "open")) (fraction_good text it)
upper_good text (inr is) = ap (λ (b : Bool). is_fraction text || b) (ap (λ (t : List ℕ). bytes_eq t (codes "open")) is ∙ same_bytes (codes "open")) ∙ or_true (is_fraction text)

pub upper_apart : (mark : ℕ) (text : List ℕ) → mark < 47 → list_any (λ b. b == mark) (codes "open") ≡ false → IsUpperEnd text → list_any (λ b. b == mark) text ≡ false
upper_apart mark text low none (inl it) = fraction_apart mark text low it
upper_apart mark text low none (inr is) = ap (list_any (λ b. b == mark)) is ∙ none
