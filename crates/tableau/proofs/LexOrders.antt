-- Lists that are lexicographically 0 or above it.
use Rattle.std.proofs.Common.{◌≡◌, inl, inr, ◌⊎◌, ℕ, zero, suc, ◌+◌, ◌<◌, List, [], ◌∷◌, length, map, get_or, ℤ, pos, ◌+ℤ◌, ◌*ℤ◌, ◌<ℤ◌, ◌≤ℤ◌, arith, ap, sym, ◌∙◌}
use Rattle.std.proofs.lemmas.Int.{ints}
use Rattle.tableau.specs.RowLists.{IsLexPositive}
use Rattle.tableau.specs.Tables.{dot}
use Rattle.tableau.proofs.Exchanges.{times_none}
use Rattle.tableau.proofs.Rising.{product_above, none_times, by_sign}

-- of so many numbers from a place on, the first that isn't 0, if there is one, is above 0
abbrev pub IsLexFromZero : ℕ → ℕ → (ℕ → ℤ) → Type 0
IsLexFromZero zero from g = Unit {0}
IsLexFromZero (suc n) from g = (pos 0 <ℤ g from) ⊎ ((g from ≡ pos 0) × IsLexFromZero n (suc from) g)

pub from_positive : (n from : ℕ) (g : ℕ → ℤ) → IsLexPositive n from g → IsLexFromZero n from g
from_positive zero from g above = tt
from_positive (suc n) from g above = elim above as (λ _. IsLexFromZero (suc n) from g) [ inl more ↦ inl more | inr later ↦ inr (later.0, from_positive n (suc from) g later.1) ]

pub from_zeros : (n from : ℕ) (g : ℕ → ℤ) → ((i : ℕ) → g i ≡ pos 0) → IsLexFromZero n from g
from_zeros zero from g none = tt
from_zeros (suc n) from g none = inr (none from, from_zeros n (suc from) g none)

pub from_same : (n from : ℕ) (g h : ℕ → ℤ) → ((i : ℕ) → g i ≡ h i) → IsLexFromZero n from g → IsLexFromZero n from h
from_same zero from g h same up = tt
from_same (suc n) from g h same up =
    elim up as (λ _. IsLexFromZero (suc n) from h) [
      | inl more ↦ inl (omega (arith, ints, same from))
      | inr later ↦ inr (sym (same from) ∙ later.0, from_same n (suc from) g h same later.1)
    ]

from_scaled : (n from : ℕ) (a : ℤ) (g : ℕ → ℤ) → pos 1 ≤ℤ a → IsLexFromZero n from g → IsLexFromZero n from (λ i. a *ℤ g i)
from_scaled zero from a g above up = tt
from_scaled (suc n) from a g above up =
    elim up as (λ _. IsLexFromZero (suc n) from (λ i. a *ℤ g i)) [
      | inl more ↦ inl (omega (arith, ints, product_above a (g from) above more))
      | inr later ↦ inr (ap (λ t. a *ℤ t) later.0 ∙ times_none a, from_scaled n (suc from) a g above later.1)
    ]

pub from_times : (n from : ℕ) (a : ℤ) (g : ℕ → ℤ) → pos 0 ≤ℤ a → IsLexFromZero n from g → IsLexFromZero n from (λ i. a *ℤ g i)
from_times n from a g also up = by_sign a also (λ above. from_scaled n from a g above up) (λ none. from_zeros n from (λ i. a *ℤ g i) (λ i. none_times a (g i) none))

pub from_plus : (n from : ℕ) (g h : ℕ → ℤ) → IsLexFromZero n from g → IsLexFromZero n from h → IsLexFromZero n from (λ i. g i +ℤ h i)
from_plus zero from g h up also = tt
from_plus (suc n) from g h up also =
    elim up as (λ _. IsLexFromZero (suc n) from (λ i. g i +ℤ h i)) [
      | inl more ↦ elim also as (λ _. IsLexFromZero (suc n) from (λ i. g i +ℤ h i)) [ inl too ↦ inl (omega (arith, ints)) | inr later ↦ inl (omega (arith, ints, later.0)) ]
      | inr later ↦ elim also as (λ _. IsLexFromZero (suc n) from (λ i. g i +ℤ h i)) [
        | inl too ↦ inl (omega (arith, ints, later.0))
        | inr also_later ↦ inr (omega (arith, ints, later.0, also_later.0), from_plus n (suc from) g h later.1 also_later.1)
      ]
    ]

-- lists weighed by numbers from 0
pub from_dot : (n : ℕ) (row : List ℤ) (others : List ℕ) (lists : ℕ → ℕ → ℤ) → ((k : ℕ) → k < length others → pos 0 ≤ℤ get_or row k (pos 0)) → ((v : ℕ) → IsLexFromZero n 0 (lists v)) → IsLexFromZero n 0 (λ i. dot row (map (λ v. lists v i) others))
from_dot n [] others lists weights up = from_zeros n 0 (λ _. pos 0) (λ i. omega (arith, ints))
from_dot n (a ∷ row) [] lists weights up = from_zeros n 0 (λ _. pos 0) (λ i. omega (arith, ints))
from_dot n (a ∷ row) (v ∷ others) lists weights up =
    from_plus n 0 (λ i. a *ℤ lists v i) (λ i. dot row (map (λ u. lists u i) others)) (from_times n 0 a (lists v) (weights 0 (omega arith)) (up v))
    (from_dot n row others lists (λ k below. weights (suc k) (omega arith)) up)

plain : (from : ℕ) → from + 0 ≡ from
plain from = omega arith

next : (from i : ℕ) → from + suc i ≡ suc from + i
next from i = omega arith

zeros_on : (n from : ℕ) (g : ℕ → ℤ) → g from ≡ pos 0 → ((i : ℕ) → i < n → g (suc from + i) ≡ pos 0) → (i : ℕ) → i < suc n → g (from + i) ≡ pos 0
zeros_on n from g here later zero below = ap g (plain from) ∙ here
zeros_on n from g here later (suc i) below = ap g (next from i) ∙ later i (omega arith)

-- where a list and its opposite are both 0 or above it, it is 0
pub both_zeros : (n from : ℕ) (g h : ℕ → ℤ) → ((i : ℕ) → h i +ℤ g i ≡ pos 0) → IsLexFromZero n from g → IsLexFromZero n from h → (i : ℕ) → i < n → g (from + i) ≡ pos 0
both_zeros zero from g h opposed up also i below = absurd (omega arith)
both_zeros (suc n) from g h opposed up also i below =
    elim up as (λ _. g (from + i) ≡ pos 0) [
      | inl more ↦ elim also as (λ _. g (from + i) ≡ pos 0) [ inl too ↦ absurd (omega (arith, ints, opposed from)) | inr later ↦ absurd (omega (arith, ints, opposed from, later.0)) ]
      | inr later ↦ elim also as (λ _. g (from + i) ≡ pos 0) [
        | inl too ↦ absurd (omega (arith, ints, opposed from, later.0))
        | inr also_later ↦ zeros_on n from g later.0 (both_zeros n (suc from) g h opposed later.1 also_later.1) i below
      ]
    ]

pub first_from_zero : (n : ℕ) (g : ℕ → ℤ) → IsLexFromZero (suc n) 0 g → pos 0 ≤ℤ g 0
first_from_zero n g up = elim up as (λ _. pos 0 ≤ℤ g 0) [ inl more ↦ omega (arith, ints) | inr later ↦ omega (arith, ints, later.0) ]
