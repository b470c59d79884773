-- The sign of a list, which is that of its first number that isn't 0.
use Rattle.std.proofs.Common.{◌≡◌, ℕ, zero, suc, ◌<◌, Bool, true, false, ℤ, pos, neg_ℤ, ◌≤ℤ◌, int_lt, arith, refl, ap, sym, ◌∙◌, if◌then◌else◌}
use Rattle.std.specs.Ordering.{int_eq}
use Rattle.std.proofs.lemmas.Int.{ints}
use Rattle.std.proofs.lemmas.Bool.Decides.{Decides-int_eq}
use Rattle.tableau.specs.OptimalPairs.{IsNotBelowZeros}

-- of so many numbers the first that isn't 0, if there is one, is below 0
abbrev pub is_below : ℕ → (ℕ → ℤ) → Bool
is_below zero g = false
is_below (suc n) g = if int_eq (g 0) (pos 0) then is_below n (λ i. g (suc i)) else int_lt (g 0) (pos 0)

pub not_below : (n : ℕ) (g : ℕ → ℤ) → is_below n g ≡ false → IsNotBelowZeros n g
not_below zero g is i inside before = absurd (omega arith)
not_below (suc n) g is zero inside before =
    elim (int_eq (g 0) (pos 0)) as (λ b. int_eq (g 0) (pos 0) ≡ b → (if b then is_below n (λ i. g (suc i)) else int_lt (g 0) (pos 0)) ≡ false → pos 0 ≤ℤ g 0) [
      | true ↦ λ same _. let none : g 0 ≡ pos 0 = (Decides-int_eq (g 0) (pos 0)).0 same in omega (arith, ints, none)
      | false ↦ λ _ less. grind (arith, ints)
    ] refl is
not_below (suc n) g is (suc i) inside before =
    let same : int_eq (g 0) (pos 0) ≡ true = (Decides-int_eq (g 0) (pos 0)).1 (before 0 (omega arith)) in
    let rest : is_below n (λ i. g (suc i)) ≡ false = sym (ap (λ b. if b then is_below n (λ i. g (suc i)) else int_lt (g 0) (pos 0)) same) ∙ is in
    not_below n (λ i. g (suc i)) rest i (omega arith) (λ j less. before (suc j) (omega arith))

pub turned_not_below : (n : ℕ) (g : ℕ → ℤ) → is_below n g ≡ true → IsNotBelowZeros n (λ i. neg_ℤ (g i))
turned_not_below zero g is i inside before = absurd (omega arith)
turned_not_below (suc n) g is zero inside before =
    elim (int_eq (g 0) (pos 0)) as (λ b. int_eq (g 0) (pos 0) ≡ b → (if b then is_below n (λ i. g (suc i)) else int_lt (g 0) (pos 0)) ≡ true → pos 0 ≤ℤ neg_ℤ (g 0)) [
      | true ↦ λ same _. let none : g 0 ≡ pos 0 = (Decides-int_eq (g 0) (pos 0)).0 same in omega (arith, ints, none)
      | false ↦ λ _ less. grind (arith, ints)
    ] refl is
turned_not_below (suc n) g is (suc i) inside before =
    let back : (z : ℤ) → neg_ℤ z ≡ pos 0 → z ≡ pos 0 = λ z is. omega (arith, ints, is) in
    let same : int_eq (g 0) (pos 0) ≡ true = (Decides-int_eq (g 0) (pos 0)).1 (back (g 0) (before 0 (omega arith))) in
    let rest : is_below n (λ i. g (suc i)) ≡ true = sym (ap (λ b. if b then is_below n (λ i. g (suc i)) else int_lt (g 0) (pos 0)) same) ∙ is in
    turned_not_below n (λ i. g (suc i)) rest i (omega arith) (λ j less. before (suc j) (omega arith))

-- the same numbers
pub not_below_same : (n : ℕ) (g h : ℕ → ℤ) → ((i : ℕ) → i < n → g i ≡ h i) → IsNotBelowZeros n g → IsNotBelowZeros n h
not_below_same n g h same up i inside before = omega (arith, ints, same i inside, up i inside (λ j less. same j (omega arith) ∙ before j less))

pub not_below_zeros : (n : ℕ) → IsNotBelowZeros n (λ i. pos 0)
not_below_zeros n i inside before = omega (arith, ints)
