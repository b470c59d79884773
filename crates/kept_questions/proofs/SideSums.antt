-- A limit less a list.
use Rattle.std.proofs.Common.{◌≡◌, ℕ, zero, suc, ◌+◌, ◌==◌, Bool, true, false, List, [], ◌∷◌, ℤ, pos, neg_ℤ, ◌+ℤ◌, ◌-ℤ◌, ◌*ℤ◌, arith, refl, ap, ◌∙◌, if◌then◌else◌}
use Rattle.std.proofs.lemmas.Int.{ints}
use Rattle.std.proofs.lemmas.Bool.Decides.{Decides-eqb, nat_tests}
use Rattle.sdc_base.specs.Forms.{Term, coefficient}
use Rattle.sdc_base.proofs.WholeNumbers.{minus_times}
use Rattle.tableau.specs.OptimalPairs.{IsNotBelowZeros}
use Rattle.kept_questions.specs.TermLists.{bound_at}
use Rattle.kept_questions.proofs.TermSums.{cons_at, one_at, times_if}

one_if : (b : Bool) (den : ℤ) → (if b then den else pos 0) ≡ den *ℤ (if b then pos 1 else pos 0)
one_if true den = omega (arith, ints)
one_if false den = omega (arith, ints, times_if false den (pos 1))

limit_list : (den bound : ℤ) (own i : ℕ) → coefficient ((0, den *ℤ bound) ∷ (own + 1, den) ∷ []) i ≡ den *ℤ bound_at bound own i
limit_list den bound own zero =
    let other : (own + 1 == 0) ≡ false = grind (arith, nat_tests) in
    let none : (if own + 1 == 0 then den else pos 0) ≡ pos 0 = rw other refl in
    omega (arith, ints, cons_at (0, den *ℤ bound) ((own + 1, den) ∷ []) 0, one_at (own + 1, den) 0, none)
limit_list den bound own (suc s) =
    let first : (0 == suc s) ≡ false = grind (arith, nat_tests) in
    let none : (if 0 == suc s then den *ℤ bound else pos 0) ≡ pos 0 = rw first refl in
    let same : (own + 1 == suc s) ≡ (own == s) =
    elim (own == s) as (λ b. (own == s) ≡ b → (own + 1 == suc s) ≡ b) [
      | true ↦ λ is. let eq : own ≡ s = (Decides-eqb own s).0 is in grind (arith, nat_tests)
      | false ↦ λ is. grind (arith, nat_tests)
    ] refl in
    let own_one : (if own + 1 == suc s then den else pos 0) ≡ den *ℤ (if own == s then pos 1 else pos 0) = ap (λ (b : Bool). if b then den else pos 0) same ∙ one_if (own == s) den in
    omega (arith, ints, cons_at (0, den *ℤ bound) ((own + 1, den) ∷ []) (suc s), one_at (own + 1, den) (suc s), none, own_one)

pub gap_at : (den bound times far less : ℤ) (own next : ℕ) (two list terms : List Term) (i : ℕ) → far ≡ den *ℤ bound → next ≡ own + 1 → less ≡ neg_ℤ times → two ≡ (0, far) ∷ (next, den) ∷ [] →
    coefficient terms i ≡ coefficient two i +ℤ less *ℤ coefficient list i → coefficient terms i ≡ den *ℤ bound_at bound own i -ℤ times *ℤ coefficient list i
gap_at den bound times far less own next two list terms i far_is next_is less_is two_is is =
    let limit : coefficient two i ≡ den *ℤ bound_at bound own i = ap (λ ts. coefficient ts i) two_is ∙ ap (λ (z : ℤ). coefficient ((0, z) ∷ (next, den) ∷ []) i) far_is ∙ ap (λ (n : ℕ). coefficient ((0, den *ℤ bound) ∷ (n, den) ∷ []) i) next_is ∙ limit_list den bound own i in
    let turned : less *ℤ coefficient list i ≡ neg_ℤ (times *ℤ coefficient list i) = ap (λ z. z *ℤ coefficient list i) less_is ∙ minus_times times (coefficient list i) in
    omega (arith, ints, is, limit, turned)

-- the same numbers
pub not_below_same : (n : ℕ) (g h : ℕ → ℤ) → ((i : ℕ) → g i ≡ h i) → IsNotBelowZeros n g → IsNotBelowZeros n h
not_below_same n g h same up i inside before = omega (arith, ints, same i, up i inside (λ j less. same j ∙ before j less))

pub at_limit : (x y z : ℤ) → z ≡ x -ℤ y → z ≡ pos 0 → y ≡ x
at_limit x y z is none = omega (arith, ints, is, none)
