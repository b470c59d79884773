-- Lists that are lexicographically 0 or above it, place by place, and sums of them.
use Rattle.std.proofs.Common.{◌≡◌, inl, inr, ℕ, zero, suc, ◌+◌, ◌<◌, ℤ, pos, ◌-ℤ◌, ◌*ℤ◌, ◌≤ℤ◌, arith, refl, ap, sym, ◌∙◌}
use Rattle.std.proofs.lemmas.Int.{ints}
use Rattle.sdc_base.specs.Totals.{sum_below}
use Rattle.sdc_base.proofs.WholeNumbers.{distrib}
use Rattle.tableau.proofs.Exchanges.{times_none}
use Rattle.tableau.proofs.LexOrders.{IsLexFromZero, from_plus, from_zeros}
use Rattle.tableau.proofs.Rising.{by_sign}

here : (from : ℕ) → from + 0 ≡ from
here from = omega arith

on : (from i : ℕ) → from + suc i ≡ suc from + i
on from i = omega arith

before_on : (from i : ℕ) (g : ℕ → ℤ) → ((j : ℕ) → j < suc i → g (from + j) ≡ pos 0) → (j : ℕ) → j < i → g (suc from + j) ≡ pos 0
before_on from i g before j below = ap g (sym (on from j)) ∙ before (suc j) (omega arith)

-- where all before a place are 0 the number there is not below 0
pub lex_at : (n from : ℕ) (g : ℕ → ℤ) → IsLexFromZero n from g → (i : ℕ) → i < n → ((j : ℕ) → j < i → g (from + j) ≡ pos 0) → pos 0 ≤ℤ g (from + i)
lex_at zero from g up i below before = absurd (omega arith)
lex_at (suc n) from g up zero below before =
    elim up as (λ _. pos 0 ≤ℤ g (from + 0)) [ inl more ↦ omega (arith, ints, ap g (here from)) | inr later ↦ omega (arith, ints, ap g (here from), later.0) ]
lex_at (suc n) from g up (suc i) below before =
    elim up as (λ _. pos 0 ≤ℤ g (from + suc i)) [
      | inl more ↦ absurd (omega (arith, ints, before 0 (omega arith), ap g (here from)))
      | inr later ↦ omega (arith, ints, ap g (on from i), lex_at n (suc from) g later.1 i (omega arith) (before_on from i g before))
    ]

zeros_with : (from i : ℕ) (g : ℕ → ℤ) → g from ≡ pos 0 → ((j : ℕ) → j < i → g (suc from + j) ≡ pos 0) → (j : ℕ) → j < suc i → g (from + j) ≡ pos 0
zeros_with from i g first later zero below = ap g (here from) ∙ first
zeros_with from i g first later (suc j) below = ap g (on from j) ∙ later j (omega arith)

-- and so a list is
pub lex_by : (n from : ℕ) (g : ℕ → ℤ) → ((i : ℕ) → i < n → ((j : ℕ) → j < i → g (from + j) ≡ pos 0) → pos 0 ≤ℤ g (from + i)) → IsLexFromZero n from g
lex_by zero from g each = tt
lex_by (suc n) from g each =
    let first : pos 0 ≤ℤ g from = omega (arith, ints, each 0 (omega arith) (λ j below. absurd (omega arith)), ap g (here from)) in
    by_sign (g from) first
    (λ above. inl (omega (arith, ints)))
    (λ none. inr (none, lex_by n (suc from) g (λ i below before. omega (arith, ints, ap g (on from i), each (suc i) (omega arith) (zeros_with from i g none before)))))

-- the same list within its size
pub lex_same : (n : ℕ) (g h : ℕ → ℤ) → ((i : ℕ) → i < n → g i ≡ h i) → IsLexFromZero n 0 g → IsLexFromZero n 0 h
lex_same n g h same up =
    lex_by n 0 h
    (λ i below before.
    let plain : (j : ℕ) → 0 + j ≡ j = λ j. omega arith in
    let up_here : pos 0 ≤ℤ g (0 + i) = lex_at n 0 g up i below (λ j j_below. ap g (plain j) ∙ same j (omega arith) ∙ sym (ap h (plain j)) ∙ before j j_below) in
    omega (arith, ints, up_here, ap g (plain i), ap h (plain i), same i below))

-- numbers none of which is below 0
pub lex_each : (n : ℕ) (g : ℕ → ℤ) → ((i : ℕ) → pos 0 ≤ℤ g i) → IsLexFromZero n 0 g
lex_each n g each = lex_by n 0 g (λ i below before. each (0 + i))

-- a sum of lists
pub lex_sum : (n size : ℕ) (g : ℕ → ℕ → ℤ) → ((k : ℕ) → k < n → IsLexFromZero size 0 (g k)) → IsLexFromZero size 0 (λ i. sum_below n (λ k. g k i))
lex_sum zero size g each = from_zeros size 0 (λ _. pos 0) (λ i. refl)
lex_sum (suc n) size g each = from_plus size 0 (λ i. sum_below n (λ k. g k i)) (g n) (lex_sum n size g (λ k below. each k (omega arith))) (each n (omega arith))

-- a sum less a multiple of another
pub sum_less : (n : ℕ) (d : ℤ) (f g : ℕ → ℤ) → sum_below n (λ k. f k -ℤ d *ℤ g k) ≡ sum_below n f -ℤ d *ℤ sum_below n g
sum_less zero d f g = omega (arith, ints, times_none d)
sum_less (suc n) d f g = omega (arith, ints, sum_less n d f g, distrib d (sum_below n g) (g n))
