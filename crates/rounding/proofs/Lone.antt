-- Where a weighted sum is 0, no number alone is no multiple.
use Rattle.std.proofs.Common.{◌≡◌, ◌≢◌, ◌⊎◌, inl, inr, ℕ, zero, suc, ◌<◌, ◌==◌, true, false, ℤ, pos, negsuc, neg_ℤ, ◌+ℤ◌, ◌-ℤ◌, ◌*ℤ◌, arith, refl, ap, sym, subst, ◌∙◌}
use Rattle.std.proofs.lemmas.Int.{ints}
use Rattle.std.proofs.lemmas.Bool.Decides.{Decides-eqb, nat_tests}
use Rattle.sdc_base.specs.Totals.{sum_below}
use Rattle.sdc_base.specs.Systems.{Numbers}
use Rattle.sdc_base.specs.Roundings.{IsMultiple}
use Rattle.sdc_base.proofs.WholeNumbers.{distrib_right, minus_times, assoc}

none_multiple : (base : ℤ) → IsMultiple base (pos 0)
none_multiple base = (pos 0, omega (arith, ints))

sum_multiple : (base a b : ℤ) → IsMultiple base a → IsMultiple base b → IsMultiple base (a +ℤ b)
sum_multiple base a b (k, is) (l, so) = (k +ℤ l, omega (arith, ints, is, so, distrib_right base k l))

minus_multiple : (base a : ℤ) → IsMultiple base a → IsMultiple base (neg_ℤ a)
minus_multiple base a (k, is) = (neg_ℤ k, ap neg_ℤ is ∙ sym (minus_times k base))

times_multiple : (base k a : ℤ) → IsMultiple base a → IsMultiple base (k *ℤ a)
times_multiple base k a (l, is) = (k *ℤ l, ap (λ z. k *ℤ z) is ∙ sym (assoc k l base))

-- a sum whose numbers are all multiples
all_multiples : (n : ℕ) (base : ℤ) (f : ℕ → ℤ) → ((c : ℕ) → c < n → IsMultiple base (f c)) → IsMultiple base (sum_below n f)
all_multiples zero base f each = none_multiple base
all_multiples (suc n) base f each = sum_multiple base (sum_below n f) (f n) (all_multiples n base f (λ c below. each c (omega arith))) (each n (omega arith))

-- a sum whose numbers are all multiples but one, less that one
but_one : (n cell : ℕ) (base : ℤ) (f : ℕ → ℤ) → cell < n → ((c : ℕ) → c < n → c ≢ cell → IsMultiple base (f c)) → IsMultiple base (sum_below n f -ℤ f cell)
but_one zero cell base f below each = absurd (omega arith)
but_one (suc n) cell base f below each =
    elim (cell == n) as (λ b. (cell == n) ≡ b → IsMultiple base ((sum_below n f +ℤ f n) -ℤ f cell)) [
      | true ↦ λ test.
          let same : cell ≡ n = (Decides-eqb cell n).0 test in
          let rest : IsMultiple base (sum_below n f) = all_multiples n base f (λ c under. each c (omega arith) (λ is. absurd (omega (arith, is, same, under)))) in
          let value : (sum_below n f +ℤ f n) -ℤ f cell ≡ sum_below n f = omega (arith, ints, ap f same) in
          subst (IsMultiple base) (sym value) rest
      | false ↦ λ test.
          let other : n ≢ cell = grind (arith, nat_tests, test) in
          let less : cell < n = omega (arith, other, below) in
          let rest = sum_multiple base (sum_below n f -ℤ f cell) (f n) (but_one n cell base f less (λ c under. each c (omega arith))) (each n (omega arith) other) in
          let value : (sum_below n f +ℤ f n) -ℤ f cell ≡ (sum_below n f -ℤ f cell) +ℤ f n = omega (arith, ints) in
          subst (IsMultiple base) (sym value) rest
    ] refl

-- where a weighted sum of numbers is 0 and all but one are multiples or have the weight 0, that one, with weight 1 or -1, is one
pub lone_weighted : (cells : ℕ) (base : ℤ) (weights numbers : Numbers) (cell : ℕ) → cell < cells → sum_below cells (λ c. weights c *ℤ numbers c) ≡ pos 0 → (weights cell ≡ pos 1) ⊎ (weights cell ≡ negsuc 0)
    → ((other : ℕ) → other < cells → other ≢ cell → (weights other ≡ pos 0) ⊎ IsMultiple base (numbers other)) → IsMultiple base (numbers cell)
lone_weighted cells base weights numbers cell below all once others =
    let f : ℕ → ℤ = λ c. weights c *ℤ numbers c in
    let rest : IsMultiple base (sum_below cells f -ℤ f cell) = but_one cells cell base f below (λ c under other. added c (others c under other)) in
    own once (subst (IsMultiple base) (omega (arith, ints, all)) rest)
  where
    added : (c : ℕ) → (weights c ≡ pos 0) ⊎ IsMultiple base (numbers c) → IsMultiple base (weights c *ℤ numbers c)
    added c (inl none) = (pos 0, ap (λ k. k *ℤ numbers c) none ∙ omega (arith, ints))
    added c (inr is) = times_multiple base (weights c) (numbers c) is

    own : (weights cell ≡ pos 1) ⊎ (weights cell ≡ negsuc 0) → IsMultiple base (neg_ℤ (weights cell *ℤ numbers cell)) → IsMultiple base (numbers cell)
    own (inl up) is = subst (IsMultiple base) (let once : weights cell *ℤ numbers cell ≡ numbers cell = ap (λ k. k *ℤ numbers cell) up ∙ omega (arith, ints) in omega (arith, ints, once)) (minus_multiple base (neg_ℤ (weights cell *ℤ numbers cell)) is)
    own (inr down) is = subst (IsMultiple base) (let once : weights cell *ℤ numbers cell ≡ neg_ℤ (numbers cell) = ap (λ k. k *ℤ numbers cell) down ∙ minus_times (pos 1) (numbers cell) ∙ omega (arith, ints) in omega (arith, ints, once)) is
