-- Chains of tables.
use Rattle.std.proofs.Common.{◌≡◌, ℕ, zero, suc, ◌+◌, inl, inr, [], ◌∷◌, ◌++◌, map, length, ℤ, pos, neg_ℤ, ◌+ℤ◌, ◌-ℤ◌, ◌*ℤ◌, ◌≤ℤ◌, arith, ap, sym, ◌∙◌}
use Rattle.std.proofs.lemmas.Int.{ints}
use Rattle.std.proofs.lemmas.List.{length-map}
use Rattle.sdc_base.proofs.WholeNumbers.{distrib, swap_times, below_from_times}
use Rattle.tableau.specs.Tables.{dot}
use Rattle.tableau.specs.RowLists.{IsLexPositive, list_size, objective_list, RisingIsTransitive, RisingIsApart, DivisionRises}
use Rattle.tableau.proofs.Dots.{back, dot-times, moved}
use Rattle.tableau.proofs.Exchanges.{times_none, none_from_times}
use Rattle.tableau.proofs.Rising.{above_mixed, above_same, probe_amounts, probe_whole, objective_is_form}

pub above_unscaled : (n from : ℕ) (d : ℤ) (g : ℕ → ℤ) → pos 1 ≤ℤ d → IsLexPositive n from (λ i. d *ℤ g i) → IsLexPositive n from g
above_unscaled zero from d g up one = one
above_unscaled (suc n) from d g up one =
    elim one as (λ _. IsLexPositive (suc n) from g) [
      | inl more ↦ inl (below_from_times d (pos 0) (g from) up (omega (arith, ints, times_none d)))
      | inr later ↦ inr (none_from_times d (g from) up later.0, above_unscaled n (suc from) d g up later.1)
    ]

not_above : (n from : ℕ) (g : ℕ → ℤ) → ((i : ℕ) → g i ≡ pos 0) → IsLexPositive n from g → ⊥
not_above zero from g none one = one
not_above (suc n) from g none one = elim one as (λ _. ⊥) [ inl more ↦ absurd (omega (arith, ints, none from)) | inr later ↦ not_above n (suc from) g none later.1 ]

pub distrib_minus : (k a b : ℤ) → k *ℤ (a -ℤ b) ≡ k *ℤ a -ℤ k *ℤ b
distrib_minus k a b = omega (arith, ints, distrib k (a -ℤ b) b, ap (λ t. k *ℤ t) (back a b))

-- a * (b * z - c * y) + c * (a * y - b * x) is b * (a * z - c * x)
pub linked : (a b c x y z : ℤ) → a *ℤ (b *ℤ z -ℤ c *ℤ y) +ℤ c *ℤ (a *ℤ y -ℤ b *ℤ x) ≡ b *ℤ (a *ℤ z -ℤ c *ℤ x)
linked a b c x y z =
    omega (arith, ints, distrib_minus a (b *ℤ z) (c *ℤ y), distrib_minus c (a *ℤ y) (b *ℤ x), distrib_minus b (a *ℤ z) (c *ℤ x), swap_times a b z, swap_times a c y, swap_times c b x)

pub rising_is_transitive : RisingIsTransitive
rising_is_transitive problem first second third one two three up more =
    let size : ℕ = list_size problem in
    let x : ℕ → ℤ = objective_list problem first in
    let y : ℕ → ℤ = objective_list problem second in
    let z : ℕ → ℤ = objective_list problem third in
    let g : ℕ → ℤ = λ i. second.den *ℤ z i -ℤ third.den *ℤ y i in
    let h : ℕ → ℤ = λ i. first.den *ℤ y i -ℤ second.den *ℤ x i in
    let goal : ℕ → ℤ = λ i. first.den *ℤ z i -ℤ third.den *ℤ x i in
    above_unscaled size 0 second.den goal two
    (above_same size 0 (λ i. first.den *ℤ g i +ℤ third.den *ℤ h i) (λ i. second.den *ℤ goal i) (λ i. linked first.den second.den third.den (x i) (y i) (z i))
    (above_mixed size 0 first.den third.den g h one (omega (arith, ints)) more up))

pub rising_is_apart : RisingIsApart
rising_is_apart problem one other rises same =
    not_above (list_size problem) 0 (λ i. one.den *ℤ objective_list problem other i -ℤ other.den *ℤ objective_list problem one i) (λ i. omega (arith, ints, same i)) rises

pub division_rises : DivisionRises
division_rises problem d before whole part shaped divided rises =
    let size : ℕ = list_size problem in
    let x : ℕ → ℤ = objective_list problem before in
    let z : ℕ → ℤ = objective_list problem part in
    let longer : length whole.objective ≡ length whole.others + 1 = ap length (sym divided.objective) ∙ length-map part.objective (λ (n : ℤ). n *ℤ d) ∙ shaped.objective ∙ ap (λ t. length t + 1) divided.others in
    let list : (i : ℕ) → objective_list problem whole i ≡ d *ℤ z i = λ i.
    let u : ℕ → ℤ = probe_amounts problem i in
    let w : ℤ = probe_whole i in
    objective_is_form problem whole i longer
    ∙ omega (arith, ints, times_none whole.den)
    ∙ ap (λ t. dot t (map u whole.others ++ neg_ℤ w ∷ [])) (sym divided.objective)
    ∙ dot-times d part.objective (map u whole.others ++ neg_ℤ w ∷ [])
    ∙ ap (λ t. d *ℤ dot part.objective (map u t ++ neg_ℤ w ∷ [])) (sym divided.others)
    ∙ ap (λ t. d *ℤ t) (sym (objective_is_form problem part i shaped.objective ∙ omega (arith, ints, times_none part.den))) in
    above_unscaled size 0 d (λ i. before.den *ℤ z i -ℤ part.den *ℤ x i) divided.divisor
    (above_same size 0 (λ i. before.den *ℤ objective_list problem whole i -ℤ whole.den *ℤ x i) (λ i. d *ℤ (before.den *ℤ z i -ℤ part.den *ℤ x i))
    (λ i. ap (λ t. before.den *ℤ t -ℤ whole.den *ℤ x i) (list i) ∙ ap (λ t. before.den *ℤ (d *ℤ z i) -ℤ t *ℤ x i) (sym divided.den) ∙ omega (arith, ints, distrib_minus d (before.den *ℤ z i) (part.den *ℤ x i), swap_times before.den d (z i), moved part.den d (x i))) rises)
