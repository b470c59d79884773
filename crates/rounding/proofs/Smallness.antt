-- The extremes of forms are small where numbers are near truths on which the relations hold.
use Rattle.std.proofs.Common.{◌≡◌, ℕ, zero, suc, ◌+◌, ◌*◌, ◌^◌, ◌<◌, ◌≤◌, Bool, true, false, List, [], ◌∷◌, length, All, Some, None, slice_get, ℤ, pos, neg_ℤ, ◌≤ℤ◌, int_lt, arith, refl, subst, if◌then◌else◌, inl, inr}
use Rattle.std.proofs.Math.Nat.{mul-le-mul_right}
use Rattle.std.proofs.lemmas.Int.{ints}
use Rattle.std.proofs.lemmas.Bool.{cases_lt}
use Rattle.std.proofs.lemmas.List.{get_or_past}
use Rattle.std.proofs.lemmas.Option.{slice_get_within, get_or_from_slice_get}
use Rattle.std.proofs.lemmas.List.Elements.{All-get_or}
use Rattle.sdc_base.specs.declared.relation.Relation.{Relation}
use Rattle.sdc_base.specs.Systems.{Numbers, form, HoldOn, number_at}
use Rattle.rounding.specs.Choices.{Choices, by_choices}
use Rattle.sdc_base.specs.Forms.{count_of}
use Rattle.rounding.specs.Extremes.{extreme_numbers, extreme_of_form}
use Rattle.sdc_base.specs.Truths.{IsTruth}
use Rattle.rounding.specs.Sums.{IsNear, AreExtremes, AreSmall}
use Rattle.rounding.proofs.Nearness.{form_near}
use Rattle.rounding.proofs.Choosing.{length-by_choices}
use Rattle.rounding.proofs.Completeness.{by_choices_adjacent}

by_order : {P : Type 0} (a b : ℕ) → (a < b → P) → (b ≤ a → P) → P
by_order {P} a b less not_less = elim (cases_lt a b) as (λ _. P) [ inl one ↦ less one | inr other ↦ not_less other ]

pub mixed_near : (far : ℕ) (r : Relation) (one other t : Numbers) (c : ℕ) → IsNear far (one c) (t c) → IsNear far (other c) (t c) → IsNear far (extreme_numbers r one other c) (t c)
mixed_near far r one other t c first second = elim (int_lt (pos 0) (count_of r c)) as (λ b. IsNear far (if b then one c else other c) (t c)) [ true ↦ first | false ↦ second ]

-- the numbers of choices are less than a base from the truths, everywhere
pub choices_near : (side : Bool) (base : ℤ) (truths : List ℤ) (choices : Choices) → pos 1 ≤ℤ base → base ≤ℤ pos (10 ^ 22) → All IsTruth truths → (c : ℕ) → IsNear (10 ^ 22) (number_at (by_choices side base truths choices) c) (number_at truths c)
choices_near side base truths choices positive most all c =
    by_order c (length truths)
    (λ below. let adjacent = by_choices_adjacent side base truths choices positive all c below in record { low = omega (arith, ints, adjacent.not_below); high = omega (arith, ints, adjacent.not_above) })
    (λ past.
    let none : number_at (by_choices side base truths choices) c ≡ pos 0 = get_or_past (by_choices side base truths choices) c (pos 0) (omega (arith, length-by_choices side base truths choices)) in
    let no_truth : number_at truths c ≡ pos 0 = get_or_past truths c (pos 0) past in
    record { low = omega (arith, ints, none, no_truth); high = omega (arith, ints, none, no_truth) })

extreme_small : (one other t : Numbers) (r : Relation) → ((c : ℕ) → IsNear (10 ^ 22) (one c) (t c)) → ((c : ℕ) → IsNear (10 ^ 22) (other c) (t c)) → form t r ≡ pos 0 → (neg_ℤ (pos (2 ^ 120)) ≤ℤ extreme_of_form one other r) × (extreme_of_form one other r ≤ℤ pos (2 ^ 120))
extreme_small one other t r first second holds =
    let near = form_near (10 ^ 22) (extreme_numbers r one other) t r (λ c. mixed_near (10 ^ 22) r one other t c (first c) (second c)) in
    let few : 1 + length r.parts ≤ 2 ^ 32 = omega (arith, r.fewer_than_2_32) in
    let most : (1 + length r.parts) * 10 ^ 22 ≤ 2 ^ 32 * 10 ^ 22 = mul-le-mul_right (10 ^ 22) few in
    (omega (arith, ints, near.low, holds, most), omega (arith, ints, near.high, holds, most))

past_none : (relations : List Relation) (number : ℕ) → slice_get relations number ≡ None → number < length relations → ⊥
past_none [] number none below = omega arith
past_none (r ∷ relations) zero none below = cc
past_none (r ∷ relations) (suc number) none below = past_none relations number none (omega arith)

pub extremes_small : (one other truths : List ℤ) (relations : List Relation) (sums : List ℤ) → ((c : ℕ) → IsNear (10 ^ 22) (number_at one c) (number_at truths c)) → ((c : ℕ) → IsNear (10 ^ 22) (number_at other c) (number_at truths c)) → HoldOn (number_at truths) relations → AreExtremes one other relations sums → AreSmall sums
extremes_small one other truths relations sums first second hold are number =
    elim (slice_get relations number) as (λ o. slice_get relations number ≡ o → (neg_ℤ (pos (2 ^ 120)) ≤ℤ number_at sums number) × (number_at sums number ≤ℤ pos (2 ^ 120))) [
      | None ↦ λ none.
          by_order number (length relations)
          (λ below. absurd (past_none relations number none below))
          (λ past. let past_sums : number_at sums number ≡ pos 0 = get_or_past sums number (pos 0) (omega (arith, are.each)) in (omega (arith, ints, past_sums), omega (arith, ints, past_sums)))
      | Some r ↦ λ there.
          let is = are.extremes number r there in
          let holds : form (number_at truths) r ≡ pos 0 = subst (λ (one : Relation). form (number_at truths) one ≡ pos 0) (get_or_from_slice_get relations number r r there) (All-get_or (λ r. form (number_at truths) r ≡ pos 0) relations number r (slice_get_within relations number r there) hold) in
          let small = extreme_small (number_at one) (number_at other) (number_at truths) r first second holds in
          (omega (arith, ints, is, small.0), omega (arith, ints, is, small.1))
    ] refl
