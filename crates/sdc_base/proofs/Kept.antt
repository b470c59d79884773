-- The first units of a ranked list are enough for the largest contributions.
use Rattle.std.proofs.Common.{◌≡◌, ℕ, zero, suc, ◌+◌, ◌-◌, ◌*◌, ◌<◌, ◌≤◌, min, true, false, not, cond, List, [], ◌∷◌, ◌++◌, take, drop, length, get_or, insert, All, pos, ◌+ℤ◌, ◌*ℤ◌, int_lt, arith, refl, ap, sym, ◌∙◌, if◌then◌else◌}
use Rattle.std.proofs.lemmas.Int.{ints}
use Rattle.std.specs.List.{position_or_len}
use Rattle.std.proofs.lemmas.List.{take-take, drop_more}
use Rattle.std.proofs.lemmas.List.Elements.{All-head, All-tail, All-cons, All-take}
use Rattle.std.proofs.lemmas.List.Sums.{fold_push, position_or_len_is}
use Rattle.sdc_base.specs.declared.tops.Unit.{Unit as Contribution}
use Rattle.sdc_base.specs.Largest.{with_contribution, ranking_of, first_steps, AreHeavy}

take_less : (k n : ℕ) (xs : List Contribution) → k ≤ n → take k (take n xs) ≡ take k xs
take_less k n xs h = take-take k n xs h

-- where the first units are the same, so they are with one more
take_behind : (k : ℕ) (x : Contribution) (xs : List Contribution) → take k (x ∷ take k xs) ≡ take k (x ∷ xs)
take_behind zero x xs = refl
take_behind (suc k) x xs = ap (λ t. x ∷ t) (take_less k (suc k) xs (omega arith))

pub take-placed : (k : ℕ) (xs : List Contribution) (new : Contribution) → take k (with_contribution (take k xs) new) ≡ take k (with_contribution xs new)
take-placed zero xs new = refl
take-placed (suc k) [] new = refl
take-placed (suc k) (x ∷ xs) new =
    elim (int_lt x.value new.value) as (λ b. take (suc k) (if b then new ∷ x ∷ take k xs else x ∷ with_contribution (take k xs) new) ≡ take (suc k) (if b then new ∷ x ∷ xs else x ∷ with_contribution xs new)) [
      | true ↦ ap (λ t. new ∷ t) (take_behind k x xs)
      | false ↦ ap (λ t. x ∷ t) (take-placed k xs new)
    ]

-- placing is inserting at the first that has a lower value
pub insert_is_placed : (xs : List Contribution) (new : Contribution) → insert xs (position_or_len (λ unit. int_lt unit.value new.value) xs) new ≡ with_contribution xs new
insert_is_placed [] new = refl
insert_is_placed (x ∷ xs) new =
    let at : ℕ = position_or_len (λ (unit : Contribution). int_lt unit.value new.value) xs in
    elim (int_lt x.value new.value) as (λ b. insert (x ∷ xs) (cond (not b) (1 + at) 0) new ≡ (if b then new ∷ x ∷ xs else x ∷ with_contribution xs new)) [
      | true ↦ refl
      | false ↦ let next : 1 + at ≡ suc at = omega arith in rw next (ap (λ t. x ∷ t) (insert_is_placed xs new))
    ]

-- no steps take nothing
no_steps : (xs : List Contribution) → first_steps 0 xs ≡ pos 0
no_steps [] = refl
no_steps (x ∷ xs) = let none : min x.weight 0 ≡ 0 = omega arith in let rest : 0 - x.weight ≡ 0 = omega arith in rw (none, rest) (omega (arith, ints, no_steps xs))

mul_more : (k scale : ℕ) → suc k * scale ≡ k * scale + scale
mul_more k scale = omega arith

-- as many whole units as there are scales in the steps are enough
pub kept_are_enough : (scale k steps : ℕ) (xs : List Contribution) → All (λ unit. scale ≤ unit.weight) (take k xs) → steps ≤ k * scale → first_steps steps (take k xs) ≡ first_steps steps xs
kept_are_enough scale zero steps xs heavy few = let none : steps ≡ 0 = omega arith in rw none (sym (no_steps xs))
kept_are_enough scale (suc k) steps [] heavy few = refl
kept_are_enough scale (suc k) steps (x ∷ xs) heavy few =
    let weight : scale ≤ x.weight = All-head (λ (unit : Contribution). scale ≤ unit.weight) x (take k xs) heavy in
    ap (λ rest. pos (min x.weight steps) *ℤ x.value +ℤ rest)
    (kept_are_enough scale k (steps - x.weight) xs (All-tail (λ (unit : Contribution). scale ≤ unit.weight) x (take k xs) heavy) (omega (arith, mul_more k scale)))

-- a place among the first ones is filled before or after the rest is cut off
pub put_in_front : (xs : List Contribution) (new : Contribution) (n at : ℕ) → at ≤ n → at ≤ length xs → take (suc n) (insert xs at new) ≡ insert (take n xs) at new
put_in_front [] new zero zero near within = refl
put_in_front [] new (suc n) zero near within = refl
put_in_front [] new n (suc at) near within = absurd (omega arith)
put_in_front (x ∷ xs) new zero zero near within = refl
put_in_front (x ∷ xs) new (suc n) zero near within = refl
put_in_front (x ∷ xs) new zero (suc at) near within = absurd (omega arith)
put_in_front (x ∷ xs) new (suc n) (suc at) near within = ap (λ t. x ∷ t) (put_in_front xs new n at (omega arith) (omega arith))

-- the place that a scan finds
pub found_place : (xs : List Contribution) (new : Contribution) (at : ℕ) (d : Contribution) → at ≤ length xs → ((k : ℕ) → k < at → int_lt (get_or xs k d).value new.value ≡ false) → (at < length xs → int_lt (get_or xs at d).value new.value ≡ true) → insert xs at new ≡ with_contribution xs new
found_place xs new at d within before here =
    let place : position_or_len (λ (unit : Contribution). int_lt unit.value new.value) xs ≡ at = position_or_len_is (λ (unit : Contribution). int_lt unit.value new.value) xs at d within before here in
    ap (λ k. insert xs k new) (sym place) ∙ insert_is_placed xs new

-- a place among the first ones, the rest cut off before
pub put_in_kept : (xs cut : List Contribution) (new : Contribution) (keep at : ℕ) → at < keep → at ≤ length xs → cut ≡ take (keep - 1) xs → insert xs at new ≡ with_contribution xs new → insert cut at new ≡ take keep (with_contribution xs new)
put_in_kept xs cut new keep at near within is place =
    let whole : keep ≡ suc (keep - 1) = omega arith in
    ap (λ t. insert t at new) is ∙ sym (put_in_front xs new (keep - 1) at (omega arith) within) ∙ ap (λ n. take n (insert xs at new)) (sym whole) ∙ ap (λ t. take keep t) place

-- ---- what an offer keeps

All-placed : (P : Contribution → Type 0) (xs : List Contribution) (new : Contribution) → All P xs → P new → All P (with_contribution xs new)
All-placed P [] new all here = All-cons P new [] here all
All-placed P (x ∷ xs) new all here =
    let tail : All P (with_contribution xs new) = All-placed P xs new (All-tail P x xs all) here in
    elim (int_lt x.value new.value) as (λ b. All P (if b then new ∷ x ∷ xs else x ∷ with_contribution xs new)) [
      | true ↦ All-cons P new (x ∷ xs) here all
      | false ↦ All-cons P x (with_contribution xs new) (All-head P x xs all) tail
    ]

pub heavy_kept : (scale keep : ℕ) (xs : List Contribution) (new : Contribution) → AreHeavy scale xs → scale ≤ new.weight → AreHeavy scale (take keep (with_contribution xs new))
heavy_kept scale keep xs new heavy here =
    All-take (λ (unit : Contribution). scale ≤ unit.weight) keep (with_contribution xs new) (All-placed (λ (unit : Contribution). scale ≤ unit.weight) xs new heavy here)

pub tells_more : (keep : ℕ) (units list : List Contribution) (new : Contribution) → list ≡ take keep (ranking_of units) → take keep (with_contribution list new) ≡ take keep (ranking_of (units ++ new ∷ []))
tells_more keep units list new told =
    ap (λ t. take keep (with_contribution t new)) told ∙ take-placed keep (ranking_of units) new ∙ sym (ap (λ t. take keep t) (fold_push with_contribution [] units new))

-- ---- the steps

pub steps_more : (left i : ℕ) (xs : List Contribution) (d : Contribution) → i < length xs → first_steps left (drop i xs) ≡ pos (min (get_or xs i d).weight left) *ℤ (get_or xs i d).value +ℤ first_steps (left - (get_or xs i d).weight) (drop (i + 1) xs)
steps_more left i xs d within = ap (λ t. first_steps left t) (drop_more xs i d within)
