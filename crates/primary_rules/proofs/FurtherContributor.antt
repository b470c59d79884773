-- A further contributor that isn't the largest hides what the largest one contributes.
use Rattle.std.proofs.Common.{◌≡◌, ℕ, ◌+◌, ◌-◌, ◌*◌, ◌≤◌, min, true, false, List, [], ◌∷◌, ◌++◌, All, fold, sum_by, IsTrue, ℤ, pos, ◌+ℤ◌, ◌*ℤ◌, ◌≤ℤ◌, ◌<ℤ◌, int_lt, arith, refl, ap, sym, subst, ◌∙◌, if◌then◌else◌}
use Rattle.std.specs.List.{AllByRecursion}
use Rattle.std.proofs.lemmas.Int.{ints}
use Rattle.std.proofs.lemmas.List.Elements.{All-head, All-tail}
use Rattle.std.proofs.lemmas.List.Sums.{fold_push, sum_by-cons}
use Rattle.sdc_base.proofs.WholeNumbers.{times_up}
use Rattle.sdc_base.specs.declared.tops.Unit.{Unit as Contribution}
use Rattle.sdc_base.specs.Largest.{with_contribution, ranking_of, first_steps}
use Rattle.sdc_base.specs.Shares.{weight_from}
use Rattle.sdc_base.specs.RuleLevels.{Figures, is_sensitive_by, rest_beside_two}
use Rattle.sdc_base.specs.declared.rule.Rule.TheVariants as rule
use Rattle.primary_rules.specs.Contributors.{figures_of, FurtherIsNotNamed}
use Rattle.primary_rules.proofs.Stricter.{times_of}

-- ---- the ranking: by value downwards, of the same weights and values

abbrev AllAtMost : ℤ → List Contribution → Type 0
AllAtMost most units = AllByRecursion (λ unit. unit.value ≤ℤ most) units

abbrev IsDown : List Contribution → Type 0
IsDown [] = Unit {0}
IsDown (x ∷ xs) = AllAtMost x.value xs × IsDown xs

abbrev pub FromZero : List Contribution → Type 0
FromZero units = AllByRecursion (λ unit. pos 0 ≤ℤ unit.value) units

wider : (low high : ℤ) (xs : List Contribution) → low ≤ℤ high → AllAtMost low xs → AllAtMost high xs
wider low high [] h all = tt
wider low high (x ∷ xs) h all = (omega (arith, ints, h, all.0), wider low high xs h all.1)

at_most_placed : (most : ℤ) (xs : List Contribution) (new : Contribution) → AllAtMost most xs → new.value ≤ℤ most → AllAtMost most (with_contribution xs new)
at_most_placed most [] new all here = (here, tt)
at_most_placed most (x ∷ xs) new all here =
    let behind : AllAtMost most (with_contribution xs new) = at_most_placed most xs new all.1 here in
    elim (int_lt x.value new.value) as (λ b. AllAtMost most (if b then new ∷ x ∷ xs else x ∷ with_contribution xs new)) [ true ↦ (here, all) | false ↦ (all.0, behind) ]

down_placed : (xs : List Contribution) (new : Contribution) → IsDown xs → IsDown (with_contribution xs new)
down_placed [] new down = (tt, tt)
down_placed (x ∷ xs) new down =
    let behind : IsDown (with_contribution xs new) = down_placed xs new down.1 in
    elim (int_lt x.value new.value) as (λ b. int_lt x.value new.value ≡ b → IsDown (if b then new ∷ x ∷ xs else x ∷ with_contribution xs new)) [
      | true ↦ λ is. let less : x.value ≤ℤ new.value = grind (arith, ints, is) in ((less, wider x.value new.value xs less down.0), down)
      | false ↦ λ is. let least : new.value ≤ℤ x.value = grind (arith, ints, is) in (at_most_placed x.value xs new down.0 least, behind)
    ] refl

down_ranked : (front units : List Contribution) → IsDown front → IsDown (fold with_contribution front units)
down_ranked front [] down = down
down_ranked front (unit ∷ units) down = down_ranked (with_contribution front unit) units (down_placed front unit down)

from_zero_placed : (xs : List Contribution) (new : Contribution) → FromZero xs → pos 0 ≤ℤ new.value → FromZero (with_contribution xs new)
from_zero_placed [] new all here = (here, tt)
from_zero_placed (x ∷ xs) new all here =
    let behind : FromZero (with_contribution xs new) = from_zero_placed xs new all.1 here in
    elim (int_lt x.value new.value) as (λ b. FromZero (if b then new ∷ x ∷ xs else x ∷ with_contribution xs new)) [ true ↦ (here, all) | false ↦ (all.0, behind) ]

pub from_zero_ranked : (front units : List Contribution) → FromZero front → All (λ unit. pos 0 ≤ℤ unit.value) units → FromZero (fold with_contribution front units)
from_zero_ranked front [] own all = own
from_zero_ranked front (unit ∷ units) own all =
    let here : pos 0 ≤ℤ unit.value = All-head (λ (u : Contribution). pos 0 ≤ℤ u.value) unit units all in
    from_zero_ranked (with_contribution front unit) units (from_zero_placed front unit own here) (All-tail (λ (u : Contribution). pos 0 ≤ℤ u.value) unit units all)

weigh_placed : (f : Contribution → ℕ) (xs : List Contribution) (new : Contribution) → sum_by f (with_contribution xs new) ≡ f new + sum_by f xs
weigh_placed f [] new = omega (arith, sum_by-cons f new [])
weigh_placed f (x ∷ xs) new =
    elim (int_lt x.value new.value) as (λ b. sum_by f (if b then new ∷ x ∷ xs else x ∷ with_contribution xs new) ≡ f new + sum_by f (x ∷ xs)) [
      | true ↦ sum_by-cons f new (x ∷ xs)
      | false ↦ omega (arith, sum_by-cons f x (with_contribution xs new), sum_by-cons f x xs, weigh_placed f xs new)
    ]

weigh_ranked : (f : Contribution → ℕ) (front units : List Contribution) → sum_by f (fold with_contribution front units) ≡ sum_by f front + sum_by f units
weigh_ranked f front [] = omega arith
weigh_ranked f front (unit ∷ units) = omega (arith, weigh_ranked f (with_contribution front unit) units, weigh_placed f front unit, sum_by-cons f unit units)

-- ---- the steps

no_steps : (xs : List Contribution) → first_steps 0 xs ≡ pos 0
no_steps [] = refl
no_steps (x ∷ xs) = let none : min x.weight 0 ≡ 0 = omega arith in let left : 0 - x.weight ≡ 0 = omega arith in rw (none, left) (omega (arith, ints, no_steps xs))

none_from : (value : ℤ) (most : ℤ) (xs : List Contribution) → most <ℤ value → AllAtMost most xs → weight_from value xs ≡ 0
none_from value most [] less all = refl
none_from value most (x ∷ xs) less all =
    let low : x.value ≤ℤ most = all.0 in
    let test : int_lt x.value value ≡ true = grind (arith, ints, low, less) in
    let head : (if int_lt x.value value then 0 else x.weight) ≡ 0 = rw test refl in
    omega (arith, sum_by-cons (λ (u : Contribution). if int_lt u.value value then 0 else u.weight) x xs, head, none_from value most xs less all.1)

-- where the contributions of at least its value fill the steps, a further one takes none
same_steps : (n : ℕ) (xs : List Contribution) (new : Contribution) → IsDown xs → n ≤ weight_from new.value xs → first_steps n (with_contribution xs new) ≡ first_steps n xs
same_steps n [] new down full = let none : n ≡ 0 = omega arith in rw none (no_steps (new ∷ []))
same_steps n (x ∷ xs) new down full =
    let more = sum_by-cons (λ (u : Contribution). if int_lt u.value new.value then 0 else u.weight) x xs in
    elim (int_lt x.value new.value) as (λ b. int_lt x.value new.value ≡ b → first_steps n (if b then new ∷ x ∷ xs else x ∷ with_contribution xs new) ≡ first_steps n (x ∷ xs)) [
      | true ↦ λ is.
          let less : x.value <ℤ new.value = grind (arith, ints, is) in
          let head : (if int_lt x.value new.value then 0 else x.weight) ≡ 0 = rw is refl in
          let none : n ≡ 0 = omega (arith, full, more, head, none_from new.value x.value xs less down.0) in
          rw none (no_steps (new ∷ x ∷ xs) ∙ sym (no_steps (x ∷ xs)))
      | false ↦ λ is.
          let head : (if int_lt x.value new.value then 0 else x.weight) ≡ x.weight = rw is refl in
          ap (λ r. pos (min x.weight n) *ℤ x.value +ℤ r) (same_steps (n - x.weight) xs new down.1 (omega (arith, full, more, head)))
    ] refl

pub more_steps : (m n : ℕ) (xs : List Contribution) → m ≤ n → FromZero xs → first_steps m xs ≤ℤ first_steps n xs
more_steps m n [] h all = omega (arith, ints)
more_steps m n (x ∷ xs) h all =
    let own : (pos (min x.weight m) *ℤ x.value) ≤ℤ (pos (min x.weight n) *ℤ x.value) = times_of (min x.weight m) (min x.weight n) x.value (omega (arith, h)) all.0 in
    omega (arith, ints, own, more_steps (m - x.weight) (n - x.weight) xs (omega (arith, h)) all.1)

-- a further contribution adds no more than itself
adds_itself : (n : ℕ) (xs : List Contribution) (new : Contribution) → FromZero xs → pos 0 ≤ℤ new.value → first_steps n (with_contribution xs new) ≤ℤ (first_steps n xs +ℤ pos new.weight *ℤ new.value)
adds_itself n [] new all here =
    let part : (pos (min new.weight n) *ℤ new.value) ≤ℤ (pos new.weight *ℤ new.value) = times_of (min new.weight n) new.weight new.value (omega arith) here in
    omega (arith, ints, part)
adds_itself n (x ∷ xs) new all here =
    let part : (pos (min new.weight n) *ℤ new.value) ≤ℤ (pos new.weight *ℤ new.value) = times_of (min new.weight n) new.weight new.value (omega arith) here in
    elim (int_lt x.value new.value) as (λ b. first_steps n (if b then new ∷ x ∷ xs else x ∷ with_contribution xs new) ≤ℤ (first_steps n (x ∷ xs) +ℤ pos new.weight *ℤ new.value)) [
      | true ↦ omega (arith, ints, part, more_steps (n - new.weight) n (x ∷ xs) (omega arith) all)
      | false ↦ omega (arith, ints, adds_itself (n - x.weight) xs new all.1 here)
    ]

-- the largest stays, and the rest grows
no_more : (p q scale : ℕ) (units : List Contribution) (new : Contribution) → All (λ unit. pos 0 ≤ℤ unit.value) units → pos 0 ≤ℤ new.value → scale ≤ weight_from new.value units
    → IsTrue (is_sensitive_by (rule.Pq p q) (figures_of (units ++ new ∷ []) scale)) → IsTrue (is_sensitive_by (rule.Pq p q) (figures_of units scale))
no_more p q scale units new all here full named =
    let before : Figures = figures_of units scale in
    let after : Figures = figures_of (units ++ new ∷ []) scale in
    let order : ranking_of (units ++ new ∷ []) ≡ with_contribution (ranking_of units) new = fold_push with_contribution [] units new in
    let down : IsDown (ranking_of units) = down_ranked [] units tt in
    let zero_on : FromZero (ranking_of units) = from_zero_ranked [] units tt all in
    let weight : weight_from new.value (ranking_of units) ≡ weight_from new.value units = omega (arith, weigh_ranked (λ (u : Contribution). if int_lt u.value new.value then 0 else u.weight) [] units) in
    let first : after.largest 1 ≡ before.largest 1 = ap (λ xs. first_steps (1 * scale) xs) order ∙ same_steps (1 * scale) (ranking_of units) new down (omega (arith, full, weight)) in
    let second : after.largest 2 ≤ℤ (before.largest 2 +ℤ pos new.weight *ℤ new.value) = subst (λ xs. first_steps (2 * scale) xs ≤ℤ (before.largest 2 +ℤ pos new.weight *ℤ new.value)) (sym order) (adds_itself (2 * scale) (ranking_of units) new zero_on here) in
    let whole : after.truth ≡ before.truth +ℤ pos new.weight *ℤ new.value = fold_push (λ sum (unit : Contribution). sum +ℤ pos unit.weight *ℤ unit.value) (pos 0) units new in
    let rests : rest_beside_two before ≤ℤ rest_beside_two after = omega (arith, ints, second, whole) in
    let part : (pos q *ℤ rest_beside_two before) ≤ℤ (pos q *ℤ rest_beside_two after) = times_up (pos q) (rest_beside_two before) (rest_beside_two after) (omega (arith, ints)) rests in
    let bound : pos p *ℤ after.largest 1 ≡ pos p *ℤ before.largest 1 = ap (λ x. pos p *ℤ x) first in
    grind (arith, ints, named, part, bound)

pub further_is_not_named : FurtherIsNotNamed
further_is_not_named = (λ p. no_more p 100, λ p q. no_more p q)
