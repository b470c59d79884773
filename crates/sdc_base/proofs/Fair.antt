-- Ranking gives each contribution the place that it has by itself.
use Rattle.std.proofs.Common.{◌≡◌, ℕ, ◌+◌, ◌-◌, min, true, false, List, [], ◌∷◌, ◌++◌, sum_by, ℤ, pos, ◌+ℤ◌, ◌*ℤ◌, ◌≤ℤ◌, ◌<ℤ◌, int_lt, arith, refl, ap, sym, subst, ◌∙◌, if◌then◌else◌, append_assoc}
use Rattle.std.specs.List.{AllByRecursion}
use Rattle.std.proofs.lemmas.Int.{ints}
use Rattle.std.proofs.lemmas.List.{append-nil}
use Rattle.std.proofs.lemmas.List.Sums.{fold_push, sum_by-cons, sum_by_push}
use Rattle.sdc_base.specs.declared.tops.Unit.{Unit as Contribution}
use Rattle.sdc_base.specs.Largest.{with_contribution, ranking_of, first_steps}
use Rattle.sdc_base.specs.Shares.{weight_from, weight_above, shares_from, RankingIsFair}

-- f of each with the weight before it, in the order of a ranked list
abbrev pub along : (Contribution → ℕ → ℤ) → ℕ → List Contribution → ℤ
along f before [] = pos 0
along f before (x ∷ xs) = f x before +ℤ along f (before + x.weight) xs

-- and in the order in which they came
abbrev each : (Contribution → ℕ → ℤ) → List Contribution → List Contribution → ℤ
each f earlier [] = pos 0
each f earlier (x ∷ later) = f x (weight_from x.value earlier + weight_above x.value later) +ℤ each f (earlier ++ x ∷ []) later

-- one more contribution stands before those of lower value
abbrev pub moved_by : Contribution → (Contribution → ℕ → ℤ) → Contribution → ℕ → ℤ
moved_by new f x before = f x (if int_lt x.value new.value then before + new.weight else before)

-- by value downwards
abbrev pub IsDown : List Contribution → Type 0
IsDown [] = Unit {0}
IsDown (x ∷ xs) = AllByRecursion (λ y. y.value ≤ℤ x.value) xs × IsDown xs

abbrev AllLower : Contribution → List Contribution → Type 0
AllLower new xs = AllByRecursion (λ y. y.value <ℤ new.value) xs

lower_from : (new x : Contribution) (xs : List Contribution) → x.value <ℤ new.value → AllByRecursion (λ y. y.value ≤ℤ x.value) xs → AllLower new xs
lower_from new x [] less all = tt
lower_from new x (y ∷ xs) less all = (omega (arith, ints, all.0), lower_from new x xs less all.1)

none_from : (new : Contribution) (xs : List Contribution) → AllLower new xs → weight_from new.value xs ≡ 0
none_from new [] lower = refl
none_from new (x ∷ xs) lower =
    let less : x.value <ℤ new.value = lower.0 in
    let test : int_lt x.value new.value ≡ true = grind (arith, ints) in
    let head : (if int_lt x.value new.value then 0 else x.weight) ≡ 0 = rw test refl in
    omega (arith, sum_by-cons (λ (u : Contribution). if int_lt u.value new.value then 0 else u.weight) x xs, head, none_from new xs lower.1)

all_moved : (f : Contribution → ℕ → ℤ) (new : Contribution) (before : ℕ) (xs : List Contribution) → AllLower new xs → along f (before + new.weight) xs ≡ along (moved_by new f) before xs
all_moved f new before [] lower = refl
all_moved f new before (x ∷ xs) lower =
    let less : x.value <ℤ new.value = lower.0 in
    let test : int_lt x.value new.value ≡ true = grind (arith, ints) in
    let rest : (before + new.weight) + x.weight ≡ (before + x.weight) + new.weight = omega arith in
    rw (test, rest) (ap (λ t. f x (before + new.weight) +ℤ t) (all_moved f new (before + x.weight) xs lower.1))

-- placing one more
pub along_placed : (f : Contribution → ℕ → ℤ) (before : ℕ) (xs : List Contribution) (new : Contribution) → IsDown xs → along f before (with_contribution xs new) ≡ f new (before + weight_from new.value xs) +ℤ along (moved_by new f) before xs
along_placed f before [] new down = let none : before + 0 ≡ before = omega arith in rw none refl
along_placed f before (x ∷ xs) new down =
    elim (int_lt x.value new.value) as (λ b. int_lt x.value new.value ≡ b → along f before (if b then new ∷ x ∷ xs else x ∷ with_contribution xs new) ≡ f new (before + weight_from new.value (x ∷ xs)) +ℤ along (moved_by new f) before (x ∷ xs)) [
      | true ↦ λ is.
          let less : x.value <ℤ new.value = grind (arith, ints, is) in
          let lower : AllLower new (x ∷ xs) = (less, lower_from new x xs less down.0) in
          let none : before + weight_from new.value (x ∷ xs) ≡ before = omega (arith, none_from new (x ∷ xs) lower) in
          ap (λ t. f new before +ℤ t) (all_moved f new before (x ∷ xs) lower) ∙ ap (λ n. f new n +ℤ along (moved_by new f) before (x ∷ xs)) (sym none)
      | false ↦ λ is.
          let head : (if int_lt x.value new.value then 0 else x.weight) ≡ x.weight = rw is refl in
          let whole : before + weight_from new.value (x ∷ xs) ≡ (before + x.weight) + weight_from new.value xs = omega (arith, sum_by-cons (λ (u : Contribution). if int_lt u.value new.value then 0 else u.weight) x xs, head) in
          let rest : along f (before + x.weight) (with_contribution xs new) ≡ f new ((before + x.weight) + weight_from new.value xs) +ℤ along (moved_by new f) (before + x.weight) xs = along_placed f (before + x.weight) xs new down.1 in
          let own : moved_by new f x before ≡ f x before = rw is refl in
          let there : f new (before + weight_from new.value (x ∷ xs)) ≡ f new ((before + x.weight) + weight_from new.value xs) = ap (λ n. f new n) whole in
          ap (λ t. f x before +ℤ t) rest ∙ omega (arith, ints, own, there)
    ] refl

zero_and : (m n : ℕ) → m ≡ n → 0 + m ≡ n
zero_and m n e = omega arith

-- in the order in which they came, one more
each_push : (f : Contribution → ℕ → ℤ) (earlier later : List Contribution) (new : Contribution) → each f earlier (later ++ new ∷ []) ≡ each (moved_by new f) earlier later +ℤ f new (weight_from new.value (earlier ++ later))
each_push f earlier [] new =
    let none : weight_from new.value earlier + 0 ≡ weight_from new.value (earlier ++ []) = omega (arith, ap (λ t. weight_from new.value t) (append-nil earlier)) in
    omega (arith, ints, ap (λ n. f new n) none)
each_push f earlier (x ∷ later) new =
    let old : ℕ = weight_from x.value earlier + weight_above x.value later in
    let more : weight_above x.value (later ++ new ∷ []) ≡ weight_above x.value later + (if int_lt x.value new.value then new.weight else 0) = sum_by_push (λ (u : Contribution). if int_lt x.value u.value then u.weight else 0) later new in
    let own : f x (weight_from x.value earlier + weight_above x.value (later ++ new ∷ [])) ≡ moved_by new f x old =
    ap (λ n. f x (weight_from x.value earlier + n)) more
    ∙ elim (int_lt x.value new.value) as (λ b. f x (weight_from x.value earlier + (weight_above x.value later + (if b then new.weight else 0))) ≡ f x (if b then old + new.weight else old)) [
      | true ↦ ap (λ n. f x n) (omega arith)
      | false ↦ ap (λ n. f x n) (omega arith)
    ] in
    let joined : (earlier ++ x ∷ []) ++ later ≡ earlier ++ x ∷ later = append_assoc earlier (x ∷ []) later in
    omega (arith, ints, own, each_push f (earlier ++ x ∷ []) later new, ap (λ t. f new (weight_from new.value t)) joined)

pub sum_by-placed : (f : Contribution → ℕ) (xs : List Contribution) (new : Contribution) → sum_by f (with_contribution xs new) ≡ f new + sum_by f xs
sum_by-placed f [] new = omega (arith, sum_by-cons f new [])
sum_by-placed f (x ∷ xs) new =
    elim (int_lt x.value new.value) as (λ b. sum_by f (if b then new ∷ x ∷ xs else x ∷ with_contribution xs new) ≡ f new + sum_by f (x ∷ xs)) [
      | true ↦ sum_by-cons f new (x ∷ xs)
      | false ↦ omega (arith, sum_by-cons f x (with_contribution xs new), sum_by-cons f x xs, sum_by-placed f xs new)
    ]

at_most_placed : (most : ℤ) (xs : List Contribution) (new : Contribution) → AllByRecursion (λ y. y.value ≤ℤ most) xs → new.value ≤ℤ most → AllByRecursion (λ y. y.value ≤ℤ most) (with_contribution xs new)
at_most_placed most [] new all here = (here, tt)
at_most_placed most (x ∷ xs) new all here =
    let rest : AllByRecursion (λ y. y.value ≤ℤ most) (with_contribution xs new) = at_most_placed most xs new all.1 here in
    elim (int_lt x.value new.value) as (λ b. AllByRecursion (λ y. y.value ≤ℤ most) (if b then new ∷ x ∷ xs else x ∷ with_contribution xs new)) [ true ↦ (here, all) | false ↦ (all.0, rest) ]

lower_all : (new x : Contribution) (xs : List Contribution) → x.value <ℤ new.value → AllByRecursion (λ y. y.value ≤ℤ x.value) xs → AllByRecursion (λ y. y.value ≤ℤ new.value) xs
lower_all new x [] less all = tt
lower_all new x (y ∷ xs) less all = (omega (arith, ints, all.0), lower_all new x xs less all.1)

pub down_placed : (xs : List Contribution) (new : Contribution) → IsDown xs → IsDown (with_contribution xs new)
down_placed [] new down = (tt, tt)
down_placed (x ∷ xs) new down =
    let rest : IsDown (with_contribution xs new) = down_placed xs new down.1 in
    elim (int_lt x.value new.value) as (λ b. int_lt x.value new.value ≡ b → IsDown (if b then new ∷ x ∷ xs else x ∷ with_contribution xs new)) [
      | true ↦ λ is. let less : x.value <ℤ new.value = grind (arith, ints, is) in ((omega (arith, ints), lower_all new x xs less down.0), down)
      | false ↦ λ is. let not_less : new.value ≤ℤ x.value = grind (arith, ints, is) in (at_most_placed x.value xs new down.0 not_less, rest)
    ] refl

-- what holds of those that came so far holds with the rest
fair_rest : (done rest : List Contribution) → IsDown (ranking_of done) → ((v : ℤ) → weight_from v (ranking_of done) ≡ weight_from v done) → ((f : Contribution → ℕ → ℤ) → along f 0 (ranking_of done) ≡ each f [] done) → (f : Contribution → ℕ → ℤ) → along f 0 (ranking_of (done ++ rest)) ≡ each f [] (done ++ rest)
fair_rest done [] down weights fair f = ap (λ t. along f 0 (ranking_of t)) (append-nil done) ∙ fair f ∙ sym (ap (λ t. each f [] t) (append-nil done))
fair_rest done (new ∷ rest) down weights fair f =
    let one : List Contribution = done ++ new ∷ [] in
    let placing : ranking_of one ≡ with_contribution (ranking_of done) new = fold_push with_contribution [] done new in
    let joined : one ++ rest ≡ done ++ new ∷ rest = append_assoc done (new ∷ []) rest in
    let next_down : IsDown (ranking_of one) = subst IsDown (sym placing) (down_placed (ranking_of done) new down) in
    let next_weights : (v : ℤ) → weight_from v (ranking_of one) ≡ weight_from v one = λ v.
    let g : Contribution → ℕ = λ u. if int_lt u.value v then 0 else u.weight in
    ap (λ t. sum_by g t) placing ∙ omega (arith, sum_by-placed g (ranking_of done) new, sum_by_push g done new, weights v) in
    let next_fair : (g : Contribution → ℕ → ℤ) → along g 0 (ranking_of one) ≡ each g [] one = λ g.
    ap (λ t. along g 0 t) placing
    ∙ along_placed g 0 (ranking_of done) new down
    ∙ omega (arith, ints, fair (moved_by new g), each_push g [] done new, ap (λ n. g new n) (zero_and (weight_from new.value (ranking_of done)) (weight_from new.value done) (weights new.value))) in
    ap (λ t. along f 0 (ranking_of t)) (sym joined) ∙ fair_rest one rest next_down next_weights next_fair f ∙ ap (λ t. each f [] t) joined

-- ---- the steps

pub first_along : (steps before : ℕ) (xs : List Contribution) → first_steps (steps - before) xs ≡ along (λ unit n. pos (min unit.weight (steps - n)) *ℤ unit.value) before xs
first_along steps before [] = refl
first_along steps before (x ∷ xs) =
    let rest : (steps - before) - x.weight ≡ steps - (before + x.weight) = omega arith in
    ap (λ t. pos (min x.weight (steps - before)) *ℤ x.value +ℤ t) (ap (λ n. first_steps n xs) rest ∙ first_along steps (before + x.weight) xs)

each_shares : (steps : ℕ) (earlier later : List Contribution) → each (λ unit n. pos (min unit.weight (steps - n)) *ℤ unit.value) earlier later ≡ shares_from steps earlier later
each_shares steps earlier [] = refl
each_shares steps earlier (x ∷ later) = ap (λ t. pos (min x.weight (steps - (weight_from x.value earlier + weight_above x.value later))) *ℤ x.value +ℤ t) (each_shares steps (earlier ++ x ∷ []) later)

pub ranking_is_fair : RankingIsFair
ranking_is_fair steps units =
    let none : steps - 0 ≡ steps = omega arith in
    sym (ap (λ n. first_steps n (ranking_of units)) none)
    ∙ first_along steps 0 (ranking_of units)
    ∙ fair_rest [] units tt (λ v. refl) (λ f. refl) (λ unit n. pos (min unit.weight (steps - n)) *ℤ unit.value)
    ∙ each_shares steps [] units
