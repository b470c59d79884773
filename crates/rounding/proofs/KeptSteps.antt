-- What is kept beside fixed cells stays right as one is fixed or freed.
use Rattle.std.proofs.Common.{◌≡◌, ◌≢◌, ◌⊎◌, inl, inr, ℕ, zero, suc, ◌-◌, ◌^◌, ◌<◌, ◌≤◌, Bool, true, false, List, [], ◌∷◌, ◌++◌, length, take, map, All, Some, slice_get, ℤ, pos, neg_ℤ, ◌+ℤ◌, ◌-ℤ◌, ◌≤ℤ◌, ◌<ℤ◌, eqb, int_lt, arith, refl, ap, sym, subst, ◌∙◌, length-append, get_or-set_same, ◌||◌}
use Rattle.std.proofs.Math.ListN.{set}
use Rattle.std.proofs.Math.Seq.{take-append_seam}
use Rattle.std.specs.List.{IsDistinct, AllByRecursion, list_any}
use Rattle.std.proofs.lemmas.Int.{ints}
use Rattle.std.proofs.lemmas.Bool.Decides.{Decides-eqb, nat_tests}
use Rattle.std.proofs.lemmas.List.{set-set, set-get_or, take-append-le}
use Rattle.std.proofs.lemmas.Map.Keys.{IsDistinct-cons}
use Rattle.std.proofs.lemmas.Map.Steps.{length-le_from_distinct_below}
use Rattle.std.proofs.lemmas.Option.{slice_get_within, same_Some}
use Rattle.sdc_base.specs.declared.relation.Relation.{Relation}
use Rattle.sdc_base.specs.Systems.{NamesCells, number_at}
use Rattle.rounding.specs.Neighbours.{neighbour}
use Rattle.rounding.specs.Choices.{by_choices}
use Rattle.rounding.specs.Extremes.{extreme_of_form}
use Rattle.rounding.specs.Namings.{IsNamingOf, IsNaming}
use Rattle.rounding.specs.Sums.{IsNear, AreExtremes, AreSmall}
use Rattle.rounding.specs.Tasks.{IsProper}
use Rattle.rounding.specs.Fixes.{Fix, by_fixes, FixedCells, number_left, IsFree, IsSettable, allows}
use Rattle.rounding.specs.FixedSteps.{IsKept}
use Rattle.rounding.proofs.FixSteps.{length-by_fixes, one_more_fix, free_is_new, left_near, either_left}
use Rattle.rounding.proofs.Smallness.{extremes_small}

-- ---- reads

pub low_left : (b : FixedCells) (lows highs mins maxs : List ℤ) → IsKept b lows highs mins maxs → (c : ℕ) → number_at lows c ≡ number_left false b c
low_left b lows highs mins maxs kept c = ap (λ (xs : List ℤ). number_at xs c) kept.lower

pub high_left : (b : FixedCells) (lows highs mins maxs : List ℤ) → IsKept b lows highs mins maxs → (c : ℕ) → number_at highs c ≡ number_left true b c
high_left b lows highs mins maxs kept c = ap (λ (xs : List ℤ). number_at xs c) kept.upper

pub lows_long : (b : FixedCells) (lows highs mins maxs : List ℤ) → IsKept b lows highs mins maxs → length lows ≡ b.system.cells
lows_long b lows highs mins maxs kept = ap (λ (xs : List ℤ). length xs) kept.lower ∙ length-by_fixes false b.base b.truths b.fixes ∙ kept.proper.each

pub highs_long : (b : FixedCells) (lows highs mins maxs : List ℤ) → IsKept b lows highs mins maxs → length highs ≡ b.system.cells
highs_long b lows highs mins maxs kept = ap (λ (xs : List ℤ). length xs) kept.upper ∙ length-by_fixes true b.base b.truths b.fixes ∙ kept.proper.each

pub least_left : (b : FixedCells) (lows highs mins maxs : List ℤ) → IsKept b lows highs mins maxs → (n : ℕ) (r : Relation) → slice_get b.system.relations n ≡ Some r → number_at mins n ≡ extreme_of_form (number_left false b) (number_left true b) r
least_left b lows highs mins maxs kept n r there = kept.least.extremes n r there ∙ (λ i. extreme_of_form (number_at (kept.lower i)) (number_at (kept.upper i)) r)

pub greatest_left : (b : FixedCells) (lows highs mins maxs : List ℤ) → IsKept b lows highs mins maxs → (n : ℕ) (r : Relation) → slice_get b.system.relations n ≡ Some r → number_at maxs n ≡ extreme_of_form (number_left true b) (number_left false b) r
greatest_left b lows highs mins maxs kept n r there = kept.greatest.extremes n r there ∙ (λ i. extreme_of_form (number_at (kept.upper i)) (number_at (kept.lower i)) r)

pub kept_small : (b : FixedCells) (lows highs mins maxs : List ℤ) → IsKept b lows highs mins maxs → AreSmall mins × AreSmall maxs
kept_small b lows highs mins maxs kept =
    let off = λ (place : ℕ) (fix : Fix) (there : slice_get b.fixes place ≡ Some fix). (kept.free place fix there).unrounded in
    let lower = λ (n : ℕ). subst (λ (xs : List ℤ). IsNear (10 ^ 22) (number_at xs n) (number_at b.truths n)) (sym kept.lower) (left_near false b kept.proper off n) in
    let upper = λ (n : ℕ). subst (λ (xs : List ℤ). IsNear (10 ^ 22) (number_at xs n) (number_at b.truths n)) (sym kept.upper) (left_near true b kept.proper off n) in
    (extremes_small lows highs b.truths b.system.relations mins lower upper kept.proper.hold kept.least, extremes_small highs lows b.truths b.system.relations maxs upper lower kept.proper.hold kept.greatest)

-- ---- cells are fixed once

get_in_take : {X : Type 0} (xs : List X) (j i : ℕ) (x : X) → i < j → slice_get xs i ≡ Some x → slice_get (take j xs) i ≡ Some x
get_in_take {X} xs zero i x less there = absurd (omega arith)
get_in_take {X} [] (suc j) i x less there = absurd (omega (arith, slice_get_within [] i x there))
get_in_take {X} (y ∷ xs) (suc j) zero x less there = there
get_in_take {X} (y ∷ xs) (suc j) (suc i) x less there = get_in_take xs j i x (omega arith) there

apart_all : (cell : ℕ) (fixes : List Fix) → ((j : ℕ) (g : Fix) → slice_get fixes j ≡ Some g → cell ≢ g.0) → AllByRecursion (λ y. eqb cell y ≡ false) (map (λ fix. fix.0) fixes)
apart_all cell [] apart = tt
apart_all cell (g ∷ fixes) apart =
    let first : cell ≢ g.0 = apart 0 g refl in
    (grind (arith, nat_tests, first), apart_all cell fixes (λ j h there. apart (suc j) h there))

no_fixes : IsDistinct {K = ℕ} eqb []
unfolding IsDistinct
no_fixes = tt

distinct_fixes : (fixes : List Fix) → ((i j : ℕ) (f g : Fix) → i < j → slice_get fixes i ≡ Some f → slice_get fixes j ≡ Some g → f.0 ≢ g.0) → IsDistinct eqb (map (λ fix. fix.0) fixes)
distinct_fixes [] apart = no_fixes
distinct_fixes (f ∷ fixes) apart =
    IsDistinct-cons eqb f.0 (map (λ fix. fix.0) fixes)
    (apart_all f.0 fixes (λ j g there. apart 0 (suc j) f g (omega arith) refl there))
    (distinct_fixes fixes (λ i j one other less first second. apart (suc i) (suc j) one other (omega arith) first second))

any_below : (n q : ℕ) (fixes : List Fix) → ((j : ℕ) (g : Fix) → slice_get fixes j ≡ Some g → g.0 < n) → list_any (eqb q) (map (λ fix. fix.0) fixes) ≡ true → q < n
any_below n q [] below is = absurd (let clash : false ≡ true = is in cc)
any_below n q (g ∷ fixes) below is =
    elim (eqb q g.0) as (λ b. eqb q g.0 ≡ b → (b || list_any (eqb q) (map (λ fix. fix.0) fixes)) ≡ true → q < n) [
      | true ↦ λ test _. omega (arith, (Decides-eqb q g.0).0 test, below 0 g refl)
      | false ↦ λ _ rest. any_below n q fixes (λ j h there. below (suc j) h there) rest
    ] refl is

length_map : (fixes : List Fix) → length (map (λ fix. fix.0) fixes) ≡ length fixes
length_map [] = refl
length_map (f ∷ fixes) = ap suc (length_map fixes)

pub few_fixes : (b : FixedCells) (lows highs mins maxs : List ℤ) → IsKept b lows highs mins maxs → length b.fixes ≤ b.system.cells
few_fixes b lows highs mins maxs kept =
    let distinct = distinct_fixes b.fixes (λ i j f g less first second. free_is_new (record b { fixes = take j b.fixes }) i f g.0 kept.proper.from_one (get_in_take b.fixes j i f less first) (kept.free j g second)) in
    let few = length-le_from_distinct_below (map (λ fix. fix.0) b.fixes) b.system.cells distinct (λ q is. any_below b.system.cells q b.fixes (λ j g there. omega (arith, (kept.free j g there).inside, kept.proper.each)) is) in
    omega (arith, few, length_map b.fixes)

-- ---- what a change of one number needs

pub settable_low : (b : FixedCells) (lows highs mins maxs : List ℤ) (rs : List Relation) (named : List ℕ) (cell : ℕ) (to : ℤ) → IsKept b lows highs mins maxs → rs ≡ b.system.relations → IsNamingOf b.system.relations cell named → cell < length b.truths
    → (to ≡ number_at lows cell +ℤ b.base) ⊎ (to ≡ number_at lows cell -ℤ b.base) → IsSettable rs named lows cell to mins maxs
settable_low b lows highs mins maxs rs named cell to kept same naming inside is =
    let small = kept_small b lows highs mins maxs kept in
    let most = kept.proper.to_most in
    let positive = kept.proper.from_one in
    let long = lows_long b lows highs mins maxs kept in
    subst (λ (relations : List Relation). IsSettable relations named lows cell to mins maxs) (sym same)
    (record {
      naming = naming;
      names = subst (λ (n : ℕ). All (NamesCells n) b.system.relations) (sym long) b.system.named;
      inside = omega (arith, long, kept.proper.each, inside);
      low = elim is as (λ _. neg_ℤ (pos (2 ^ 74)) ≤ℤ (to -ℤ number_at lows cell)) [ inl up ↦ omega (arith, ints, up, positive) | inr down ↦ omega (arith, ints, down, most) ];
      high = elim is as (λ _. (to -ℤ number_at lows cell) ≤ℤ pos (2 ^ 74)) [ inl up ↦ omega (arith, ints, up, most) | inr down ↦ omega (arith, ints, down, positive) ];
      first_each = kept.least.each;
      second_each = kept.greatest.each;
      first_small = small.0;
      second_small = small.1;
    })

pub settable_high : (b : FixedCells) (lows highs mins maxs : List ℤ) (rs : List Relation) (named : List ℕ) (cell : ℕ) (to : ℤ) → IsKept b lows highs mins maxs → rs ≡ b.system.relations → IsNamingOf b.system.relations cell named → cell < length b.truths
    → (to ≡ number_at highs cell +ℤ b.base) ⊎ (to ≡ number_at highs cell -ℤ b.base) → IsSettable rs named highs cell to maxs mins
settable_high b lows highs mins maxs rs named cell to kept same naming inside is =
    let small = kept_small b lows highs mins maxs kept in
    let most = kept.proper.to_most in
    let positive = kept.proper.from_one in
    let long = highs_long b lows highs mins maxs kept in
    subst (λ (relations : List Relation). IsSettable relations named highs cell to maxs mins) (sym same)
    (record {
      naming = naming;
      names = subst (λ (n : ℕ). All (NamesCells n) b.system.relations) (sym long) b.system.named;
      inside = omega (arith, long, kept.proper.each, inside);
      low = elim is as (λ _. neg_ℤ (pos (2 ^ 74)) ≤ℤ (to -ℤ number_at highs cell)) [ inl up ↦ omega (arith, ints, up, positive) | inr down ↦ omega (arith, ints, down, most) ];
      high = elim is as (λ _. (to -ℤ number_at highs cell) ≤ℤ pos (2 ^ 74)) [ inl up ↦ omega (arith, ints, up, most) | inr down ↦ omega (arith, ints, down, positive) ];
      first_each = kept.greatest.each;
      second_each = kept.least.each;
      first_small = small.1;
      second_small = small.0;
    })

-- ---- one more is fixed

last_or_before : (fixes : List Fix) (fix : Fix) (place : ℕ) (one : Fix) → slice_get (fixes ++ fix ∷ []) place ≡ Some one → ((place < length fixes) × (slice_get fixes place ≡ Some one)) ⊎ ((place ≡ length fixes) × (one ≡ fix))
last_or_before [] fix zero one there = inr (refl, sym (same_Some fix one there))
last_or_before [] fix (suc place) one there = absurd (omega (arith, slice_get_within (fix ∷ []) (suc place) one there))
last_or_before (f ∷ fixes) fix zero one there = inl (omega arith, there)
last_or_before (f ∷ fixes) fix (suc place) one there =
    elim (last_or_before fixes fix place one there) as (λ _. ((suc place < suc (length fixes)) × (slice_get (f ∷ fixes) (suc place) ≡ Some one)) ⊎ ((suc place ≡ suc (length fixes)) × (one ≡ fix))) [
      | inl before ↦ inl (omega (arith, before.0), before.1)
      | inr last ↦ inr (ap suc last.0, last.1)
    ]

pub free_more : (b : FixedCells) (fix : Fix) → ((place : ℕ) (one : Fix) → slice_get b.fixes place ≡ Some one → IsFree (record b { fixes = take place b.fixes }) one.0) → IsFree b fix.0
    → (place : ℕ) (one : Fix) → slice_get (b.fixes ++ fix ∷ []) place ≡ Some one → IsFree (record b { fixes = take place (b.fixes ++ fix ∷ []) }) one.0
free_more b fix free here place one there =
    elim (last_or_before b.fixes fix place one there) as (λ _. IsFree (record b { fixes = take place (b.fixes ++ fix ∷ []) }) one.0) [
      | inl before ↦ subst (λ (fs : List Fix). IsFree (record b { fixes = fs }) one.0) (sym (take-append-le place b.fixes (fix ∷ []) (omega (arith, before.0)))) (free place one before.1)
      | inr last ↦
          let whole : take place (b.fixes ++ fix ∷ []) ≡ b.fixes = ap (λ (k : ℕ). take k (b.fixes ++ fix ∷ [])) last.0 ∙ take-append_seam b.fixes (fix ∷ []) in
          subst (λ (fs : List Fix). IsFree (record b { fixes = fs }) one.0) (sym whole) (subst (λ (f : Fix). IsFree b f.0) (sym last.1) here)
    ]

-- the numbers to a side, where a cell that is free is fixed at that side
same_side : (side : Bool) (b : FixedCells) (cell : ℕ) → number_left side b cell ≡ neighbour b.base (number_at b.truths cell) side → by_fixes side b.base b.truths (b.fixes ++ (cell, side) ∷ []) ≡ by_fixes side b.base b.truths b.fixes
same_side side b cell is =
    one_more_fix side b.base b.truths b.fixes (cell, side)
    ∙ ap (λ (z : ℤ). set (by_fixes side b.base b.truths b.fixes) cell z) (sym is)
    ∙ set-get_or (by_fixes side b.base b.truths b.fixes) cell (pos 0)

pub kept_up : (b : FixedCells) (lows highs mins maxs : List ℤ) (rs : List Relation) (cell : ℕ) (up : Bool) (fixes' : List Fix) (lows' mins' maxs' : List ℤ) → IsKept b lows highs mins maxs → rs ≡ b.system.relations → IsFree b cell → up ≡ true → fixes' ≡ b.fixes ++ (cell, up) ∷ [] → lows' ≡ set lows cell (number_at highs cell)
    → AreExtremes lows' highs rs mins' → AreExtremes highs lows' rs maxs' → IsKept (record b { fixes = fixes' }) lows' highs mins' maxs'
kept_up b lows highs mins maxs rs cell up fixes' lows' mins' maxs' kept same free side longer set_so least greatest =
    let fixed : fixes' ≡ b.fixes ++ (cell, true) ∷ [] = longer ∙ ap (λ (u : Bool). b.fixes ++ (cell, u) ∷ []) side in
    let to : number_at highs cell ≡ neighbour b.base (number_at b.truths cell) true = high_left b lows highs mins maxs kept cell ∙ free.high in
    subst (λ (fs : List Fix). IsKept (record b { fixes = fs }) lows' highs mins' maxs') (sym fixed)
    (record {
      proper = kept.proper;
      free = free_more b (cell, true) kept.free free;
      lower = set_so ∙ (λ i. set (kept.lower i) cell (to i)) ∙ sym (one_more_fix false b.base b.truths b.fixes (cell, true));
      upper = kept.upper ∙ sym (same_side true b cell free.high);
      least = subst (λ (relations : List Relation). AreExtremes lows' highs relations mins') same least;
      greatest = subst (λ (relations : List Relation). AreExtremes highs lows' relations maxs') same greatest;
    })

pub kept_down : (b : FixedCells) (lows highs mins maxs : List ℤ) (rs : List Relation) (cell : ℕ) (up : Bool) (fixes' : List Fix) (highs' mins' maxs' : List ℤ) → IsKept b lows highs mins maxs → rs ≡ b.system.relations → IsFree b cell → up ≡ false → fixes' ≡ b.fixes ++ (cell, up) ∷ [] → highs' ≡ set highs cell (number_at lows cell)
    → AreExtremes lows highs' rs mins' → AreExtremes highs' lows rs maxs' → IsKept (record b { fixes = fixes' }) lows highs' mins' maxs'
kept_down b lows highs mins maxs rs cell up fixes' highs' mins' maxs' kept same free side longer set_so least greatest =
    let fixed : fixes' ≡ b.fixes ++ (cell, false) ∷ [] = longer ∙ ap (λ (u : Bool). b.fixes ++ (cell, u) ∷ []) side in
    let to : number_at lows cell ≡ neighbour b.base (number_at b.truths cell) false = low_left b lows highs mins maxs kept cell ∙ free.low in
    subst (λ (fs : List Fix). IsKept (record b { fixes = fs }) lows highs' mins' maxs') (sym fixed)
    (record {
      proper = kept.proper;
      free = free_more b (cell, false) kept.free free;
      lower = kept.lower ∙ sym (same_side false b cell free.low);
      upper = set_so ∙ (λ i. set (kept.upper i) cell (to i)) ∙ sym (one_more_fix true b.base b.truths b.fixes (cell, false));
      least = subst (λ (relations : List Relation). AreExtremes lows highs' relations mins') same least;
      greatest = subst (λ (relations : List Relation). AreExtremes highs' lows relations maxs') same greatest;
    })

-- ---- the last one is freed

get_in_front : {X : Type 0} (xs : List X) (x : X) (place : ℕ) (one : X) → slice_get xs place ≡ Some one → slice_get (xs ++ x ∷ []) place ≡ Some one
get_in_front {X} [] x place one there = absurd (omega (arith, slice_get_within [] place one there))
get_in_front {X} (y ∷ xs) x zero one there = there
get_in_front {X} (y ∷ xs) x (suc place) one there = get_in_front xs x place one there

get_last : {X : Type 0} (xs : List X) (x : X) → slice_get (xs ++ x ∷ []) (length xs) ≡ Some x
get_last {X} [] x = refl
get_last {X} (y ∷ xs) x = get_last xs x

-- what is known of the cell that was fixed last
pub record IsLast (b : FixedCells) (rest : List Fix) (cell : ℕ) (up : Bool) : Type 0 where
  pub was_free : IsFree (record b { fixes = rest }) cell
  pub earlier : (place : ℕ) (one : Fix) → slice_get rest place ≡ Some one → IsFree (record b { fixes = take place rest }) one.0
  pub here : (side : Bool) → number_left side b cell ≡ neighbour b.base (number_at b.truths cell) up

pub last_of : (b : FixedCells) (lows highs mins maxs : List ℤ) (rest : List Fix) (cell : ℕ) (up : Bool) → IsKept b lows highs mins maxs → b.fixes ≡ rest ++ (cell, up) ∷ [] → IsLast b rest cell up
last_of b lows highs mins maxs rest cell up kept longer =
    let there : slice_get b.fixes (length rest) ≡ Some (cell, up) = ap (λ (fs : List Fix). slice_get fs (length rest)) longer ∙ get_last rest (cell, up) in
    let front : take (length rest) b.fixes ≡ rest = ap (λ (fs : List Fix). take (length rest) fs) longer ∙ take-append_seam rest ((cell, up) ∷ []) in
    let free : IsFree (record b { fixes = rest }) cell = subst (λ (fs : List Fix). IsFree (record b { fixes = fs }) cell) front (kept.free (length rest) (cell, up) there) in
    record {
      was_free = free;
      earlier = λ place one found.
          let under : place < length rest = slice_get_within rest place one found in
          let same : take place b.fixes ≡ take place rest = ap (λ (fs : List Fix). take place fs) longer ∙ take-append-le place rest ((cell, up) ∷ []) (omega arith) in
          subst (λ (fs : List Fix). IsFree (record b { fixes = fs }) one.0) same (kept.free place one (ap (λ (fs : List Fix). slice_get fs place) longer ∙ get_in_front rest (cell, up) place one found));
      here = λ side.
          ap (λ (fs : List Fix). number_at (by_fixes side b.base b.truths fs) cell) longer
          ∙ ap (λ (xs : List ℤ). number_at xs cell) (one_more_fix side b.base b.truths rest (cell, up))
          ∙ get_or-set_same (by_fixes side b.base b.truths rest) cell (neighbour b.base (number_at b.truths cell) up) (pos 0) (omega (arith, length-by_fixes side b.base b.truths rest, free.inside));
    }

-- the numbers to the other side, before, from those that there are after
other_back : (side up : Bool) (b : FixedCells) (rest : List Fix) (cell : ℕ) (to : ℤ) → number_left side (record b { fixes = rest }) cell ≡ to → set (by_fixes side b.base b.truths (rest ++ (cell, up) ∷ [])) cell to ≡ by_fixes side b.base b.truths rest
other_back side up b rest cell to is =
    ap (λ (xs : List ℤ). set xs cell to) (one_more_fix side b.base b.truths rest (cell, up))
    ∙ set-set (by_fixes side b.base b.truths rest) cell (neighbour b.base (number_at b.truths cell) up) to
    ∙ ap (λ (z : ℤ). set (by_fixes side b.base b.truths rest) cell z) (sym is)
    ∙ set-get_or (by_fixes side b.base b.truths rest) cell (pos 0)

pub back_up : (b : FixedCells) (lows highs mins maxs : List ℤ) (rs : List Relation) (rest : List Fix) (cell : ℕ) (up : Bool) (to : ℤ) (lows' mins' maxs' : List ℤ) → IsKept b lows highs mins maxs → rs ≡ b.system.relations → b.fixes ≡ rest ++ (cell, up) ∷ [] → up ≡ true → to ≡ number_at lows cell -ℤ b.base → lows' ≡ set lows cell to
    → AreExtremes lows' highs rs mins' → AreExtremes highs lows' rs maxs' → IsKept (record b { fixes = rest }) lows' highs mins' maxs'
back_up b lows highs mins maxs rs rest cell up to lows' mins' maxs' kept same longer side to_is set_so least greatest =
    let last = last_of b lows highs mins maxs rest cell up kept longer in
    let here = last.here false ∙ ap (λ (u : Bool). neighbour b.base (number_at b.truths cell) u) side in
    let to_low : number_left false (record b { fixes = rest }) cell ≡ to = last.was_free.low ∙ omega (arith, ints, to_is, here, low_left b lows highs mins maxs kept cell) in
    let at_true : b.fixes ≡ rest ++ (cell, true) ∷ [] = longer ∙ ap (λ (u : Bool). rest ++ (cell, u) ∷ []) side in
    record {
      proper = kept.proper;
      free = last.earlier;
      lower = set_so ∙ ap (λ (xs : List ℤ). set xs cell to) kept.lower ∙ ap (λ (fs : List Fix). set (by_fixes false b.base b.truths fs) cell to) longer ∙ other_back false up b rest cell to to_low;
      upper = kept.upper ∙ ap (λ (fs : List Fix). by_fixes true b.base b.truths fs) at_true ∙ same_side true (record b { fixes = rest }) cell last.was_free.high;
      least = subst (λ (relations : List Relation). AreExtremes lows' highs relations mins') same least;
      greatest = subst (λ (relations : List Relation). AreExtremes highs lows' relations maxs') same greatest;
    }

pub back_down : (b : FixedCells) (lows highs mins maxs : List ℤ) (rs : List Relation) (rest : List Fix) (cell : ℕ) (up : Bool) (to : ℤ) (highs' mins' maxs' : List ℤ) → IsKept b lows highs mins maxs → rs ≡ b.system.relations → b.fixes ≡ rest ++ (cell, up) ∷ [] → up ≡ false → to ≡ number_at highs cell +ℤ b.base → highs' ≡ set highs cell to
    → AreExtremes lows highs' rs mins' → AreExtremes highs' lows rs maxs' → IsKept (record b { fixes = rest }) lows highs' mins' maxs'
back_down b lows highs mins maxs rs rest cell up to highs' mins' maxs' kept same longer side to_is set_so least greatest =
    let last = last_of b lows highs mins maxs rest cell up kept longer in
    let here = last.here true ∙ ap (λ (u : Bool). neighbour b.base (number_at b.truths cell) u) side in
    let to_high : number_left true (record b { fixes = rest }) cell ≡ to = last.was_free.high ∙ omega (arith, ints, to_is, here, high_left b lows highs mins maxs kept cell) in
    let at_false : b.fixes ≡ rest ++ (cell, false) ∷ [] = longer ∙ ap (λ (u : Bool). rest ++ (cell, u) ∷ []) side in
    record {
      proper = kept.proper;
      free = last.earlier;
      lower = kept.lower ∙ ap (λ (fs : List Fix). by_fixes false b.base b.truths fs) at_false ∙ same_side false (record b { fixes = rest }) cell last.was_free.low;
      upper = set_so ∙ ap (λ (xs : List ℤ). set xs cell to) kept.upper ∙ ap (λ (fs : List Fix). set (by_fixes true b.base b.truths fs) cell to) longer ∙ other_back true up b rest cell to to_high;
      least = subst (λ (relations : List Relation). AreExtremes lows highs' relations mins') same least;
      greatest = subst (λ (relations : List Relation). AreExtremes highs' lows relations maxs') same greatest;
    }

-- the list without its last
pub all_but_last : (fixes rest : List Fix) (fix : Fix) → fixes ≡ rest ++ fix ∷ [] → rest ≡ take (length fixes - 1) fixes
all_but_last fixes rest fix longer =
    let long : length fixes - 1 ≡ length rest = omega (arith, ap (λ (fs : List Fix). length fs) longer, length-append rest (fix ∷ [])) in
    sym (take-append_seam rest (fix ∷ [])) ∙ ap (λ (fs : List Fix). take (length rest) fs) (sym longer) ∙ ap (λ (k : ℕ). take k fixes) (sym long)

-- ---- nothing is fixed

pub kept_none : (b : FixedCells) (lows highs mins maxs : List ℤ) → IsProper b.system b.truths b.base → b.fixes ≡ [] → lows ≡ by_choices false b.base b.truths [] → highs ≡ by_choices true b.base b.truths [] → AreExtremes lows highs b.system.relations mins → AreExtremes highs lows b.system.relations maxs → IsKept b lows highs mins maxs
kept_none b lows highs mins maxs proper none lower upper least greatest = record {
  proper = proper;
  free = λ place fix there. absurd (omega (arith, slice_get_within b.fixes place fix there, ap (λ (fs : List Fix). length fs) none));
  lower = lower ∙ ap (λ (fs : List Fix). by_fixes false b.base b.truths fs) (sym none);
  upper = upper ∙ ap (λ (fs : List Fix). by_fixes true b.base b.truths fs) (sym none);
  least = least;
  greatest = greatest;
}

pub same_extremes : (one one' other other' : List ℤ) (rs rs' : List Relation) (sums : List ℤ) → one ≡ one' → other ≡ other' → rs ≡ rs' → AreExtremes one other rs sums → AreExtremes one' other' rs' sums
same_extremes one one' other other' rs rs' sums p q r are =
    subst (λ (xs : List ℤ). AreExtremes xs other' rs' sums) p (subst (λ (ys : List ℤ). AreExtremes one ys rs' sums) q (subst (λ (zs : List Relation). AreExtremes one other zs sums) r are))

-- ---- as code reads it

-- numbers left are far within 128 bits
pub left_within : (b : FixedCells) (lows highs mins maxs : List ℤ) → IsKept b lows highs mins maxs → (side : Bool) (c : ℕ) → c < length b.truths → (neg_ℤ (pos (10 ^ 30)) ≤ℤ number_left side b c) × (number_left side b c ≤ℤ pos (10 ^ 30))
left_within b lows highs mins maxs kept side c below =
    let near = left_near side b kept.proper (λ place fix there. (kept.free place fix there).unrounded) c in
    let truth = kept.proper.within c (pos 0) below in
    (omega (arith, ints, near.low, near.high, truth.from_zero, truth.at_most), omega (arith, ints, near.low, near.high, truth.from_zero, truth.at_most))

pub allows_up : (b : FixedCells) (cell : ℕ) (up : Bool) (x : ℤ) → up ≡ true → x ≡ number_left true b cell → int_lt (number_at b.truths cell) x ≡ allows b cell up
allows_up b cell true x side is = ap (λ z. int_lt (number_at b.truths cell) z) is
allows_up b cell false x side is = absurd (let clash : false ≡ true = side in cc)

pub allows_down : (b : FixedCells) (cell : ℕ) (up : Bool) (x : ℤ) → up ≡ false → x ≡ number_left false b cell → int_lt x (number_at b.truths cell) ≡ allows b cell up
allows_down b cell false x side is = ap (λ z. int_lt z (number_at b.truths cell)) is
allows_down b cell true x side is = absurd (let clash : true ≡ false = side in cc)

pub free_from : (b : FixedCells) (cell : ℕ) (low high : ℤ) → cell < length b.truths → low ≡ number_left false b cell → high ≡ number_left true b cell → int_lt low high ≡ true → IsFree b cell
free_from b cell low high below low_is high_is less =
    elim (either_left b cell below) as (λ _. IsFree b cell) [
      | inl same ↦ absurd (let under : low <ℤ high = grind (arith, ints, less) in omega (arith, ints, under, low_is, high_is, same))
      | inr free ↦ free
    ]

pub one_from : (b : FixedCells) (cell : ℕ) (low high : ℤ) → pos 1 ≤ℤ b.base → cell < length b.truths → low ≡ number_left false b cell → high ≡ number_left true b cell → int_lt low high ≡ false → number_left false b cell ≡ number_left true b cell
one_from b cell low high positive below low_is high_is not_less =
    elim (either_left b cell below) as (λ _. number_left false b cell ≡ number_left true b cell) [
      | inl same ↦ same
      | inr free ↦ absurd (let under : low <ℤ high = omega (arith, ints, low_is, high_is, free.low, free.high, positive) in let test : int_lt low high ≡ true = grind (arith, ints, under) in let clash : true ≡ false = sym test ∙ not_less in cc)
    ]

-- what is known of the cell that is freed
pub record IsBack (b : FixedCells) (lows highs : List ℤ) (naming : List (List ℕ)) (cell : ℕ) : Type 0 where
  pub inside : cell < length b.truths
  pub inside_cells : cell < b.system.cells
  pub inside_naming : cell < length naming
  pub inside_lows : cell < length lows
  pub inside_highs : cell < length highs
  pub low_from : neg_ℤ (pos (10 ^ 30)) ≤ℤ number_at lows cell
  pub low_to : number_at lows cell ≤ℤ pos (10 ^ 30)
  pub high_from : neg_ℤ (pos (10 ^ 30)) ≤ℤ number_at highs cell
  pub high_to : number_at highs cell ≤ℤ pos (10 ^ 30)
  pub positive : pos 1 ≤ℤ b.base
  pub most : b.base ≤ℤ pos (10 ^ 22)

pub back_of : (b : FixedCells) (lows highs mins maxs : List ℤ) (naming : List (List ℕ)) (rest : List Fix) (fix : Fix) → IsKept b lows highs mins maxs → IsNaming b.system naming → b.fixes ≡ rest ++ fix ∷ [] → IsBack b lows highs naming fix.0
back_of b lows highs mins maxs naming rest fix kept is longer =
    let last = last_of b lows highs mins maxs rest fix.0 fix.1 kept longer in
    let inside = last.was_free.inside in
    let low = left_within b lows highs mins maxs kept false fix.0 inside in
    let high = left_within b lows highs mins maxs kept true fix.0 inside in
    record {
      inside = inside;
      inside_cells = omega (arith, inside, kept.proper.each);
      inside_naming = omega (arith, inside, kept.proper.each, is.each);
      inside_lows = omega (arith, inside, kept.proper.each, lows_long b lows highs mins maxs kept);
      inside_highs = omega (arith, inside, kept.proper.each, highs_long b lows highs mins maxs kept);
      low_from = omega (arith, ints, low.0, low_left b lows highs mins maxs kept fix.0);
      low_to = omega (arith, ints, low.1, low_left b lows highs mins maxs kept fix.0);
      high_from = omega (arith, ints, high.0, high_left b lows highs mins maxs kept fix.0);
      high_to = omega (arith, ints, high.1, high_left b lows highs mins maxs kept fix.0);
      positive = kept.proper.from_one;
      most = kept.proper.to_most;
    }
