-- What one short list keeps, offered to another, is enough.
use Rattle.std.proofs.Common.{◌≡◌, ℕ, zero, suc, ◌+◌, ◌≤◌, ◌<◌, add-one, get_or, true, false, List, [], ◌∷◌, ◌++◌, take, fold, length, ℤ, ◌≤ℤ◌, int_lt, arith, refl, ap, sym, subst, ◌∙◌, if◌then◌else◌}
use Rattle.std.specs.Prelude.{IsPermutation}
use Rattle.std.specs.List.{AllByRecursion}
use Rattle.std.proofs.lemmas.Int.{ints}
use Rattle.std.proofs.lemmas.List.Sums.{fold-append, fold_push}
use Rattle.std.proofs.lemmas.List.Sorted.{IsPermutation-refl, IsPermutation-trans, IsPermutation-cons, IsPermutation-swap, IsPermutation-sym, IsPermutation-append}
use Rattle.sdc_base.specs.declared.tops.Unit.{Unit as Contribution}
use Rattle.sdc_base.specs.Largest.{with_contribution, ranking_of}
use Rattle.sdc_base.proofs.Kept.{take-placed}
use Rattle.sdc_base.proofs.Fair.{IsDown, down_placed}

-- the first j are at least this value
abbrev Above : ℕ → ℤ → List Contribution → Type 0
Above j value zs = AllByRecursion (λ u. value ≤ℤ u.value) (take j zs) × (j ≤ length zs)

lower-bound : (value less : ℤ) (zs : List Contribution) → less ≤ℤ value → AllByRecursion (λ u. value ≤ℤ u.value) zs → AllByRecursion (λ u. less ≤ℤ u.value) zs
lower-bound value less [] h all = tt
lower-bound value less (z ∷ zs) h all = (omega (arith, ints, h, all.0), lower-bound value less zs h all.1)

behind : (j : ℕ) (value : ℤ) (z y : Contribution) (zs : List Contribution) → ((i : ℕ) → Above i value zs → Above (suc i) y.value (with_contribution zs y)) → Above j value (z ∷ zs) → y.value ≤ℤ z.value → Above (suc j) y.value (z ∷ with_contribution zs y)
behind zero value z y zs rest above up = ((up, tt), omega arith)
behind (suc j) value z y zs rest above up = let more = rest j (above.0.1, omega (arith, above.1)) in ((up, more.0), omega (arith, more.1))

-- with one that isn't above them there is one more
above-placed : (j : ℕ) (value : ℤ) (zs : List Contribution) (y : Contribution) → y.value ≤ℤ value → Above j value zs → Above (suc j) y.value (with_contribution zs y)
above-placed zero value [] y h above = ((omega (arith, ints), tt), omega arith)
above-placed (suc j) value [] y h above = absurd (omega (arith, above.1))
above-placed j value (z ∷ zs) y h above =
    elim (int_lt z.value y.value) as (λ b. int_lt z.value y.value ≡ b → Above (suc j) y.value (if b then y ∷ z ∷ zs else z ∷ with_contribution zs y)) [
      | true ↦ λ is. ((omega (arith, ints), lower-bound value y.value (take j (z ∷ zs)) h above.0), omega (arith, above.1))
      | false ↦ λ is. let up : y.value ≤ℤ z.value = grind (arith, ints, is) in behind j value z y zs (λ i more. above-placed i value zs y h more) above up
    ] refl

-- it goes behind them
stays : (k j : ℕ) (value : ℤ) (zs : List Contribution) (y : Contribution) → k ≤ j → y.value ≤ℤ value → Above j value zs → take k (with_contribution zs y) ≡ take k zs
stays zero j value zs y h low above = refl
stays (suc k) zero value zs y h low above = absurd (omega (arith, h))
stays (suc k) (suc j) value [] y h low above = absurd (omega (arith, above.1))
stays (suc k) (suc j) value (z ∷ zs) y h low above =
    let up : value ≤ℤ z.value = above.0.0 in
    let test : int_lt z.value y.value ≡ false = grind (arith, ints, up, low) in
    rw test (ap (λ t. z ∷ t) (stays k j value zs y (omega (arith, h)) low (above.0.1, omega (arith, above.1))))

-- the first of those that come by value downwards are enough
enough : (k n j : ℕ) (value : ℤ) (zs ys : List Contribution) → k ≤ j + n → IsDown ys → AllByRecursion (λ y. y.value ≤ℤ value) ys → Above j value zs → take k (fold with_contribution zs (take n ys)) ≡ take k (fold with_contribution zs ys)
enough k zero j value zs [] h down all above = refl
enough k (suc n) j value zs [] h down all above = refl
enough k zero j value zs (y ∷ ys) h down all above =
    let more = above-placed j value zs y all.0 above in
    sym (stays k j value zs y (omega (arith, h)) all.0 above) ∙ enough k zero (suc j) y.value (with_contribution zs y) ys (omega (arith, h)) down.1 down.0 more
enough k (suc n) j value zs (y ∷ ys) h down all above = enough k n (suc j) y.value (with_contribution zs y) ys (omega (arith, h)) down.1 down.0 (above-placed j value zs y all.0 above)

kept_first : (k n : ℕ) (zs ys : List Contribution) → k ≤ n → IsDown ys → take k (fold with_contribution zs (take n ys)) ≡ take k (fold with_contribution zs ys)
kept_first k zero zs [] h down = refl
kept_first k (suc n) zs [] h down = refl
kept_first k zero zs (y ∷ ys) h down = enough k zero 0 y.value zs (y ∷ ys) (omega (arith, h)) down (omega (arith, ints), down.0) (tt, omega arith)
kept_first k (suc n) zs (y ∷ ys) h down = enough k (suc n) 0 y.value zs (y ∷ ys) (omega (arith, h)) down (omega (arith, ints), down.0) (tt, omega arith)

-- where the first ones are the same, so they are with more
same_first : (k : ℕ) (zs ws us : List Contribution) → take k zs ≡ take k ws → take k (fold with_contribution zs us) ≡ take k (fold with_contribution ws us)
same_first k zs ws [] h = h
same_first k zs ws (u ∷ us) h = same_first k (with_contribution zs u) (with_contribution ws u) us (sym (take-placed k zs u) ∙ ap (λ t. take k (with_contribution t u)) h ∙ take-placed k ws u)

down_fold : (zs us : List Contribution) → IsDown zs → IsDown (fold with_contribution zs us)
down_fold zs [] down = down
down_fold zs (u ∷ us) down = down_fold (with_contribution zs u) us (down_placed zs u down)

pub down_ranked : (us : List Contribution) → IsDown (ranking_of us)
down_ranked us = down_fold [] us tt

take-self : (k : ℕ) (zs : List Contribution) → take k (take k zs) ≡ take k zs
take-self zero zs = refl
take-self (suc k) [] = refl
take-self (suc k) (z ∷ zs) = ap (λ t. z ∷ t) (take-self k zs)

-- what a list keeps of both
pub joined_kept : (k n : ℕ) (one other : List Contribution) → k ≤ n → take k (fold with_contribution (take k (ranking_of one)) (take n (ranking_of other))) ≡ take k (ranking_of (one ++ ranking_of other))
joined_kept k n one other h =
    same_first k (take k (ranking_of one)) (ranking_of one) (take n (ranking_of other)) (take-self k (ranking_of one))
    ∙ kept_first k n (ranking_of one) (ranking_of other) h (down_ranked other)
    ∙ ap (take k) (sym (fold-append with_contribution [] one (ranking_of other)))

take-next : (i : ℕ) (xs : List Contribution) (d : Contribution) → i < length xs → take (suc i) xs ≡ take i xs ++ get_or xs i d ∷ []
take-next i [] d h = absurd (omega (arith, h))
take-next zero (x ∷ xs) d h = refl
take-next (suc i) (x ∷ xs) d h = ap (λ t. x ∷ t) (take-next i xs d (omega (arith, h)))

-- one more of those that are offered
pub joined_next : (same k i : ℕ) (list now slice units : List Contribution) (d : Contribution) → same ≡ k → slice ≡ units → i < length slice → now ≡ take k (fold with_contribution list (take i units)) → take same (with_contribution now (get_or slice i d)) ≡ take k (fold with_contribution list (take (i + 1) units))
joined_next same k i list now slice units d keeps is within begun =
    ap (λ n. take n (with_contribution now (get_or slice i d))) keeps
    ∙ ap (λ zs. take k (with_contribution zs (get_or slice i d))) begun
    ∙ take-placed k (fold with_contribution list (take i units)) (get_or slice i d)
    ∙ ap (λ us. take k (with_contribution (fold with_contribution list (take i units)) (get_or us i d))) is
    ∙ ap (take k) (sym (fold_push with_contribution list (take i units) (get_or units i d)))
    ∙ ap (λ us. take k (fold with_contribution list us)) (sym (take-next i units d (subst (λ us. i < length us) is within)))
    ∙ ap (λ n. take k (fold with_contribution list (take n units))) (sym (add-one i))

-- ---- ranking moves contributions, and no more

placed_moves : (zs : List Contribution) (y : Contribution) → IsPermutation (y ∷ zs) (with_contribution zs y)
placed_moves [] y = IsPermutation-refl (y ∷ [])
placed_moves (z ∷ zs) y =
    elim (int_lt z.value y.value) as (λ b. IsPermutation (y ∷ z ∷ zs) (if b then y ∷ z ∷ zs else z ∷ with_contribution zs y)) [
      | true ↦ IsPermutation-refl (y ∷ z ∷ zs)
      | false ↦ IsPermutation-trans (y ∷ z ∷ zs) (z ∷ y ∷ zs) (z ∷ with_contribution zs y) (IsPermutation-swap (y ∷ z ∷ zs) (z ∷ y ∷ zs) 0 1 (omega arith) (omega arith) refl) (IsPermutation-cons z (y ∷ zs) (with_contribution zs y) (placed_moves zs y))
    ]

fold_moves : (zs us : List Contribution) → IsPermutation (us ++ zs) (fold with_contribution zs us)
fold_moves zs [] = IsPermutation-refl zs
fold_moves zs (u ∷ us) =
    IsPermutation-trans (u ∷ us ++ zs) (us ++ u ∷ zs) (fold with_contribution (with_contribution zs u) us) (IsPermutation-sym _ _ (middle us))
    (IsPermutation-trans (us ++ u ∷ zs) (us ++ with_contribution zs u) (fold with_contribution (with_contribution zs u) us) (IsPermutation-append us us (u ∷ zs) (with_contribution zs u) (IsPermutation-refl us) (placed_moves zs u)) (fold_moves (with_contribution zs u) us))
  where
    middle : (us : List Contribution) → IsPermutation (us ++ u ∷ zs) (u ∷ us ++ zs)
    middle [] = IsPermutation-refl (u ∷ zs)
    middle (v ∷ us) =
        IsPermutation-trans (v ∷ us ++ u ∷ zs) (v ∷ u ∷ us ++ zs) (u ∷ v ∷ us ++ zs) (IsPermutation-cons v (us ++ u ∷ zs) (u ∷ us ++ zs) (middle us))
        (IsPermutation-swap (v ∷ u ∷ us ++ zs) (u ∷ v ∷ us ++ zs) 0 1 (omega arith) (omega arith) refl)

pub ranked_moves : (us : List Contribution) → IsPermutation us (ranking_of us)
ranked_moves us = subst (λ t. IsPermutation t (ranking_of us)) (append-none us) (fold_moves [] us)
  where
    append-none : (us : List Contribution) → us ++ [] ≡ us
    append-none [] = refl
    append-none (u ∷ us) = ap (λ t. u ∷ t) (append-none us)
