-- Those of a list that pass a test, by where they stand in it.
use Rattle.std.proofs.Common.{◌≡◌, ℕ, zero, suc, ◌+◌, ◌<◌, Bool, true, false, List, [], ◌∷◌, ◌++◌, length, map, filter, get_or, All, arith, refl, ap, ◌∙◌, if◌then◌else◌}
use Rattle.std.specs.List.{flat_map}
use Rattle.std.proofs.lemmas.List.Elements.{filter-append, All-head, All-tail}

-- whether the one at a place passes; all that stand behind the list do
abbrev pub passes_at : {X : Type 0} → (X → Bool) → List X → ℕ → Bool
passes_at q [] k = true
passes_at q (x ∷ xs) zero = q x
passes_at q (x ∷ xs) (suc k) = passes_at q xs k

-- how many before a place pass
abbrev pub place_among : {X : Type 0} → (X → Bool) → List X → ℕ → ℕ
place_among q [] k = k
place_among q (x ∷ xs) zero = zero
place_among q (x ∷ xs) (suc k) = if q x then suc (place_among q xs k) else place_among q xs k

-- one more in front
abbrev pub next_place : (ℕ → ℕ) → ℕ → ℕ
next_place f zero = zero
next_place f (suc k) = suc (f k)

-- where the one that passes at a place among these stands
abbrev pub place_of : {X : Type 0} → (X → Bool) → List X → ℕ → ℕ
place_of q [] k = k
place_of q (x ∷ xs) k = if q x then next_place (place_of q xs) k else suc (place_of q xs k)

-- ---- places

next_ascend : (f : ℕ → ℕ) (j k : ℕ) → ((j k : ℕ) → j < k → f j < f k) → j < k → next_place f j < next_place f k
next_ascend f zero zero each less = absurd (omega arith)
next_ascend f zero (suc k) each less = omega arith
next_ascend f (suc j) zero each less = absurd (omega arith)
next_ascend f (suc j) (suc k) each less = omega (arith, each j k (omega arith))

pub place_ascend : {X : Type 0} (q : X → Bool) (xs : List X) (j k : ℕ) → j < k → place_of q xs j < place_of q xs k
place_ascend q [] j k less = less
place_ascend q (x ∷ xs) j k less =
    let f : ℕ → ℕ = place_of q xs in
    let each : (j k : ℕ) → j < k → f j < f k = place_ascend q xs in
    elim (q x) as (λ b. (if b then next_place f j else suc (f j)) < (if b then next_place f k else suc (f k))) [
      | true ↦ next_ascend f j k each less
      | false ↦ omega (arith, each j k less)
    ]

passes_next : {X : Type 0} (q : X → Bool) (x : X) (xs : List X) (f : ℕ → ℕ) (k : ℕ) → q x ≡ true → ((k : ℕ) → passes_at q xs (f k) ≡ true) → passes_at q (x ∷ xs) (next_place f k) ≡ true
passes_next q x xs f zero is each = is
passes_next q x xs f (suc k) is each = each k

pub place_passes : {X : Type 0} (q : X → Bool) (xs : List X) (k : ℕ) → passes_at q xs (place_of q xs k) ≡ true
place_passes q [] k = refl
place_passes q (x ∷ xs) k =
    let f : ℕ → ℕ = place_of q xs in
    elim (q x) as (λ b. q x ≡ b → passes_at q (x ∷ xs) (if b then next_place f k else suc (f k)) ≡ true) [
      | true ↦ λ is. passes_next q x xs f k is (place_passes q xs)
      | false ↦ λ is. place_passes q xs k
    ] refl

next_within : (f : ℕ → ℕ) (k m n : ℕ) → ((k : ℕ) → k < m + 1 → f k < n + 1) → k < suc m + 1 → next_place f k < suc n + 1
next_within f zero m n each below = omega arith
next_within f (suc k) m n each below = omega (arith, each k (omega arith))

pub place_within : {X : Type 0} (q : X → Bool) (xs : List X) (k : ℕ) → k < length (filter q xs) + 1 → place_of q xs k < length xs + 1
place_within q [] k below = below
place_within q (x ∷ xs) k below =
    let f : ℕ → ℕ = place_of q xs in
    elim (q x) as (λ b. k < length (if b then x ∷ filter q xs else filter q xs) + 1 → (if b then next_place f k else suc (f k)) < suc (length xs) + 1) [
      | true ↦ λ inside. next_within f k (length (filter q xs)) (length xs) (place_within q xs) inside
      | false ↦ λ inside. omega (arith, place_within q xs k inside)
    ] below

pub among_within : {X : Type 0} (q : X → Bool) (xs : List X) (k : ℕ) → k < length xs + 1 → passes_at q xs k ≡ true → place_among q xs k < length (filter q xs) + 1
among_within q [] k below is = below
among_within q (x ∷ xs) zero below is = omega arith
among_within q (x ∷ xs) (suc k) below is =
    let before : place_among q xs k < length (filter q xs) + 1 = among_within q xs k (omega arith) is in
    elim (q x) as (λ b. (if b then suc (place_among q xs k) else place_among q xs k) < length (if b then x ∷ filter q xs else filter q xs) + 1) [
      | true ↦ omega arith
      | false ↦ before
    ]

pub place_stands : {X : Type 0} (q : X → Bool) (xs : List X) (k : ℕ) → passes_at q xs k ≡ true → place_of q xs (place_among q xs k) ≡ k
place_stands q [] k is = refl
place_stands q (x ∷ xs) zero is = ap (λ b. if b then next_place (place_of q xs) zero else suc (place_of q xs zero)) is
place_stands q (x ∷ xs) (suc k) is =
    let f : ℕ → ℕ = place_of q xs in
    let a : ℕ = place_among q xs k in
    let before : f a ≡ k = place_stands q xs k is in
    elim (q x) as (λ b. (if b then next_place f (if b then suc a else a) else suc (f (if b then suc a else a))) ≡ suc k) [
      | true ↦ ap suc before
      | false ↦ ap suc before
    ]

-- ---- rows made of the list, and of those that pass

match_next : {A : Type 0} (R : A → A → Type 0) (first other d : A) (xs ys : List A) (f : ℕ → ℕ) (k m : ℕ) → R first other → ((k : ℕ) → k < m + 1 → R (get_or xs (f k) d) (get_or ys k d)) → k < suc m + 1 → R (get_or (first ∷ xs) (next_place f k) d) (get_or (other ∷ ys) k d)
match_next R first other d xs ys f zero m here each below = here
match_next R first other d xs ys f (suc k) m here each below = each k (omega arith)

pub rows_match : {X A : Type 0} (R : A → A → Type 0) (F G : X → A) (last other d : A) (q : X → Bool) (xs : List X) → All (λ x. q x ≡ true → R (F x) (G x)) xs → R last other → (k : ℕ) → k < length (filter q xs) + 1 →
    R (get_or (map F xs ++ last ∷ []) (place_of q xs k) d) (get_or (map G (filter q xs) ++ other ∷ []) k d)
rows_match R F G last other d q [] all ends zero below = ends
rows_match R F G last other d q [] all ends (suc k) below = absurd (omega arith)
rows_match {X = X} {A = A} R F G last other d q (x ∷ xs) all ends k below =
    let f : ℕ → ℕ = place_of q xs in
    let P : X → Type 0 = λ x. q x ≡ true → R (F x) (G x) in
    let rest : (k : ℕ) → k < length (filter q xs) + 1 → R (get_or (map F xs ++ last ∷ []) (f k) d) (get_or (map G (filter q xs) ++ other ∷ []) k d) = rows_match R F G last other d q xs (All-tail P x xs all) ends in
    elim (q x) as (λ b. q x ≡ b → k < length (if b then x ∷ filter q xs else filter q xs) + 1 → R (get_or (F x ∷ (map F xs ++ last ∷ [])) (if b then next_place f k else suc (f k)) d) (get_or (map G (if b then x ∷ filter q xs else filter q xs) ++ other ∷ []) k d)) [
      | true ↦ λ is inside. match_next R (F x) (G x) d (map F xs ++ last ∷ []) (map G (filter q xs) ++ other ∷ []) f k (length (filter q xs)) (All-head P x xs all is) rest inside
      | false ↦ λ is inside. rest k inside
    ] refl below

-- rows of those that don't pass
pub rows_out : {X A : Type 0} (S : A → Type 0) (F : X → A) (last d : A) (q : X → Bool) (xs : List X) → All (λ x. q x ≡ false → S (F x)) xs → (k : ℕ) → passes_at q xs k ≡ false → S (get_or (map F xs ++ last ∷ []) k d)
rows_out S F last d q [] all k is = absurd cc
rows_out S F last d q (x ∷ xs) all zero is = All-head (λ x. q x ≡ false → S (F x)) x xs all is
rows_out S F last d q (x ∷ xs) all (suc k) is = rows_out S F last d q xs (All-tail (λ x. q x ≡ false → S (F x)) x xs all) k is

-- ---- tests one after another

pub filter_both : {X : Type 0} (p r : X → Bool) (xs : List X) → ((x : X) → p x ≡ true → r x ≡ true) → filter p (filter r xs) ≡ filter p xs
filter_both p r [] each = refl
filter_both p r (x ∷ xs) each =
    elim (p x) as (λ b. p x ≡ b → filter p (if r x then x ∷ filter r xs else filter r xs) ≡ (if b then x ∷ filter p xs else filter p xs)) [
      | true ↦ λ is. ap (λ b. filter p (if b then x ∷ filter r xs else filter r xs)) (each x is) ∙ ap (λ b. if b then x ∷ filter p (filter r xs) else filter p (filter r xs)) is ∙ ap (λ ys. x ∷ ys) (filter_both p r xs each)
      | false ↦ λ is.
          elim (r x) as (λ c. filter p (if c then x ∷ filter r xs else filter r xs) ≡ filter p xs) [
            | true ↦ ap (λ b. if b then x ∷ filter p (filter r xs) else filter p (filter r xs)) is ∙ filter_both p r xs each
            | false ↦ filter_both p r xs each
          ]
    ] refl

pub filter_flat : {X Y : Type 0} (q : Y → Bool) (p : X → Bool) (f : X → List Y) (xs : List X) → ((x : X) → filter q (f x) ≡ (if p x then f x else [])) → filter q (flat_map f xs) ≡ flat_map f (filter p xs)
filter_flat q p f [] each = refl
filter_flat q p f (x ∷ xs) each =
    filter-append q (f x) (flat_map f xs)
    ∙ ap (λ ys. ys ++ filter q (flat_map f xs)) (each x)
    ∙ ap (λ ys. (if p x then f x else []) ++ ys) (filter_flat q p f xs each)
    ∙ elim (p x) as (λ b. (if b then f x else []) ++ flat_map f (filter p xs) ≡ flat_map f (if b then x ∷ filter p xs else filter p xs)) [ true ↦ refl | false ↦ refl ]
