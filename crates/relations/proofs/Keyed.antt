-- Lists made cell by cell and variable by variable: each item has its pair of these, and the pair has one place.
use Rattle.std.proofs.Common.{◌≡◌, ◌⊎◌, inl, inr, ℕ, zero, suc, ◌+◌, ◌<◌, List, [], ◌∷◌, ◌++◌, length, map, slice_get, Option, None, Some, option_map, arith, refl, ap, sym, ◌∙◌, subst, length-append}
use Rattle.std.proofs.lemmas.List.{map-append}
use Rattle.std.specs.List.{cons_option, filter_map, flat_map, range_with_len}

-- an item of two lists joined is of one of them
get-append : {X : Type 0} (xs ys : List X) (k : ℕ) (x : X) → slice_get (xs ++ ys) k ≡ Some x → (slice_get xs k ≡ Some x) ⊎ ((j : ℕ) × (k ≡ length xs + j) × (slice_get ys j ≡ Some x))
get-append [] ys k x h = inr (k, omega arith, h)
get-append (y ∷ xs) ys zero x h = inl h
get-append {X = X} (y ∷ xs) ys (suc k) x h =
    elim (get-append xs ys k x h) as (λ _. (slice_get (y ∷ xs) (suc k) ≡ Some x) ⊎ ((j : ℕ) × (suc k ≡ suc (length xs) + j) × (slice_get ys j ≡ Some x))) [
      | inl front ↦ inl front
      | inr back ↦ inr (back.0, omega (arith, back.1), back.2)
    ]

-- what a choice makes of the numbers before one that it takes tells at which place that one's item stands
pub get-chosen : {X : Type 0} (g : ℕ → Option X) (a n k : ℕ) (x : X) → slice_get (filter_map g (range_with_len a n)) k ≡ Some x → (d : ℕ) × (d < n) × (g (a + d) ≡ Some x) × (k ≡ length (filter_map g (range_with_len a d)))
get-chosen g a zero k x h = absurd cc
get-chosen {X = X} g a (suc n) k x h = by (λ j at. get-chosen g (a + 1) n j x at) (g a) refl k h
  where
    from : (d : ℕ) → (a + 1) + d ≡ a + suc d
    from d = omega arith

    Rest : Type 0
    Rest = (k : ℕ) → slice_get (filter_map g (range_with_len (a + 1) n)) k ≡ Some x → (d : ℕ) × (d < n) × (g ((a + 1) + d) ≡ Some x) × (k ≡ length (filter_map g (range_with_len (a + 1) d)))

    by : Rest → (here : Option X) → g a ≡ here → (k : ℕ) → slice_get (cons_option here (filter_map g (range_with_len (a + 1) n))) k ≡ Some x → (d : ℕ) × (d < suc n) × (g (a + d) ≡ Some x) × (k ≡ length (filter_map g (range_with_len a d)))
    by rest None is k at =
        let found = rest k at in
        (suc found.0, omega (arith, found.1), subst (λ (m : ℕ). g m ≡ Some x) (from found.0) found.2, found.3 ∙ ap (λ (o : Option X). length (cons_option o (filter_map g (range_with_len (a + 1) found.0)))) (sym is))
    by rest (Some y) is zero at =
        let same : Some y ≡ Some x = at in
        let start : a ≡ a + 0 = omega arith in
        (zero, omega arith, subst (λ (m : ℕ). g m ≡ Some x) start (is ∙ same), refl)
    by rest (Some y) is (suc k) at =
        let found = rest k at in
        (suc found.0, omega (arith, found.1), subst (λ (m : ℕ). g m ≡ Some x) (from found.0) found.2, ap suc found.3 ∙ ap (λ (o : Option X). length (cons_option o (filter_map g (range_with_len (a + 1) found.0)))) (sym is))

-- the same of lists that are joined
pub get-joined : {X : Type 0} (h : ℕ → List X) (a n k : ℕ) (x : X) → slice_get (flat_map h (range_with_len a n)) k ≡ Some x → (d : ℕ) × (j : ℕ) × (d < n) × (slice_get (h (a + d)) j ≡ Some x) × (k ≡ length (flat_map h (range_with_len a d)) + j)
get-joined h a zero k x at = absurd cc
get-joined {X = X} h a (suc n) k x at =
    elim (get-append (h a) (flat_map h (range_with_len (a + 1) n)) k x at) as (λ _. (d : ℕ) × (j : ℕ) × (d < suc n) × (slice_get (h (a + d)) j ≡ Some x) × (k ≡ length (flat_map h (range_with_len a d)) + j)) [
      | inl front ↦
          let start : a ≡ a + 0 = omega arith in
          (zero, k, omega arith, subst (λ (m : ℕ). slice_get (h m) k ≡ Some x) start front, omega arith)
      | inr back ↦
          let found = get-joined h (a + 1) n back.0 x back.2 in
          let from : (a + 1) + found.0 ≡ a + suc found.0 = omega arith in (
            suc found.0,
            found.1,
            omega (arith, found.2),
            subst (λ (m : ℕ). slice_get (h m) found.1 ≡ Some x) from found.3,
            omega (arith, back.1, found.4, length-append (h a) (flat_map h (range_with_len (a + 1) found.0))),
          )
    ]

-- ---- with their pairs

-- the items that f has for so many cells and so many variables
abbrev pub items : {X : Type 0} → (ℕ → ℕ → Option X) → ℕ → ℕ → List X
items f cells variables = flat_map (λ cell. filter_map (f cell) (range_with_len 0 variables)) (range_with_len 0 cells)

-- the same, each with its cell and its variable
abbrev pub with_pair : {X : Type 0} → (ℕ → ℕ → Option X) → ℕ → ℕ → Option (X × (ℕ × ℕ))
with_pair f cell variable = option_map (λ x. (x, (cell, variable))) (f cell variable)

abbrev pub keyed : {X : Type 0} → (ℕ → ℕ → Option X) → ℕ → ℕ → List (X × (ℕ × ℕ))
keyed f cells variables = items (with_pair f) cells variables

-- the place of the item of a cell and a variable: as many come before it
abbrev pub item_place : {X : Type 0} → (ℕ → ℕ → Option X) → ℕ → ℕ → ℕ → ℕ
item_place f variables cell variable = length (flat_map (λ c. filter_map (with_pair f c) (range_with_len 0 variables)) (range_with_len 0 cell)) + length (filter_map (with_pair f cell) (range_with_len 0 variable))

of-pair : {X : Type 0} (f : ℕ → ℕ → Option X) (cell variable : ℕ) (e : X × (ℕ × ℕ)) → with_pair f cell variable ≡ Some e → (f cell variable ≡ Some e.0) × (e.1 ≡ (cell, variable))
of-pair {X = X} f cell variable e is = by (f cell variable) is
  where
    by : (found : Option X) → option_map (λ x. (x, (cell, variable))) found ≡ Some e → (found ≡ Some e.0) × (e.1 ≡ (cell, variable))
    by None h = absurd cc
    by (Some x) h = let same : (x, (cell, variable)) ≡ e = some-same h in (ap (λ (p : X × (ℕ × ℕ)). Some p.0) same, sym (ap (λ (p : X × (ℕ × ℕ)). p.1) same))
      where
        some-same : {Y : Type 0} {a b : Y} → Some a ≡ Some b → a ≡ b
        some-same h = cc

pub keyed-at : {X : Type 0} (f : ℕ → ℕ → Option X) (cells variables k : ℕ) (e : X × (ℕ × ℕ)) → slice_get (keyed f cells variables) k ≡ Some e → (e.1.0 < cells) × (e.1.1 < variables) × (f e.1.0 e.1.1 ≡ Some e.0) × (k ≡ item_place f variables e.1.0 e.1.1)
keyed-at {X = X} f cells variables k e at =
    let outer = get-joined (λ c. filter_map (with_pair f c) (range_with_len 0 variables)) 0 cells k e at in
    let inner = get-chosen (with_pair f (0 + outer.0)) 0 variables outer.1 e outer.3 in
    let cell_is : 0 + outer.0 ≡ outer.0 = omega arith in
    let variable_is : 0 + inner.0 ≡ inner.0 = omega arith in
    let its = of-pair f (0 + outer.0) (0 + inner.0) e inner.2 in
    let cell : e.1.0 ≡ outer.0 = ap (λ (p : ℕ × ℕ). p.0) its.1 ∙ cell_is in
    let variable : e.1.1 ≡ inner.0 = ap (λ (p : ℕ × ℕ). p.1) its.1 ∙ variable_is in (
      omega (arith, cell, outer.2),
      omega (arith, variable, inner.1),
      ap (λ (p : ℕ × ℕ). f p.0 p.1) its.1 ∙ its.0,
      outer.4 ∙ ap (λ (n : ℕ). length (flat_map (λ c. filter_map (with_pair f c) (range_with_len 0 variables)) (range_with_len 0 outer.0)) + n) (inner.3 ∙ ap (λ (c : ℕ). length (filter_map (with_pair f c) (range_with_len 0 inner.0))) cell_is)
          ∙ ap (λ (c : ℕ). item_place f variables c inner.0) (sym cell) ∙ ap (λ (v : ℕ). item_place f variables e.1.0 v) (sym variable),
    )

-- without the pairs they are the items
map-chosen : {X : Type 0} (f : ℕ → ℕ → Option X) (cell : ℕ) (variables : List ℕ) → map (λ (e : X × (ℕ × ℕ)). e.0) (filter_map (with_pair f cell) variables) ≡ filter_map (f cell) variables
map-chosen f cell [] = refl
map-chosen {X = X} f cell (variable ∷ variables) = by (f cell variable) ∙ ap (cons_option (f cell variable)) (map-chosen f cell variables)
  where
    by : (found : Option X) → map (λ (e : X × (ℕ × ℕ)). e.0) (cons_option (option_map (λ x. (x, (cell, variable))) found) (filter_map (with_pair f cell) variables)) ≡ cons_option found (map (λ (e : X × (ℕ × ℕ)). e.0) (filter_map (with_pair f cell) variables))
    by None = refl
    by (Some x) = refl

pub map-keyed : {X : Type 0} (f : ℕ → ℕ → Option X) (cells variables : ℕ) → map (λ (e : X × (ℕ × ℕ)). e.0) (keyed f cells variables) ≡ items f cells variables
map-keyed {X = X} f cells variables = over (range_with_len 0 cells)
  where
    over : (list : List ℕ) → map (λ (e : X × (ℕ × ℕ)). e.0) (flat_map (λ c. filter_map (with_pair f c) (range_with_len 0 variables)) list) ≡ flat_map (λ c. filter_map (f c) (range_with_len 0 variables)) list
    over [] = refl
    over (cell ∷ list) =
        map-append (λ (e : X × (ℕ × ℕ)). e.0) (filter_map (with_pair f cell) (range_with_len 0 variables)) (flat_map (λ c. filter_map (with_pair f c) (range_with_len 0 variables)) list)
        ∙ ap (λ (front : List X). front ++ map (λ (e : X × (ℕ × ℕ)). e.0) (flat_map (λ c. filter_map (with_pair f c) (range_with_len 0 variables)) list)) (map-chosen f cell (range_with_len 0 variables))
        ∙ ap (λ (back : List X). filter_map (f cell) (range_with_len 0 variables) ++ back) (over list)
