-- Ascending numbers that pass a test, and one number more.
use Rattle.std.proofs.Common.{◌≡◌, ℕ, zero, suc, ◌+◌, ◌<◌, ◌≤◌, ◌==◌, ◌||◌, nat_lt, Bool, true, false, cond, List, ◌∷◌, filter, refl, ap, sym, ◌∙◌, subst, arith}
use Rattle.std.specs.BTreeSet.{insert_key}
use Rattle.std.specs.List.{range_with_len}
use Rattle.std.specs.Ordering.{nat_cmp}
use Rattle.std.specs.declared.cmp.Ordering.TheVariants.{Less, Equal, Greater}
use Rattle.std.proofs.lemmas.Bool.Decides.{nat_tests, Decides-eqb}

-- ---- how numbers compare

less : (n k : ℕ) → n < k → nat_cmp n k ≡ Less
less n k h = let test : nat_lt n k ≡ true = grind (arith, nat_tests, h) in rw test refl

same : (n : ℕ) → nat_cmp n n ≡ Equal
same n =
    let below : nat_lt n n ≡ false = grind (arith, nat_tests) in
    let is : (n == n) ≡ true = (Decides-eqb n n).1 refl in
    rw (below, is) refl

greater : (n k : ℕ) → k < n → nat_cmp n k ≡ Greater
greater n k h =
    let below : nat_lt n k ≡ false = grind (arith, nat_tests, h) in
    let is : (n == k) ≡ false = grind (arith, nat_tests, h) in
    rw (below, is) refl

-- ---- before all of them

in-front : (p : ℕ → Bool) (n from left : ℕ) → n < from → insert_key nat_cmp (filter p (range_with_len from left)) n ≡ n ∷ filter p (range_with_len from left)
in-front p n from zero below = refl
in-front p n from (suc left) below =
    let rest : List ℕ = filter p (range_with_len (from + 1) left) in
    elim (p from) as (λ b. insert_key nat_cmp (cond b (from ∷ rest) rest) n ≡ n ∷ cond b (from ∷ rest) rest) [
      | true ↦ rw (less n from below) refl
      | false ↦ in-front p n (from + 1) left (omega (arith, below))
    ]

or-false : (b : Bool) → (b || false) ≡ b
or-false true = refl
or-false false = refl

or-true : (b : Bool) → (b || true) ≡ true
or-true true = refl
or-true false = refl

not-among : (p : ℕ → Bool) (n from left : ℕ) → n < from → filter (λ x. p x || (n == x)) (range_with_len from left) ≡ filter p (range_with_len from left)
not-among p n from zero below = refl
not-among p n from (suc left) below =
    let other : (n == from) ≡ false = grind (arith, nat_tests, below) in
    let keep : (p from || (n == from)) ≡ p from = ap (λ b. p from || b) other ∙ or-false (p from) in
    let rest = not-among p n (from + 1) left (omega (arith, below)) in
    ap (λ b. cond b (from ∷ filter (λ x. p x || (n == x)) (range_with_len (from + 1) left)) (filter (λ x. p x || (n == x)) (range_with_len (from + 1) left))) keep
    ∙ ap (λ (xs : List ℕ). cond (p from) (from ∷ xs) xs) rest

-- ---- one more

at-first : (p : ℕ → Bool) (from left : ℕ)
    → insert_key nat_cmp (filter p (range_with_len from (suc left))) from ≡ filter (λ x. p x || (from == x)) (range_with_len from (suc left))
at-first p from left =
    let rest : List ℕ = filter p (range_with_len (from + 1) left) in
    let more : List ℕ = filter (λ x. p x || (from == x)) (range_with_len (from + 1) left) in
    let after : more ≡ rest = not-among p from (from + 1) left (omega arith) in
    let is : (from == from) ≡ true = (Decides-eqb from from).1 refl in
    let keep : (p from || (from == from)) ≡ true = ap (λ b. p from || b) is ∙ or-true (p from) in
    elim (p from) as (λ b. insert_key nat_cmp (cond b (from ∷ rest) rest) from ≡ from ∷ rest) [
      | true ↦ rw (same from) refl
      | false ↦ in-front p from (from + 1) left (omega arith)
    ]
    ∙ ap (λ (xs : List ℕ). from ∷ xs) (sym after)
    ∙ ap (λ b. cond b (from ∷ more) more) (sym keep)

-- a number of a range is put in its place among those that pass a test
pub one-more : (p : ℕ → Bool) (n from left : ℕ) → from ≤ n → n < from + left → insert_key nat_cmp (filter p (range_with_len from left)) n ≡ filter (λ x. p x || (n == x)) (range_with_len from left)
one-more p n from zero least most = absurd (omega (arith, least, most))
one-more p n from (suc left) least most =
    elim (n == from) as (λ b. (n == from) ≡ b → insert_key nat_cmp (filter p (range_with_len from (suc left))) n ≡ filter (λ x. p x || (n == x)) (range_with_len from (suc left))) [
      | true ↦ λ is. subst (λ k. insert_key nat_cmp (filter p (range_with_len from (suc left))) k ≡ filter (λ x. p x || (k == x)) (range_with_len from (suc left))) (sym ((Decides-eqb n from).0 is)) (at-first p from left)
      | false ↦ λ is.
          let above : from < n = grind (arith, nat_tests, is, least) in
          let rest : List ℕ = filter p (range_with_len (from + 1) left) in
          let more : List ℕ = filter (λ x. p x || (n == x)) (range_with_len (from + 1) left) in
          let next : insert_key nat_cmp rest n ≡ more = one-more p n (from + 1) left (omega (arith, above)) (omega (arith, most)) in
          let keep : (p from || (n == from)) ≡ p from = ap (λ b. p from || b) is ∙ or-false (p from) in
          elim (p from) as (λ b. insert_key nat_cmp (cond b (from ∷ rest) rest) n ≡ cond b (from ∷ more) more) [
            | true ↦ rw (greater n from above) (ap (λ (xs : List ℕ). from ∷ xs) next)
            | false ↦ next
          ]
          ∙ ap (λ b. cond b (from ∷ more) more) (sym keep)
    ] refl
