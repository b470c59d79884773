-- Prefixes of codes in order.
use Rattle.std.proofs.Common.{◌≡◌, ℕ, suc, zero, ◌+◌, ◌<◌, ◌≤◌, nat_le, Bool, true, false, cond, not, List, [], ◌∷◌, length, take, get_or, refl, ap, sym, ◌∙◌, subst, arith, ◌⊎◌, inl, inr, length-take, slice_index_or}
use Rattle.std.specs.Cmp.Lexicographic.{slice_cmp}
use Rattle.std.specs.List.Sorted.{IsStrictlySortedBy}
use Rattle.std.specs.Ordering.{nat_cmp, ordering_then}
use Rattle.std.specs.declared.cmp.Ordering.{Ordering}
use Rattle.std.specs.declared.cmp.Ordering.TheVariants.{Less, Equal, Greater}
use Rattle.std.proofs.lemmas.Bool.Decides.{nat_tests}
use Rattle.std.proofs.lemmas.List.{take_all}
use Rattle.std.proofs.lemmas.Map.Keys.{Less-from_sorted}
use Rattle.code_trees.specs.Levels.{level, prefixes, IsAscending, IsClosed}
use Rattle.code_trees.specs.Among.{IsIn}

abbrev order : List ℕ → List ℕ → Ordering
order a b = slice_cmp nat_cmp a b

same_number : (x : ℕ) → nat_cmp x x ≡ Equal
same_number x = grind (arith, nat_tests)

pub equal_numbers : (x y : ℕ) → nat_cmp x y ≡ Equal → x ≡ y
equal_numbers x y h = grind (arith, nat_tests)

less_back : (x y : ℕ) → nat_cmp x y ≡ Less → nat_cmp y x ≡ Greater
less_back x y h = grind (arith, nat_tests)

-- a code stands after its proper prefixes
pub prefix-before : (bound : ℕ) (code : List ℕ) → bound < length code → order code (take bound code) ≡ Greater
prefix-before bound [] h = absurd (omega arith)
prefix-before zero (x ∷ code) h = refl
prefix-before (suc bound) (x ∷ code) h = rw (same_number x) (prefix-before bound code (omega arith))

pub not_before_itself : (code : List ℕ) → order code code ≡ Less → ⊥
not_before_itself [] h = cc
not_before_itself (x ∷ code) h = not_before_itself code (subst (λ o. ordering_then o (order code code) ≡ Less) (same_number x) h)

-- what stands between a prefix and its code has that prefix
pub between : (bound : ℕ) (s code : List ℕ) → bound ≤ length code → order (take bound code) s ≡ Less → order s code ≡ Less → (take bound s ≡ take bound code) × (bound ≤ length s)
between zero s code h low high = (refl, omega arith)
between (suc bound) s [] h low high = absurd (omega arith)
between (suc bound) [] (x ∷ code) h low high = absurd (none low)
  where
    none : Greater ≡ Less → ⊥
    none e = cc
between (suc bound) (y ∷ s) (x ∷ code) h low high =
    elim (nat_cmp x y) as (λ o. nat_cmp x y ≡ o → ordering_then o (order (take bound code) s) ≡ Less → (take (suc bound) (y ∷ s) ≡ take (suc bound) (x ∷ code)) × (suc bound ≤ length (y ∷ s))) [
      | Less ↦ λ e l. let back : ordering_then Greater (order s code) ≡ Less = subst (λ o. ordering_then o (order s code) ≡ Less) (less_back x y e) high in cc
      | Equal ↦ λ e l.
          let same : x ≡ y = equal_numbers x y e in
          let back : nat_cmp y x ≡ Equal = subst (λ z. nat_cmp z x ≡ Equal) same (same_number x) in
          let rest = between bound s code (omega arith) l (subst (λ o. ordering_then o (order s code) ≡ Less) back high) in
          (ap (λ r. y ∷ r) rest.0 ∙ ap (λ z. z ∷ take bound code) (sym same), omega (arith, rest.1))
      | Greater ↦ λ e l. cc
    ] refl low

pub in-index : (x : List ℕ) (xs : List (List ℕ)) → IsIn x xs → (k : ℕ) × (k < length xs) × (x ≡ get_or xs k [])
in-index x [] h = absurd h
in-index x (y ∷ ys) h = elim h [ inl here ↦ (0, omega arith, here) | inr later ↦ let i = in-index x ys later in (suc i.0, omega (arith, i.1), i.2) ]

pub index-in : (xs : List (List ℕ)) (k : ℕ) → k < length xs → IsIn (get_or xs k []) xs
index-in [] k h = absurd (omega arith)
index-in (y ∷ ys) zero h = inl refl
index-in (y ∷ ys) (suc k) h = inr (index-in ys k (omega arith))

three_ways : (a b : ℕ) → (a < b) ⊎ ((a ≡ b) ⊎ (b < a))
three_ways a b = grind arith

-- among codes in order, the code just before one has its prefixes
pub before-has : (bounds : List ℕ) (all : List (List ℕ)) → IsStrictlySortedBy (slice_cmp nat_cmp) all → IsClosed bounds all → (i : ℕ) → i + 1 < length all
    → (bound : ℕ) → IsIn bound bounds → bound < length (get_or all (i + 1) []) → (take bound (get_or all i []) ≡ take bound (get_or all (i + 1) [])) × (bound ≤ length (get_or all i []))
before-has bounds all sorted closed i h bound inside short =
    elim (three_ways p.0 i) [
      | inl early ↦ between bound s code (omega (arith, short)) (subst (λ q. order q s ≡ Less) (sym p.2) (Less-from_sorted (slice_cmp nat_cmp) all p.0 i [] sorted early (omega arith))) (Less-from_sorted (slice_cmp nat_cmp) all i (i + 1) [] sorted (omega arith) h)
      | inr more ↦ elim more [
        | inl here ↦
            let is : take bound code ≡ s = p.2 ∙ ap (λ k. get_or all k []) here in
            let long : length s ≡ bound = omega (arith, ap length is, length-take bound code, short) in
            (take_all bound s (omega (arith, long)) ∙ sym is, omega (arith, long))
        | inr late ↦ elim (three_ways p.0 (i + 1)) [
          | inl never ↦ absurd (omega (arith, never, late))
          | inr later ↦ elim later [
            | inl here ↦ let is : take bound code ≡ code = p.2 ∙ ap (λ k. get_or all k []) here in absurd (omega (arith, ap length is, length-take bound code, short))
            | inr beyond ↦
                let forward : order code (take bound code) ≡ Less = subst (λ q. order code q ≡ Less) (sym p.2) (Less-from_sorted (slice_cmp nat_cmp) all (i + 1) p.0 [] sorted beyond p.1) in
                let back = prefix-before bound code short in cc
          ]
        ]
      ]
    ]
  where
    code : List ℕ
    code = get_or all (i + 1) []

    s : List ℕ
    s = get_or all i []

    p : (k : ℕ) × (k < length all) × (take bound code ≡ get_or all k [])
    p = in-index (take bound (get_or all (i + 1) [])) all (closed (get_or all (i + 1) []) bound (index-in all (i + 1) h) inside short)

-- the first code has no proper prefix
pub first-has : (bounds : List ℕ) (all : List (List ℕ)) → IsStrictlySortedBy (slice_cmp nat_cmp) all → IsClosed bounds all → 0 < length all
    → (bound : ℕ) → IsIn bound bounds → bound < length (get_or all 0 []) → ⊥
first-has bounds all sorted closed h bound inside short =
    let code = get_or all 0 [] in
    let p = in-index (take bound code) all (closed code bound (index-in all 0 h) inside short) in
    elim (three_ways 0 p.0) [
      | inl beyond ↦
          let forward : order code (take bound code) ≡ Less = subst (λ q. order code q ≡ Less) (sym p.2) (Less-from_sorted (slice_cmp nat_cmp) all 0 p.0 [] sorted beyond p.1) in
          let back = prefix-before bound code short in cc
      | inr more ↦ elim more [
        | inl here ↦ let is : take bound code ≡ code = p.2 ∙ ap (λ k. get_or all k []) (sym here) in omega (arith, ap length is, length-take bound code, short)
        | inr never ↦ omega (arith, never)
      ]
    ]

-- ---- the chain of a code

pub length-prefixes : (bounds : List ℕ) (code : List ℕ) → length (prefixes bounds code) ≡ level bounds code + 1
length-prefixes [] code = refl
length-prefixes (bound ∷ bounds) code =
    elim (nat_le (length code) bound) as (λ b. length (cond b (code ∷ []) (take bound code ∷ prefixes bounds code)) ≡ cond (not b) (1 + level bounds code) 0 + 1) [ true ↦ refl | false ↦ omega (arith, length-prefixes bounds code) ]

pub prefixes-last : (bounds : List ℕ) (code : List ℕ) → slice_index_or (prefixes bounds code) (level bounds code) [] ≡ code
prefixes-last [] code = refl
prefixes-last (bound ∷ bounds) code =
    elim (nat_le (length code) bound) as (λ b. slice_index_or (cond b (code ∷ []) (take bound code ∷ prefixes bounds code)) (cond (not b) (1 + level bounds code) 0) [] ≡ code) [
      | true ↦ refl
      | false ↦ let next : 1 + level bounds code ≡ suc (level bounds code) = omega arith in rw next (prefixes-last bounds code)
    ]

pub not_le : (a b : ℕ) → nat_le a b ≡ false → b < a
not_le a b h = grind (arith, nat_tests)

pub yes_le : (a b : ℕ) → nat_le a b ≡ true → a ≤ b
yes_le a b h = grind (arith, nat_tests)

pub level-zero : (bounds : List ℕ) (code : List ℕ) → ((bound : ℕ) → IsIn bound bounds → bound < length code → ⊥) → level bounds code ≡ 0
level-zero [] code h = refl
level-zero (bound ∷ bounds) code h =
    elim (nat_le (length code) bound) as (λ b. nat_le (length code) bound ≡ b → cond (not b) (1 + level bounds code) 0 ≡ 0) [ true ↦ λ e. refl | false ↦ λ e. absurd (h bound (inl refl) (not_le (length code) bound e)) ] refl

-- s has the prefixes of code at these boundaries
abbrev pub HasPrefixes : List ℕ → List ℕ → List ℕ → Type 0
HasPrefixes bounds s code = (bound : ℕ) → IsIn bound bounds → bound < length code → (take bound s ≡ take bound code) × (bound ≤ length s)

no-more : (from : ℕ) (bounds : List ℕ) (s code : List ℕ) → IsAscending from bounds → HasPrefixes bounds s code → length s ≤ from → level bounds code ≡ 0
no-more from [] s code up has short = refl
no-more from (bound ∷ bounds) s code up has short =
    elim (nat_le (length code) bound) as (λ b. nat_le (length code) bound ≡ b → cond (not b) (1 + level bounds code) 0 ≡ 0) [
      | true ↦ λ e. refl
      | false ↦ λ e. let h = has bound (inl refl) (not_le (length code) bound e) in absurd (omega (arith, h.1, up.0, short))
    ] refl

pub record IsShared (bounds s code : List ℕ) : Type 0 where
  pub same : (depth : ℕ) → depth < level bounds code → slice_index_or (prefixes bounds s) depth [] ≡ slice_index_or (prefixes bounds code) depth []
  pub within : level bounds code ≤ length (prefixes bounds s)

-- the prefixes inside a code are prefixes of the code before it
pub shared-prefixes : (from : ℕ) (bounds : List ℕ) (s code : List ℕ) → IsAscending from bounds → HasPrefixes bounds s code → IsShared bounds s code
shared-prefixes from [] s code up has = record { same = λ depth h. absurd (omega arith); within = omega arith }
shared-prefixes from (bound ∷ bounds) s code up has =
    by (nat_le (length code) bound) refl (nat_le (length s) bound) refl (shared-prefixes bound bounds s code up.1 (λ b inside. has b (inr inside)))
  where
    by : (inside : Bool) → nat_le (length code) bound ≡ inside → (ends : Bool) → nat_le (length s) bound ≡ ends → IsShared bounds s code → IsShared (bound ∷ bounds) s code
    by true e ends f rest = record {
      same = λ depth h. let none : level (bound ∷ bounds) code ≡ 0 = rw e refl in absurd (omega (arith, none, h));
      within = let none : level (bound ∷ bounds) code ≡ 0 = rw e refl in omega (arith, none);
    }
    by false e true f rest =
        let h = has bound (inl refl) (not_le (length code) bound e) in
        let whole : s ≡ take bound code = sym (take_all bound s (yes_le (length s) bound f)) ∙ h.0 in
        let one : level (bound ∷ bounds) code ≡ 1 = rw e (ap (λ n. 1 + n) (no-more bound bounds s code up.1 (λ b inside. has b (inr inside)) (yes_le (length s) bound f))) in
        record {
          same = λ depth short. let zeroth : depth ≡ 0 = omega (arith, one, short) in rw (zeroth, f, e) whole;
          within = let len : length (prefixes (bound ∷ bounds) s) ≡ 1 = rw f refl in omega (arith, one, len);
        }
    by false e false f rest =
        let h = has bound (inl refl) (not_le (length code) bound e) in
        let more : level (bound ∷ bounds) code ≡ suc (level bounds code) = rw e (omega arith) in
        record {
          same = λ depth short. rw (f, e) (at depth (subst (λ n. depth < n) more short) h.0 rest);
          within = let len : length (prefixes (bound ∷ bounds) s) ≡ suc (length (prefixes bounds s)) = rw f refl in omega (arith, more, len, rest.within);
        }
      where
        at : (depth : ℕ) → depth < suc (level bounds code) → take bound s ≡ take bound code → IsShared bounds s code → slice_index_or (take bound s ∷ prefixes bounds s) depth [] ≡ slice_index_or (take bound code ∷ prefixes bounds code) depth []
        at zero short head rest = head
        at (suc depth) short head rest = rest.same depth (omega arith)

-- a code is one of its prefixes
pub prefixes-have : (bounds : List ℕ) (code : List ℕ) → IsIn code (prefixes bounds code)
prefixes-have [] code = inl refl
prefixes-have (bound ∷ bounds) code = elim (nat_le (length code) bound) as (λ t. IsIn code (cond t (code ∷ []) (take bound code ∷ prefixes bounds code))) [ true ↦ inl refl | false ↦ inr (prefixes-have bounds code) ]
