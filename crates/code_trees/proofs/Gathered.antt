-- The codes and their prefixes in order: what is among them.
use Rattle.std.proofs.Common.{◌≡◌, ℕ, suc, zero, ◌+◌, ◌<◌, ◌≤◌, nat_le, nat_lt, not, ◌||◌, sum, slice_index, None, Some, is_some, Bool, true, false, cond, fold, List, [], ◌∷◌, length, take, refl, ap, sym, ◌∙◌, subst, arith, ◌⊎◌, inl, inr, length-take}
use Rattle.std.specs.BTreeSet.{insert_key}
use Rattle.std.specs.List.{list_any}
use Rattle.std.specs.Str.{bytes_eq}
use Rattle.std.proofs.lemmas.Bool.Decides.{nat_tests}
use Rattle.std.proofs.lemmas.List.Sums.{sum_by-cons}
use Rattle.sdc_base.specs.Blanks.{is_blank}
use Rattle.sdc_base.specs.Trees.{Tree, codes, find}
use Rattle.code_trees.specs.declared.tree_fault.TreeFault.TheVariants as fault
use Rattle.code_trees.proofs.Growth.{any-from_find}
use Rattle.code_trees.proofs.CodeFaults.{found-any, is-le}
use Rattle.std.specs.Cmp.Lexicographic.{slice_cmp}
use Rattle.std.specs.Ordering.{nat_cmp, ordering_then, match_ordering}
use Rattle.std.specs.declared.cmp.Ordering.TheVariants.{Less, Equal, Greater}
use Rattle.code_trees.specs.Levels.{level, prefixes, IsAscending, IsClosed, with_prefixes, codes_with_prefixes, boundaries, level_fault}
use Rattle.code_trees.specs.Among.{IsIn}
use Rattle.code_trees.proofs.Prefixes.{equal_numbers, not_le, yes_le}

-- codes that compare alike are one
same_codes : (a b : List ℕ) → slice_cmp nat_cmp a b ≡ Equal → a ≡ b
same_codes [] [] h = refl
same_codes [] (y ∷ b) h = cc
same_codes (x ∷ a) [] h = cc
same_codes (x ∷ a) (y ∷ b) h =
    elim (nat_cmp x y) as (λ o. nat_cmp x y ≡ o → ordering_then o (slice_cmp nat_cmp a b) ≡ Equal → x ∷ a ≡ y ∷ b) [
      | Less ↦ λ e f. cc
      | Equal ↦ λ e f. ap (λ z. z ∷ a) (equal_numbers x y e) ∙ ap (λ r. y ∷ r) (same_codes a b f)
      | Greater ↦ λ e f. cc
    ] refl h

abbrev insert : List (List ℕ) → List ℕ → List (List ℕ)
insert codes code = insert_key (slice_cmp nat_cmp) codes code

in-stays : (codes : List (List ℕ)) (code x : List ℕ) → IsIn x codes → IsIn x (insert codes code)
in-stays [] code x h = absurd h
in-stays (c ∷ codes) code x h =
    let rest = λ (h : IsIn x codes). in-stays codes code x h in
    elim (slice_cmp nat_cmp code c) as (λ o. IsIn x (match_ordering o (code ∷ c ∷ codes) (c ∷ codes) (c ∷ insert codes code))) [ Less ↦ inr h | Equal ↦ h | Greater ↦ elim h [ inl here ↦ inl here | inr later ↦ inr (rest later) ] ]

in-new : (codes : List (List ℕ)) (code : List ℕ) → IsIn code (insert codes code)
in-new [] code = inl refl
in-new (c ∷ codes) code =
    let rest = in-new codes code in
    elim (slice_cmp nat_cmp code c) as (λ o. slice_cmp nat_cmp code c ≡ o → IsIn code (match_ordering o (code ∷ c ∷ codes) (c ∷ codes) (c ∷ insert codes code))) [ Less ↦ λ e. inl refl | Equal ↦ λ e. inl (same_codes code c e) | Greater ↦ λ e. inr rest ] refl

in-back : (codes : List (List ℕ)) (code x : List ℕ) → IsIn x (insert codes code) → IsIn x codes ⊎ (x ≡ code)
in-back [] code x h = elim h [ inl here ↦ inr here | inr none ↦ absurd none ]
in-back (c ∷ codes) code x h =
    let rest = λ (h : IsIn x (insert codes code)). in-back codes code x h in
    elim (slice_cmp nat_cmp code c) as (λ o. IsIn x (match_ordering o (code ∷ c ∷ codes) (c ∷ codes) (c ∷ insert codes code)) → IsIn x (c ∷ codes) ⊎ (x ≡ code)) [
      | Less ↦ λ g. elim g [ inl here ↦ inr here | inr later ↦ inl later ]
      | Equal ↦ λ g. inl g
      | Greater ↦ λ g. elim g [ inl here ↦ inl (inl here) | inr later ↦ elim (rest later) [ inl old ↦ inl (inr old) | inr new ↦ inr new ] ]
    ] h

abbrev insert_all : List (List ℕ) → List (List ℕ) → List (List ℕ)
insert_all codes more = fold (insert_key (slice_cmp nat_cmp)) codes more

pub all-stays : (more codes : List (List ℕ)) (x : List ℕ) → IsIn x codes → IsIn x (insert_all codes more)
all-stays [] codes x h = h
all-stays (m ∷ more) codes x h = all-stays more (insert codes m) x (in-stays codes m x h)

pub all-new : (more codes : List (List ℕ)) (x : List ℕ) → IsIn x more → IsIn x (insert_all codes more)
all-new [] codes x h = absurd h
all-new (m ∷ more) codes x h = elim h [ inl here ↦ all-stays more (insert codes m) x (subst (λ y. IsIn y (insert codes m)) (sym here) (in-new codes m)) | inr later ↦ all-new more (insert codes m) x later ]

pub all-back : (more codes : List (List ℕ)) (x : List ℕ) → IsIn x (insert_all codes more) → IsIn x codes ⊎ IsIn x more
all-back [] codes x h = inl h
all-back (m ∷ more) codes x h = elim (all-back more (insert codes m) x h) [ inl old ↦ elim (in-back codes m x old) [ inl older ↦ inl older | inr here ↦ inr (inl here) ] | inr new ↦ inr (inr new) ]

-- a boundary inside a code gives a prefix
prefix-in : (from : ℕ) (bounds : List ℕ) (code : List ℕ) (bound : ℕ) → IsAscending from bounds → IsIn bound bounds → bound < length code → IsIn (take bound code) (prefixes bounds code)
prefix-in from [] code bound up inside short = absurd inside
prefix-in from (b ∷ bounds) code bound up inside short =
    by (nat_le (length code) b) refl (λ later. prefix-in b bounds code bound up.1 later short)
  where
    first-least : (from : ℕ) (bounds : List ℕ) → IsAscending from bounds → IsIn bound bounds → from < bound
    first-least from [] up inside = absurd inside
    first-least from (c ∷ bounds) up inside = elim inside [ inl here ↦ omega (arith, up.0, here) | inr later ↦ let next = first-least c bounds up.1 later in omega (arith, up.0, next) ]

    at_least : b ≤ bound
    at_least = elim inside [ inl here ↦ omega (arith, here) | inr later ↦ let next = first-least b bounds up.1 later in omega (arith, next) ]

    by : (t : Bool) → nat_le (length code) b ≡ t → (IsIn bound bounds → IsIn (take bound code) (prefixes bounds code)) → IsIn (take bound code) (cond t (code ∷ []) (take b code ∷ prefixes bounds code))
    by true e rest = absurd (omega (arith, at_least, short, yes_le (length code) b e))
    by false e rest = elim inside [ inl here ↦ inl (ap (λ n. take n code) here) | inr later ↦ inr (rest later) ]

-- what a prefix is
what-prefix : (bounds : List ℕ) (code x : List ℕ) → IsIn x (prefixes bounds code) → (x ≡ code) ⊎ ((n : ℕ) × (n < length code) × (x ≡ take n code))
what-prefix [] code x h = elim h [ inl here ↦ inl here | inr none ↦ absurd none ]
what-prefix (b ∷ bounds) code x h =
    let rest = λ (h : IsIn x (prefixes bounds code)). what-prefix bounds code x h in
    elim (nat_le (length code) b) as (λ t. nat_le (length code) b ≡ t → IsIn x (cond t (code ∷ []) (take b code ∷ prefixes bounds code)) → (x ≡ code) ⊎ ((n : ℕ) × (n < length code) × (x ≡ take n code))) [
      | true ↦ λ e g. elim g [ inl here ↦ inl here | inr none ↦ absurd none ]
      | false ↦ λ e g. elim g [ inl here ↦ inr (b, not_le (length code) b e, here) | inr later ↦ rest later ]
    ] refl h

take-within : (m n : ℕ) (xs : List ℕ) → m ≤ n → take m (take n xs) ≡ take m xs
take-within zero n xs h = refl
take-within (suc m) zero xs h = absurd (omega arith)
take-within (suc m) (suc n) [] h = refl
take-within (suc m) (suc n) (x ∷ xs) h = ap (λ r. x ∷ r) (take-within m n xs (omega arith))

-- a prefix of a prefix is a prefix
prefix-again : (from : ℕ) (bounds : List ℕ) (code x : List ℕ) (bound : ℕ) → IsAscending from bounds → IsIn x (prefixes bounds code) → IsIn bound bounds → bound < length x → IsIn (take bound x) (prefixes bounds code)
prefix-again from bounds code x bound up h inside short =
    elim (what-prefix bounds code x h) [
      | inl whole ↦ subst (λ y. IsIn (take bound y) (prefixes bounds code)) (sym whole) (prefix-in from bounds code bound up inside (omega (arith, ap length whole, short)))
      | inr part ↦
          let low : bound < part.0 = omega (arith, ap length part.2, length-take part.0 code, short) in
          let same : take bound x ≡ take bound code = ap (take bound) part.2 ∙ take-within bound part.0 code (omega (arith, low)) in
          subst (λ y. IsIn y (prefixes bounds code)) (sym same) (prefix-in from bounds code bound up inside (omega (arith, low, part.1)))
    ]

closed-with : (from : ℕ) (bounds : List ℕ) (kept : List (List ℕ)) (code : List ℕ) → IsAscending from bounds → IsClosed bounds kept → IsClosed bounds (with_prefixes bounds kept code)
closed-with from bounds kept code up closed x bound h inside short =
    elim (all-back (prefixes bounds code) kept x h) [
      | inl old ↦ all-stays (prefixes bounds code) kept (take bound x) (closed x bound old inside short)
      | inr new ↦ all-new (prefixes bounds code) kept (take bound x) (prefix-again from bounds code x bound up new inside short)
    ]

-- the gathered codes have their prefixes
pub closed-gathered : (from : ℕ) (bounds : List ℕ) (codes kept : List (List ℕ)) → IsAscending from bounds → IsClosed bounds kept → IsClosed bounds (codes_with_prefixes bounds kept codes)
closed-gathered from bounds [] kept up closed = closed
closed-gathered from bounds (code ∷ codes) kept up closed = closed-gathered from bounds codes (with_prefixes bounds kept code) up (closed-with from bounds kept code up closed)

pub in-any : (test : List ℕ → Bool) (xs : List (List ℕ)) (x : List ℕ) → IsIn x xs → test x ≡ true → list_any test xs ≡ true
in-any test [] x h passes = absurd h
in-any test (y ∷ ys) x h passes =
    let rest = λ (h : IsIn x ys). in-any test ys x h passes in
    elim h [ inl here ↦ ap (λ b. b || list_any test ys) (ap test (sym here) ∙ passes) | inr later ↦ ap (λ b. test y || b) (rest later) ∙ or_true (test y) ]
  where
    or_true : (b : Bool) → b || true ≡ true
    or_true true = refl
    or_true false = refl

pub any-in : (test : List ℕ → Bool) (xs : List (List ℕ)) → list_any test xs ≡ true → (x : List ℕ) × IsIn x xs × (test x ≡ true)
any-in test [] h = cc
any-in test (y ∷ ys) h =
    let rest = λ (h : list_any test ys ≡ true). any-in test ys h in
    elim (test y) as (λ b. test y ≡ b → b || list_any test ys ≡ true → (x : List ℕ) × IsIn x (y ∷ ys) × (test x ≡ true)) [ true ↦ λ e f. (y, inl refl, e) | false ↦ λ e f. let r = rest f in (r.0, inr r.1, r.2) ] refl h

-- where neither the kept codes nor the prefixes pass a test, all of them don't
pub none-with : (test : List ℕ → Bool) (bounds : List ℕ) (kept : List (List ℕ)) (code : List ℕ) → list_any test kept ≡ false → list_any test (prefixes bounds code) ≡ false → list_any test (with_prefixes bounds kept code) ≡ false
none-with test bounds kept code old new =
    elim (list_any test (with_prefixes bounds kept code)) as (λ b. list_any test (with_prefixes bounds kept code) ≡ b → b ≡ false) [
      | true ↦ λ e.
          let f = any-in test (with_prefixes bounds kept code) e in
          elim (all-back (prefixes bounds code) kept f.0 f.1) [
            | inl here ↦ let yes = in-any test kept f.0 here f.2 in cc
            | inr here ↦ let yes = in-any test (prefixes bounds code) f.0 here f.2 in cc
          ]
      | false ↦ λ e. refl
    ] refl

short-with : (n : ℕ) (bounds : List ℕ) (kept : List (List ℕ)) (code : List ℕ) → ((x : List ℕ) → IsIn x kept → length x ≤ n) → length code ≤ n → (x : List ℕ) → IsIn x (with_prefixes bounds kept code) → length x ≤ n
short-with n bounds kept code old here x h =
    elim (all-back (prefixes bounds code) kept x h) [
      | inl before ↦ old x before
      | inr new ↦ elim (what-prefix bounds code x new) [ inl whole ↦ omega (arith, ap length whole, here) | inr part ↦ omega (arith, ap length part.2, length-take part.0 code, part.1, here) ]
    ]

pub gathered-short : (n : ℕ) (bounds : List ℕ) (codes kept : List (List ℕ)) → ((x : List ℕ) → IsIn x kept → length x ≤ n) → ((x : List ℕ) → IsIn x codes → length x ≤ n) → (x : List ℕ) → IsIn x (codes_with_prefixes bounds kept codes) → length x ≤ n
gathered-short n bounds [] kept old new x h = old x h
gathered-short n bounds (code ∷ codes) kept old new x h =
    gathered-short n bounds codes (with_prefixes bounds kept code) (short-with n bounds kept code old (new code (inl refl))) (λ y inside. new y (inr inside)) x h

-- ---- the boundaries of widths

pub ascending-boundaries : (from : ℕ) (widths : List ℕ) → ((k : ℕ) → k < length widths → 0 < slice_index widths k) → IsAscending from (boundaries from widths)
ascending-boundaries from [] h = tt
ascending-boundaries from (width ∷ widths) h = let first = h 0 (omega arith) in (omega (arith, first), ascending-boundaries (from + width) widths (λ k short. h (suc k) (omega arith)))

pub level-bounded : (from : ℕ) (widths : List ℕ) (code : List ℕ) → 0 < length widths → length code ≤ from + sum widths → level (boundaries from widths) code < length widths
level-bounded from [] code some short = absurd (omega arith)
level-bounded from (width ∷ []) code some short =
    let inside : nat_le (length code) (from + width) ≡ true = is-le (length code) (from + width) (omega arith) in
    let none : level (boundaries from (width ∷ [])) code ≡ 0 = rw inside refl in omega (arith, none)
level-bounded from (width ∷ second ∷ widths) code some short =
    let rest = level-bounded (from + width) (second ∷ widths) code (omega arith) (let all : sum (width ∷ second ∷ widths) ≡ width + sum (second ∷ widths) = sum_by-cons (λ w. w) width (second ∷ widths) in omega (arith, short, all)) in
    elim (nat_le (length code) (from + width)) as (λ b. cond (not b) (1 + level (boundaries (from + width) (second ∷ widths)) code) 0 < suc (suc (length widths))) [ true ↦ omega arith | false ↦ omega (arith, rest) ]

any-found : (tree : Tree) (code : List ℕ) → list_any (bytes_eq code) (codes tree) ≡ is_some (find tree code)
any-found tree code = elim (find tree code) as (λ o. find tree code ≡ o → list_any (bytes_eq code) (codes tree) ≡ is_some o) [ None ↦ λ e. any-from_find tree code e | Some place ↦ λ e. found-any tree code place e ] refl

-- the fault of a code, by the four tests
pub level-fault-by : (total bounds : List ℕ) (tree : Tree) (kept : List (List ℕ)) (code : List ℕ) (n : ℕ) (blank reaches twice many : Bool)
    → list_any is_blank code ≡ blank → list_any (bytes_eq total) (prefixes bounds code) ≡ reaches → is_some (find tree code) ≡ twice → nat_lt 5000 (length (with_prefixes bounds kept code)) ≡ many
    → level_fault total bounds (codes tree) kept code n ≡ cond blank (Some (fault.Blank n)) (cond reaches (Some (fault.IsTotal n)) (cond twice (Some (fault.Twice n)) (cond many (Some (fault.TooMany n)) None)))
level-fault-by total bounds tree kept code n blank reaches twice many p q r s =
    let t : list_any (bytes_eq code) (codes tree) ≡ twice = any-found tree code ∙ r in rw (p, q, t, s) refl

pub is_over : (a b : ℕ) → a < b → nat_lt a b ≡ true
is_over a b h = grind (arith, nat_tests)

pub not_over : (a b : ℕ) → b ≤ a → nat_lt a b ≡ false
not_over a b h = grind (arith, nat_tests)
