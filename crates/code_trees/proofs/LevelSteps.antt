-- One code more of the level form.
use Rattle.std.proofs.Common.{◌≡◌, ℕ, suc, zero, ◌+◌, ◌<◌, ◌≤◌, true, false, cond, ◌||◌, List, [], ◌∷◌, ◌++◌, length, take, get_or, None, Some, option_map, refl, ap, sym, ◌∙◌, subst, arith, add-one, ◌⊎◌, inl, inr, length-take, get_or-take, slice_index, slice_index_or}
use Rattle.std.specs.Cmp.Lexicographic.{slice_cmp}
use Rattle.std.specs.List.{list_any, AllByRecursion}
use Rattle.std.specs.List.Sorted.{IsStrictlySortedBy}
use Rattle.std.specs.Ordering.{nat_cmp}
use Rattle.std.specs.Str.{bytes_eq}
use Rattle.std.specs.declared.cmp.Ordering.TheVariants.{Less}
use Rattle.std.proofs.lemmas.Map.Keys.{Less-from_sorted, IsDistinct-head, IsDistinct-tail}
use Rattle.std.proofs.lemmas.Slice.Eq.{bytes_eq-Decides}
use Rattle.sdc_base.specs.Trees.{Tree, codes, find, HasDistinctCodes}
use Rattle.code_trees.specs.Children.{code_at}
use Rattle.code_trees.specs.Growing.{tree_with_node}
use Rattle.code_trees.specs.Path.{next_path}
use Rattle.code_trees.specs.Levels.{level, prefixes, chain, code_above, IsAscending, IsClosed}
use Rattle.code_trees.specs.Among.{IsIn}
use Rattle.code_trees.proofs.Paths.{length-next, next-below, next-last}
use Rattle.code_trees.proofs.Prefixes.{before-has, first-has, level-zero, shared-prefixes, length-prefixes, prefixes-last, not_before_itself}

-- the places of the path are those of these codes
pub record ArePlacesOf (tree : Tree) (path : List ℕ) (held : List (List ℕ)) : Type 0 where
  pub each : length path ≡ length held
  pub code : (depth : ℕ) → depth < length path
      → code_at tree (slice_index path depth) ≡ Some (slice_index_or held depth [])

-- the total and the prefixes of the last of the first n codes
abbrev pub last_chain : List ℕ → List ℕ → List (List ℕ) → ℕ → List (List ℕ)
last_chain total bounds codes zero = total ∷ []
last_chain total bounds codes (suc n) = chain total bounds (slice_index_or codes n [])

same_bytes : (a b : List ℕ) → a ≡ b → bytes_eq a b ≡ true
same_bytes a b h = (bytes_eq-Decides a b).1 h

other_bytes : (a b : List ℕ) → bytes_eq a b ≡ false → bytes_eq b a ≡ false
other_bytes a b h = elim (bytes_eq b a) as (λ t. bytes_eq b a ≡ t → t ≡ false) [ true ↦ λ e. (let same : a ≡ b = sym ((bytes_eq-Decides b a).0 e) in let yes = same_bytes a b same in cc) | false ↦ λ e. refl ] refl

not_same : (a b : List ℕ) → slice_cmp nat_cmp a b ≡ Less → bytes_eq b a ≡ false
not_same a b h = elim (bytes_eq b a) as (λ t. bytes_eq b a ≡ t → t ≡ false) [ true ↦ λ e. absurd (not_before_itself a (subst (λ x. slice_cmp nat_cmp a x ≡ Less) ((bytes_eq-Decides b a).0 e) h)) | false ↦ λ e. refl ] refl

head_other : (node : List ℕ) (rest : Tree) (k : ℕ) (code : List ℕ) → AllByRecursion (λ x. bytes_eq node x ≡ false) (codes rest) → code_at rest k ≡ Some code → bytes_eq node code ≡ false
head_other node [] k code all at = cc
head_other node (n ∷ rest) zero code all at = let same : n.0 ≡ code = cc in subst (λ x. bytes_eq node x ≡ false) same all.0
head_other node (n ∷ rest) (suc k) code all at = head_other node rest k code all.1 at

-- where codes are distinct, a code is found at its place
pub find-at : (tree : Tree) → HasDistinctCodes tree → (k : ℕ) (code : List ℕ) → code_at tree k ≡ Some code → find tree code ≡ Some k
find-at [] distinct k code at = cc
find-at (node ∷ tree) distinct zero code at = let same : code ≡ node.0 = cc in rw (same_bytes code node.0 same) refl
find-at (node ∷ tree) distinct (suc k) code at =
    let other = other_bytes node.0 code (head_other node.0 tree k code (IsDistinct-head bytes_eq node.0 (codes tree) distinct) at) in
    let rest = find-at tree (IsDistinct-tail bytes_eq node.0 (codes tree) distinct) k code at in
    rw other (ap (option_map (λ j. j + 1)) rest ∙ ap Some (add-one k))

find-none : (tree : Tree) (code : List ℕ) → list_any (bytes_eq code) (codes tree) ≡ false → find tree code ≡ None
find-none [] code h = refl
find-none (node ∷ tree) code h =
    elim (bytes_eq code node.0) as (λ b. b || list_any (bytes_eq code) (codes tree) ≡ false → cond b (Some 0) (option_map (λ k. k + 1) (find tree code)) ≡ None) [
      | true ↦ λ e. cc
      | false ↦ λ e. ap (option_map (λ k. k + 1)) (find-none tree code e)
    ] h

none_of : (code : List ℕ) (xs : List (List ℕ)) → ((k : ℕ) → k < length xs → bytes_eq code (get_or xs k []) ≡ false) → list_any (bytes_eq code) xs ≡ false
none_of code [] h = refl
none_of code (x ∷ xs) h = rw (h 0 (omega arith)) (none_of code xs (λ k short. h (suc k) (omega arith)))

at_index : (total : List ℕ) (xs : List (List ℕ)) (k : ℕ) → k < length xs → list_any (bytes_eq total) xs ≡ false → bytes_eq total (get_or xs k []) ≡ false
at_index total [] k h none = absurd (omega arith)
at_index total (x ∷ xs) k h none =
    elim (bytes_eq total x) as (λ b. bytes_eq total x ≡ b → b || list_any (bytes_eq total) xs ≡ false → bytes_eq total (get_or (x ∷ xs) k []) ≡ false) [
      | true ↦ λ e f. cc
      | false ↦ λ e f. by k h e f (λ j short. at_index total xs j short f)
    ] refl none
  where
    by : (k : ℕ) → k < length (x ∷ xs) → bytes_eq total x ≡ false → list_any (bytes_eq total) xs ≡ false → ((j : ℕ) → j < length xs → bytes_eq total (get_or xs j []) ≡ false) → bytes_eq total (get_or (x ∷ xs) k []) ≡ false
    by zero h e f rest = e
    by (suc j) h e f rest = rest j (omega arith)

-- the next code is new
pub next-new : (tree : Tree) (total : List ℕ) (all : List (List ℕ)) (i : ℕ) → IsStrictlySortedBy (slice_cmp nat_cmp) all → list_any (bytes_eq total) all ≡ false → i < length all → codes tree ≡ total ∷ take i all
    → find tree (get_or all i []) ≡ None
next-new tree total all i sorted apart h known =
    let code = get_or all i [] in
    let first : bytes_eq code total ≡ false = other_bytes total code (at_index total all i h apart) in
    let later : list_any (bytes_eq code) (take i all) ≡ false =
    none_of code (take i all) (λ k short. let low : k < i = omega (arith, short, length-take i all) in subst (λ x. bytes_eq code x ≡ false) (sym (get_or-take i all k [] low)) (not_same (get_or all k []) code (Less-from_sorted (slice_cmp nat_cmp) all k i [] sorted low h))) in
    find-none tree code (ap (list_any (bytes_eq code)) known ∙ ap (λ b. b || list_any (bytes_eq code) (take i all)) first ∙ later)

code_at-grown : (tree more : Tree) (k : ℕ) (code : List ℕ) → code_at tree k ≡ Some code → code_at (tree ++ more) k ≡ Some code
code_at-grown [] more k code h = cc
code_at-grown (node ∷ tree) more zero code h = h
code_at-grown (node ∷ tree) more (suc k) code h = code_at-grown tree more k code h

code_at-last : (tree : Tree) (code : List ℕ) (parent : ℕ) → code_at (tree_with_node tree code parent) (length tree) ≡ Some code
code_at-last [] code parent = refl
code_at-last (node ∷ tree) code parent = code_at-last tree code parent

-- what the next code shares with the chain so far
pub record IsNext (held : List (List ℕ)) (total bounds code : List ℕ) : Type 0 where
  pub within : level bounds code < length held
  pub same : (depth : ℕ) → depth < level bounds code + 1 → slice_index_or held depth [] ≡ slice_index_or (chain total bounds code) depth []

pub next-shares : (total bounds : List ℕ) (all : List (List ℕ)) (i : ℕ) → IsStrictlySortedBy (slice_cmp nat_cmp) all → IsClosed bounds all → IsAscending 0 bounds → i < length all → IsNext (last_chain total bounds all i) total bounds (get_or all i [])
next-shares total bounds all zero sorted closed up h =
    let none = level-zero bounds (get_or all 0 []) (first-has bounds all sorted closed h) in
    record { within = omega (arith, none); same = λ depth short. let zeroth : depth ≡ 0 = omega (arith, none, short) in rw zeroth refl }
next-shares total bounds all (suc i) sorted closed up h =
    let shared = shared-prefixes 0 bounds (get_or all i []) (get_or all (suc i) []) up (before-next i h) in
    record { within = omega (arith, shared.within); same = at shared.same }
  where
    before-next : (i : ℕ) → suc i < length all → (bound : ℕ) → IsIn bound bounds → bound < length (get_or all (suc i) []) → (take bound (get_or all i []) ≡ take bound (get_or all (suc i) [])) × (bound ≤ length (get_or all i []))
    before-next i h = subst (λ k. (bound : ℕ) → IsIn bound bounds → bound < length (get_or all k []) → (take bound (get_or all i []) ≡ take bound (get_or all k [])) × (bound ≤ length (get_or all i []))) (add-one i) (before-has bounds all sorted closed i (omega arith))

    at : ((depth : ℕ) → depth < level bounds (get_or all (suc i) []) → slice_index_or (prefixes bounds (get_or all i [])) depth [] ≡ slice_index_or (prefixes bounds (get_or all (suc i) [])) depth [])
        → (depth : ℕ) → depth < level bounds (get_or all (suc i) []) + 1 → slice_index_or (last_chain total bounds all (suc i)) depth [] ≡ slice_index_or (chain total bounds (get_or all (suc i) [])) depth []
    at same zero short = refl
    at same (suc depth) short = same depth (omega arith)

last_or_below : (k n : ℕ) → k < n + 1 → (k < n) ⊎ (k ≡ n)
last_or_below k n h = grind arith

-- the path after the next code
pub held-next : (tree : Tree) (path : List ℕ) (held : List (List ℕ)) (total bounds code : List ℕ) (parent : ℕ) → ArePlacesOf tree path held → IsNext held total bounds code
    → ArePlacesOf (tree_with_node tree code parent) (next_path path (level bounds code) (length tree)) (chain total bounds code)
held-next tree path held total bounds code parent is next = record {
  each = omega (arith, len, length-prefixes bounds code);
  code = λ depth short. elim (last_or_below depth (level bounds code + 1) (omega (arith, len, short))) [
    | inl low ↦ rw (next-below path (level bounds code) (length tree) depth within low) (code_at-grown tree _ (slice_index path depth) _ (is.code depth (omega (arith, within, low)) ∙ ap Some (next.same depth low)))
    | inr last ↦ rw (last, next-last path (level bounds code) (length tree) within) (code_at-last tree code parent ∙ ap Some (sym (ends (prefixes-last bounds code))))
  ];
}
  where
    within : level bounds code < length path
    within = omega (arith, is.each, next.within)

    len : length (next_path path (level bounds code) (length tree)) ≡ level bounds code + 2
    len = length-next path (level bounds code) (length tree) (omega (arith, is.each, next.within))

    ends : slice_index_or (prefixes bounds code) (level bounds code) [] ≡ code → slice_index_or (chain total bounds code) (level bounds code + 1) [] ≡ code
    ends h = rw add-one h

-- the parent of the next code
pub parent-next : (tree : Tree) (path : List ℕ) (held : List (List ℕ)) (total bounds code : List ℕ) → HasDistinctCodes tree → ArePlacesOf tree path held → IsNext held total bounds code
    → find tree (code_above total bounds code) ≡ Some (slice_index path (level bounds code))
parent-next tree path held total bounds code distinct is next =
    find-at tree distinct (slice_index path (level bounds code)) (code_above total bounds code) (is.code (level bounds code) (omega (arith, is.each, next.within)) ∙ ap Some (next.same (level bounds code) (omega arith)))
