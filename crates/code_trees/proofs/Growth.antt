-- A tree with one node more is a tree.
use Rattle.std.proofs.Common.{◌≡◌, ℕ, suc, zero, ◌+◌, ◌-◌, ◌<◌, true, false, cond, ◌||◌, List, [], ◌∷◌, ◌++◌, length, Option, None, Some, option_map, refl, ap, sym, ◌∙◌, subst, arith, add-one, ◌⊎◌, inl, inr, length-append}
use Rattle.std.specs.List.{IsDistinct, list_any}
use Rattle.std.specs.Str.{bytes_eq}
use Rattle.std.specs.Cmp.Lexicographic.{nat_list_eq_equiv}
use Rattle.std.proofs.lemmas.Map.Keys.{IsDistinct-push}
use Rattle.std.proofs.lemmas.Option.{option_and_then_some}
use Rattle.code_trees.proofs.Climbs.{parent-known}
use Rattle.sdc_base.specs.Trees.{Tree, IsCodeTree, HasDistinctCodes, IsUnder, codes, find, parent_at, climb}
use Rattle.code_trees.specs.Growing.{HasRoomBelow, tree_with_node}

pub parent-grown : (tree more : Tree) (place parent : ℕ) → parent_at tree place ≡ Some parent → parent_at (tree ++ more) place ≡ Some parent
parent-grown [] more place parent h = cc
parent-grown (node ∷ tree) more zero parent h = h
parent-grown (node ∷ tree) more (suc place) parent h = parent-grown tree more place parent h

pub climb-grown : (tree more : Tree) (steps place above : ℕ) → climb tree steps place ≡ Some above → climb (tree ++ more) steps place ≡ Some above
climb-grown tree more zero place above h = h
climb-grown tree more (suc steps) place above h =
    option_and_then_some (climb tree steps) (parent_at tree place) above h
    (λ parent is rest. rw (parent-grown tree more place parent is) (climb-grown tree more steps parent above rest))

pub parent-last : (tree : Tree) (code : List ℕ) (parent : ℕ) → parent_at (tree_with_node tree code parent) (length tree) ≡ Some parent
parent-last [] code parent = refl
parent-last (node ∷ tree) code parent = parent-last tree code parent

-- a parent in the grown tree is one of before, or that of the new node
pub parent-split : (tree : Tree) (code : List ℕ) (parent place above : ℕ) → parent_at (tree_with_node tree code parent) place ≡ Some above
    → (parent_at tree place ≡ Some above) ⊎ ((place ≡ length tree) × (above ≡ parent))
parent-split [] code parent zero above h = inr (refl, cc)
parent-split [] code parent (suc place) above h = cc
parent-split (node ∷ tree) code parent zero above h = inl h
parent-split (node ∷ tree) code parent (suc place) above h = elim (parent-split tree code parent place above h) [ inl a ↦ inl a | inr b ↦ inr (ap suc b.0, b.1) ]

total-stays : (tree more : Tree) → 0 < length tree → parent_at tree 0 ≡ None → parent_at (tree ++ more) 0 ≡ None
total-stays [] more some h = absurd (omega arith)
total-stays (node ∷ tree) more some h = h

pub codes-grown : (tree : Tree) (code : List ℕ) (parent : ℕ) → codes (tree_with_node tree code parent) ≡ codes tree ++ code ∷ []
codes-grown [] code parent = refl
codes-grown (node ∷ tree) code parent = ap (λ rest. node.0 ∷ rest) (codes-grown tree code parent)

pub none_after : (o : Option ℕ) → option_map (λ k. k + 1) o ≡ None → o ≡ None
none_after None h = refl
none_after (Some k) h = cc

pub any-from_find : (tree : Tree) (code : List ℕ) → find tree code ≡ None → list_any (bytes_eq code) (codes tree) ≡ false
any-from_find [] code h = refl
any-from_find (node ∷ tree) code h =
    elim (bytes_eq code node.0) as (λ b. cond b (Some 0) (option_map (λ k. k + 1) (find tree code)) ≡ None → b || list_any (bytes_eq code) (codes tree) ≡ false) [
      | true ↦ λ e. cc
      | false ↦ λ e. any-from_find tree code (none_after _ e)
    ] h

distinct-grown : (tree : Tree) (code : List ℕ) (parent : ℕ) → HasDistinctCodes tree → find tree code ≡ None → HasDistinctCodes (tree_with_node tree code parent)
distinct-grown tree code parent h none =
    subst (IsDistinct bytes_eq) (sym (codes-grown tree code parent)) (IsDistinct-push nat_list_eq_equiv (codes tree) code h (any-from_find tree code none))

last_or_below : (k n : ℕ) → k < n + 1 → (k < n) ⊎ (k ≡ n)
last_or_below k n h = grind arith

pub grown-is_tree : (tree : Tree) → IsCodeTree tree → (code : List ℕ) (parent : ℕ) → find tree code ≡ None → length tree < 5001 → IsUnder tree (length tree - 1) parent → HasRoomBelow tree parent → parent < length tree
    → IsCodeTree (tree_with_node tree code parent)
grown-is_tree tree is code parent none few under room inside = record {
  has_total = omega (arith, is.has_total, longer);
  at_most_5001 = omega (arith, longer);
  distinct = distinct-grown tree code parent is.distinct none;
  total = total-stays tree _ is.has_total is.total;
  earlier = λ place positive within. by_place place within (λ old. let e = is.earlier place positive old in (e.0, parent-grown tree _ place e.0 e.1, e.2)) (λ last. (parent, subst (λ k. parent_at (tree_with_node tree code parent) k ≡ Some parent) (sym last) (parent-last tree code parent), omega (arith, inside, last)));
  preorder = λ place above h. elim (parent-split tree code parent (place + 1) above h) [
    | inl old ↦ let u = is.preorder place above old in (u.0, climb-grown tree _ u.0 place above u.1)
    | inr new ↦
        let last : place ≡ length tree - 1 = omega (arith, new.0) in
        (under.0, climb-grown tree _ under.0 place above (subst (λ k. climb tree under.0 k ≡ Some above) (sym last) (under.1 ∙ ap Some (sym new.1))))
  ];
  shallow = λ place within. by_place place within (λ old. let s = is.shallow place old in (s.0, s.1, climb-grown tree _ s.0 place 0 s.2)) (λ last. (suc room.0, omega (arith, room.1), subst (λ k. climb (tree_with_node tree code parent) (suc room.0) k ≡ Some 0) (sym last) (rw (parent-last tree code parent) (climb-grown tree _ room.0 parent 0 room.2))));
}
  where
    longer : length (tree_with_node tree code parent) ≡ length tree + 1
    longer = length-append tree ((code, Some parent) ∷ [])

    by_place : {P : Type 0} (place : ℕ) → place < length (tree_with_node tree code parent) → (place < length tree → P) → (place ≡ length tree → P) → P
    by_place place within old last = elim (last_or_below place (length tree) (omega (arith, longer, within))) [ inl h ↦ old h | inr h ↦ last h ]

pub total-is_tree : (total : List ℕ) → IsCodeTree ((total, None) ∷ [])
unfolding IsDistinct
total-is_tree total = record {
  has_total = omega arith;
  at_most_5001 = omega arith;
  distinct = (tt, tt);
  total = refl;
  earlier = λ place positive within. absurd (omega arith);
  preorder = λ place above h. absurd (nothing place above h);
  shallow = λ place within. let zeroth : place ≡ 0 = omega arith in (0, omega arith, ap Some zeroth);
}
  where
    nothing : (place above : ℕ) → parent_at ((total, None) ∷ []) (place + 1) ≡ Some above → ⊥
    nothing place above h = let none : parent_at ((total, None) ∷ []) (suc place) ≡ Some above = rw add-one at h in cc

parent_inside : (tree : Tree) → IsCodeTree tree → (place parent : ℕ) → place < length tree → parent_at tree place ≡ Some parent → parent < length tree
parent_inside tree is place parent inside at = omega (arith, inside, parent-known tree is place inside parent at)

-- a place above one of the tree is one of the tree
above-inside : (tree : Tree) → IsCodeTree tree → (steps place above : ℕ) → place < length tree → climb tree steps place ≡ Some above → above < length tree
above-inside tree is zero place above inside h = let same : place ≡ above = cc in omega arith
above-inside tree is (suc steps) place above inside h =
    option_and_then_some (climb tree steps) (parent_at tree place) above h
    (λ parent at rest. above-inside tree is steps parent above (parent_inside tree is place parent inside at) rest)

pub under-inside : (tree : Tree) → IsCodeTree tree → (above : ℕ) → IsUnder tree (length tree - 1) above → above < length tree
under-inside tree is above u = above-inside tree is u.0 (length tree - 1) above (omega (arith, is.has_total)) u.1
