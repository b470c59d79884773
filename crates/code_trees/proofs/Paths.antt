-- The path to the last node, and the tree that it makes.
use Rattle.std.proofs.Common.{◌≡◌, ℕ, suc, zero, ◌+◌, ◌-◌, ◌<◌, List, [], ◌∷◌, length, take, None, Some, slice_index, refl, ap, sym, ◌∙◌, subst, arith, add-one, ◌⊎◌, inl, inr, length-append, length-take, get_or-take}
use Rattle.std.specs.Option.{option_and_then}
use Rattle.std.proofs.lemmas.List.{get_or_append_left}
use Rattle.std.proofs.Math.Seq.{get_or-append_seam}
use Rattle.sdc_base.specs.Trees.{Tree, parent_at, climb}
use Rattle.code_trees.specs.Growing.{tree_with_node}
use Rattle.code_trees.specs.Path.{IsPath, next_path}
use Rattle.code_trees.proofs.Growth.{parent-last, climb-grown}

pub climb-add : (tree : Tree) (a b place : ℕ) → climb tree (a + b) place ≡ option_and_then (climb tree b) (climb tree a place)
climb-add tree zero b place = let none : 0 + b ≡ b = omega arith in rw none refl
climb-add tree (suc a) b place =
    let next : suc a + b ≡ suc (a + b) = omega arith in
    rw next (elim (parent_at tree place) as (λ o. option_and_then (climb tree (a + b)) o ≡ option_and_then (climb tree b) (option_and_then (climb tree a) o)) [ None ↦ refl | Some parent ↦ climb-add tree a b parent ])

climb-between : (tree : Tree) (a b place middle above : ℕ) → climb tree a place ≡ Some middle → climb tree (a + b) place ≡ Some above → climb tree b middle ≡ Some above
climb-between tree a b place middle above h k = ap (option_and_then (climb tree b)) (sym h) ∙ sym (climb-add tree a b place) ∙ k

pub length-next : (path : List ℕ) (leads place : ℕ) → leads < length path → length (next_path path leads place) ≡ leads + 2
length-next path leads place h = omega (arith, length-append (take (leads + 1) path) (place ∷ []), length-take (leads + 1) path)

pub next-below : (path : List ℕ) (leads place depth : ℕ) → leads < length path → depth < leads + 1 → slice_index (next_path path leads place) depth ≡ slice_index path depth
next-below path leads place depth h below =
    let inside : depth < length (take (leads + 1) path) = omega (arith, length-take (leads + 1) path) in
    get_or_append_left (take (leads + 1) path) (place ∷ []) 0 depth inside ∙ get_or-take (leads + 1) path depth 0 below

pub next-last : (path : List ℕ) (leads place : ℕ) → leads < length path → slice_index (next_path path leads place) (leads + 1) ≡ place
next-last path leads place h =
    let len : length (take (leads + 1) path) ≡ leads + 1 = omega (arith, length-take (leads + 1) path) in
    subst (λ k. slice_index (next_path path leads place) k ≡ place) len (get_or-append_seam (take (leads + 1) path) place [] 0)

pub last_or_below : (k n : ℕ) → k < n + 1 → (k < n) ⊎ (k ≡ n)
last_or_below k n h = grind arith

-- the path after one more node
pub path-next : (tree : Tree) → 0 < length tree → (path : List ℕ) → IsPath tree path → (code : List ℕ) (leads : ℕ) → leads < length path → IsPath (tree_with_node tree code (slice_index path leads)) (next_path path leads (length tree))
path-next tree some path is code leads h = record {
  has_total = omega (arith, len);
  above = λ depth below. elim (last_or_below depth (leads + 1) (omega (arith, len, below))) [
    | inl old ↦
        let steps : length (next_path path leads (length tree)) - 1 - depth ≡ suc (leads - depth) = omega (arith, len, old) in
        let at : length (tree_with_node tree code parent) - 1 ≡ length tree = omega (arith, longer) in
        let whole : length path - 1 - leads + (leads - depth) ≡ length path - 1 - depth = omega (arith, h, old) in
        let between : climb tree (leads - depth) parent ≡ Some (slice_index path depth) =
        climb-between tree (length path - 1 - leads) (leads - depth) (length tree - 1) parent (slice_index path depth) (is.above leads h) (subst (λ n. climb tree n (length tree - 1) ≡ Some (slice_index path depth)) (sym whole) (is.above depth (omega (arith, h, old)))) in
        rw (steps, at, parent-last tree code parent, next-below path leads (length tree) depth h old) (climb-grown tree _ (leads - depth) parent (slice_index path depth) between)
    | inr last ↦
        let steps : length (next_path path leads (length tree)) - 1 - depth ≡ 0 = omega (arith, len, last) in
        let at : length (tree_with_node tree code parent) - 1 ≡ length tree = omega (arith, longer) in
        rw (steps, at, last, next-last path leads (length tree) h) refl
  ];
  deep = λ depth below. elim (last_or_below depth (leads + 1) (omega (arith, len, below))) [
    | inl old ↦ rw (next-below path leads (length tree) depth h old) (climb-grown tree _ depth (slice_index path depth) 0 (is.deep depth (omega (arith, h, old))))
    | inr last ↦
        let step : climb (tree_with_node tree code parent) (suc leads) (length tree) ≡ Some 0 = rw (parent-last tree code parent) (climb-grown tree _ leads parent 0 (is.deep leads h)) in
        rw (last, next-last path leads (length tree) h, add-one) step
  ];
}
  where
    parent : ℕ
    parent = slice_index path leads

    len : length (next_path path leads (length tree)) ≡ leads + 2
    len = length-next path leads (length tree) h

    longer : length (tree_with_node tree code (slice_index path leads)) ≡ length tree + 1
    longer = length-append tree ((code, Some (slice_index path leads)) ∷ [])

-- the path of the total alone
pub path-total : (total : List ℕ) → IsPath ((total, None) ∷ []) (0 ∷ [])
path-total total = record {
  has_total = omega arith;
  above = λ depth below. let zeroth : depth ≡ 0 = omega arith in rw zeroth refl;
  deep = λ depth below. let zeroth : depth ≡ 0 = omega arith in rw zeroth refl;
}
