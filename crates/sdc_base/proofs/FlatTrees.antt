-- The flat tree.
use Rattle.std.proofs.Common.{◌≡◌, ℕ, zero, suc, ◌+◌, ◌<◌, ◌≤◌, List, [], ◌∷◌, length, map, Some, arith, refl, ap, sym, subst, ◌∙◌, add-one}
use Rattle.std.specs.List.{IsDistinct}
use Rattle.std.specs.Str.{bytes_eq}
use Rattle.sdc_base.specs.Trees.{Tree, codes, parent_at, climb, flat_tree, HasEarlierParent, FlatIsCodeTree}

-- codes below the total alone
abbrev below_total : List (List ℕ) → Tree
below_total below = map (λ code. (code, Some 0)) below

codes_below : (below : List (List ℕ)) → codes (below_total below) ≡ below
codes_below [] = refl
codes_below (code ∷ below) = ap (λ rest. code ∷ rest) (codes_below below)

length_below : (below : List (List ℕ)) → length (below_total below) ≡ length below
length_below [] = refl
length_below (code ∷ below) = ap suc (length_below below)

-- each has the total as its parent
parent_below : (below : List (List ℕ)) (place : ℕ) → place < length below → parent_at (below_total below) place ≡ Some 0
parent_below [] place h = absurd (omega arith)
parent_below (code ∷ below) zero h = refl
parent_below (code ∷ below) (suc place) h = parent_below below place (omega arith)

-- no other parent stands there
parent_is_total : (below : List (List ℕ)) (place parent : ℕ) → parent_at (below_total below) place ≡ Some parent → (parent ≡ 0) × (place < length below)
parent_is_total [] place parent h = absurd cc
parent_is_total (code ∷ below) zero parent h = (cc, omega arith)
parent_is_total (code ∷ below) (suc place) parent h = let rest = parent_is_total below place parent h in (rest.0, omega (arith, rest.1))

total_is_above : (total : List ℕ) (below : List (List ℕ)) (place : ℕ) → place < suc (length below) → (depth : ℕ) × (depth ≤ 1) × (climb (flat_tree total below) depth place ≡ Some 0)
total_is_above total below zero h = (0, omega arith, refl)
total_is_above total below (suc place) h = (1, omega arith, rw (parent_below below place (omega arith)) refl)

earlier_parent : (total : List ℕ) (below : List (List ℕ)) (place : ℕ) → 0 < place → place < suc (length below) → HasEarlierParent (flat_tree total below) place
earlier_parent total below zero some within = absurd (omega arith)
earlier_parent total below (suc place) some within = (0, parent_below below place (omega arith), omega arith)

next_parent : (total : List ℕ) (below : List (List ℕ)) (place parent : ℕ) → parent_at (flat_tree total below) (place + 1) ≡ Some parent → parent_at (below_total below) place ≡ Some parent
next_parent total below place parent h = subst (λ k. parent_at (flat_tree total below) k ≡ Some parent) (add-one place) h

pub flat_is_code_tree : FlatIsCodeTree
flat_is_code_tree total below distinct few = record {
  has_total = omega arith;
  at_most_5001 = omega (arith, length_below below);
  distinct = subst (λ list. IsDistinct bytes_eq (total ∷ list)) (sym (codes_below below)) distinct;
  total = refl;
  earlier = λ place some within. earlier_parent total below place some (omega (arith, length_below below, within));
  preorder = λ place parent h.
      let found = parent_is_total below place parent (next_parent total below place parent h) in
      let up = total_is_above total below place (omega (arith, found.1)) in
      (up.0, up.2 ∙ ap Some (sym found.0));
  shallow = λ place within. let up = total_is_above total below place (omega (arith, length_below below, within)) in (up.0, omega (arith, up.1), up.2);
}
