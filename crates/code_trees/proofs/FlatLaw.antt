-- The codes of a flat tree stand in the given order.
use Rattle.std.proofs.Common.{◌≡◌, ℕ, suc, zero, ◌+◌, List, [], ◌∷◌, map, slice_get, Option, None, Some, Ok, refl, ap, subst, add-one}
use Rattle.sdc_base.specs.Trees.{Tree, flat_tree}
use Rattle.code_trees.specs.Faults.{first_code_fault, tree_unless}
use Rattle.code_trees.specs.Laws.{FlatIsInOrder}
use Rattle.code_trees.specs.declared.tree_fault.TreeFault.{TreeFault}

-- a tree that is given in spite of faults is that tree
pub unless-ok : (told : Option TreeFault) (tree given : Tree) → tree_unless told tree ≡ Ok given → tree ≡ given
unless-ok None tree given h = cc
unless-ok (Some one) tree given h = cc

below-at : (below : List (List ℕ)) (n : ℕ) (code : List ℕ) → slice_get below n ≡ Some code → slice_get {X = List ℕ × Option ℕ} (map (λ (c : List ℕ). (c, Some 0)) below) n ≡ Some (code, Some 0)
below-at [] n code h = cc
below-at (first ∷ below) zero code h = let same : first ≡ code = cc in let Node : Type 0 = List ℕ × Option ℕ in let made : List ℕ → Option Node = λ c. Some (c, Some 0) in ap made same
below-at (first ∷ below) (suc n) code h = below-at below n code h

at-flat : (total : List ℕ) (below : List (List ℕ)) (n : ℕ) (code : List ℕ) → slice_get below n ≡ Some code → slice_get {X = List ℕ × Option ℕ} (flat_tree total below) (n + 1) ≡ Some (code, Some 0)
at-flat total below n code h = rw (add-one n) (below-at below n code h)

pub flat_is_in_order : FlatIsInOrder
flat_is_in_order total below tree given n code h =
    let same : flat_tree total below ≡ tree = unless-ok (first_code_fault 1 (total ∷ []) below) (flat_tree total below) tree given in
    let at : slice_get {X = List ℕ × Option ℕ} tree (n + 1) ≡ Some (code, Some 0) = subst (λ (t : Tree). slice_get {X = List ℕ × Option ℕ} t (n + 1) ≡ Some (code, Some 0)) same (at-flat total below n code h) in
    (rw at refl, rw at refl)
