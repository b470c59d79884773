-- The nodes of the level form are the codes and their prefixes.
use Rattle.std.proofs.Common.{◌≡◌, ℕ, List, [], ◌∷◌, ◌++◌, drop, None, refl, ap, sym, ◌∙◌, subst, ◌⊎◌, inl, inr, append_assoc, append-nil}
use Rattle.std.specs.Cmp.Lexicographic.{slice_cmp}
use Rattle.std.specs.List.Sorted.{IsStrictlySortedBy}
use Rattle.std.specs.Ordering.{nat_cmp}
use Rattle.sdc_base.specs.Trees.{Tree, codes, find}
use Rattle.code_trees.specs.Among.{IsIn}
use Rattle.code_trees.specs.Levels.{code_above, prefixes, codes_with_prefixes, with_prefixes, tree_of_codes}
use Rattle.code_trees.specs.LevelNodes.{IsPrefixOfOne, AreLevelNodes}
use Rattle.code_trees.proofs.Among.{codes-more}
use Rattle.code_trees.proofs.Gathered.{all-stays, all-new, all-back}

one-later : (bounds : List ℕ) (first : List ℕ) (codes : List (List ℕ)) (node : List ℕ) → IsPrefixOfOne bounds codes node → IsPrefixOfOne bounds (first ∷ codes) node
one-later bounds first codes node one = (one.0, inr one.1, one.2)

gathered-each : (bounds : List ℕ) (codes kept : List (List ℕ)) (node : List ℕ) → IsIn node (codes_with_prefixes bounds kept codes) → IsIn node kept ⊎ IsPrefixOfOne bounds codes node
gathered-each bounds [] kept node h = inl h
gathered-each bounds (code ∷ codes) kept node h =
    elim (gathered-each bounds codes (with_prefixes bounds kept code) node h) [
      | inl here ↦ elim (all-back (prefixes bounds code) kept node here) [ inl old ↦ inl old | inr new ↦ inr (code, inl refl, new) ]
      | inr later ↦ inr (one-later bounds code codes node later)
    ]

gathered-stays : (bounds : List ℕ) (codes kept : List (List ℕ)) (node : List ℕ) → IsIn node kept → IsIn node (codes_with_prefixes bounds kept codes)
gathered-stays bounds [] kept node h = h
gathered-stays bounds (code ∷ codes) kept node h = gathered-stays bounds codes (with_prefixes bounds kept code) node (all-stays (prefixes bounds code) kept node h)

gathered-all : (bounds : List ℕ) (codes kept : List (List ℕ)) (node code : List ℕ) → IsIn code codes → IsIn node (prefixes bounds code) → IsIn node (codes_with_prefixes bounds kept codes)
gathered-all bounds [] kept node code inside one = absurd inside
gathered-all bounds (first ∷ codes) kept node code inside one =
    let rest = λ (h : IsIn code codes). gathered-all bounds codes (with_prefixes bounds kept first) node code h one in
    elim inside [
      | inl here ↦ gathered-stays bounds codes (with_prefixes bounds kept first) node (all-new (prefixes bounds first) kept node (subst (λ c. IsIn node (prefixes bounds c)) here one))
      | inr later ↦ rest later
    ]

codes-of-tree : (total bounds : List ℕ) (below : List (List ℕ)) (tree : Tree) → codes (tree_of_codes total bounds tree below) ≡ codes tree ++ below
codes-of-tree total bounds [] tree = sym (append-nil (codes tree))
codes-of-tree total bounds (code ∷ below) tree =
    let next : Tree = tree ++ (code, find tree (code_above total bounds code)) ∷ [] in
    codes-of-tree total bounds below next
    ∙ ap (λ (front : List (List ℕ)). front ++ below) (codes-more tree code (find tree (code_above total bounds code)))
    ∙ append_assoc (codes tree) (code ∷ []) below

-- the nodes of the tree besides the total
pub nodes-are : (total bounds : List ℕ) (given nodes : List (List ℕ)) (tree : Tree) → tree ≡ tree_of_codes total bounds ((total, None) ∷ []) nodes → nodes ≡ codes_with_prefixes bounds [] given → IsStrictlySortedBy (slice_cmp nat_cmp) nodes
    → AreLevelNodes bounds given (drop 1 (codes tree))
nodes-are total bounds given nodes tree made all sorted =
    let same : nodes ≡ drop 1 (codes tree) = sym (ap (λ (t : Tree). drop 1 (codes t)) made ∙ ap (λ (c : List (List ℕ)). drop 1 c) (codes-of-tree total bounds nodes ((total, None) ∷ []))) in
    subst (AreLevelNodes bounds given) same (record {
      each = λ node inside. elim (gathered-each bounds given [] node (subst (IsIn node) all inside)) [ inl none ↦ absurd none | inr one ↦ one ];
      all = λ node one. subst (IsIn node) (sym all) (gathered-all bounds given [] node one.0 one.1 one.2);
      ascending = sorted;
    })
