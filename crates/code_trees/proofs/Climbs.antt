-- Steps from a place to its parent.
use Rattle.std.proofs.Common.{◌≡◌, ℕ, suc, zero, ◌+◌, ◌<◌, ◌≤◌, true, false, cond, List, [], ◌∷◌, length, drop, get_or, ◌≢◌, eqb, slice_index_or, slice_set, eq-eqb, below_more, drop-cons, ◌++◌, Option, None, Some, slice_index, slice_get, refl, ap, sym, ◌∙◌, subst, arith, add-one, ◌⊎◌, inl, inr}
use Rattle.std.specs.Option.{ForSome, option_map_or, option_and_then}
use Rattle.std.proofs.lemmas.Bool.Decides.{Decides-eqb}
use Rattle.std.proofs.lemmas.List.{get_or_append_left, get_or-set_same, get_or-set_other}
use Rattle.std.proofs.Math.Seq.{get_or-append_seam}
use Rattle.std.proofs.Math.ListN.{length-set}
use Rattle.std.proofs.lemmas.Option.{slice_get-get_or, slice_get_within, get_or_from_slice_get}
use Rattle.sdc_base.specs.Trees.{Tree, IsCodeTree, HasEarlierParent, parent_at, climb}
use Rattle.code_trees.specs.Children.{child_from, is_place, next_sibling}
use Rattle.code_trees.specs.Links.{AreDepths, with_child, sibling_of}

pub climb-more : (tree : Tree) (place parent steps above : ℕ) → parent_at tree place ≡ Some parent → climb tree steps parent ≡ Some above → climb tree (steps + 1) place ≡ Some above
climb-more tree place parent steps above p h = rw (add-one, p) h

-- a place is the total, or has an earlier parent
pub parent-cases : (tree : Tree) → IsCodeTree tree → (place : ℕ) → place < length tree → ((place ≡ 0) × (parent_at tree place ≡ None)) ⊎ HasEarlierParent tree place
parent-cases tree is zero h = inl (refl, is.total)
parent-cases tree is (suc place) h = inr (is.earlier (suc place) (omega arith) h)

pub parent-known : (tree : Tree) → IsCodeTree tree → (place : ℕ) → place < length tree → ForSome (parent_at tree place) (λ above. above < place)
parent-known tree is place h above p =
    elim (parent-cases tree is place h) [
      | inl none ↦ cc (none.1, p)
      | inr e ↦ let same : e.0 ≡ above = cc (e.1, p) in omega (arith, same, e.2)
    ]

pub depth-next : (tree : Tree) → IsCodeTree tree → (depths : List ℕ) (place : ℕ) → place < length tree → AreDepths tree place depths
    → climb tree (option_map_or (λ above. slice_index depths above + 1) (parent_at tree place) 0) place ≡ Some 0
depth-next tree is depths place h below =
    elim (parent-cases tree is place h) [
      | inl none ↦ rw none.1 (ap Some none.0)
      | inr e ↦ rw e.1 (climb-more tree place e.0 (slice_index depths e.0) 0 e.1 (below e.0 e.2))
    ]

pub depths-push : (tree : Tree) (depths : List ℕ) (n depth : ℕ) → length depths ≡ n → AreDepths tree n depths → climb tree depth n ≡ Some 0 → AreDepths tree (n + 1) (depths ++ depth ∷ [])
depths-push tree depths n depth len below here =
    below_more (λ place. climb tree (slice_index (depths ++ depth ∷ []) place) place ≡ Some 0) n
    (λ place h. let inside : place < length depths = omega arith in
    subst (λ d. climb tree d place ≡ Some 0) (sym (get_or_append_left depths (depth ∷ []) 0 place inside)) (below place h))
    (subst (λ d. climb tree d n ≡ Some 0) (sym (subst (λ m. slice_index (depths ++ depth ∷ []) m ≡ depth) len (get_or-append_seam depths depth [] 0))) here)

-- one node more at the front
pub child_from-more : (tree : Tree) (k place : ℕ) (node : List ℕ × Option ℕ) → slice_get tree k ≡ Some node
    → child_from k place (drop k tree) ≡ cond (is_place place node.1) (Some k) (child_from (k + 1) place (drop (k + 1) tree))
child_from-more tree k place node at =
    let inside : k < length tree = slice_get_within tree k node at in
    ap (child_from k place) (drop-cons tree k node inside ∙ ap (λ x. x ∷ drop (suc k) tree) (get_or_from_slice_get tree k node node at) ∙ ap (λ m. node ∷ drop m tree) (sym (add-one k)))

parent-node : (tree : Tree) (k : ℕ) → k < length tree → (node : List ℕ × Option ℕ) × (slice_get tree k ≡ Some node) × (parent_at tree k ≡ node.1)
parent-node tree k h =
    let node = get_or tree k ([], None) in
    let at = slice_get-get_or tree k ([], None) h in
    (node, at, ap (option_and_then (λ node. node.1)) at)

-- the children from one place earlier on
pub child-linked : (tree : Tree) → IsCodeTree tree → (firsts : List (Option ℕ)) (k m : ℕ) → k + 1 ≡ m → k < length tree → length firsts ≡ length tree
    → ((place : ℕ) → slice_index_or firsts place None ≡ child_from m place (drop m tree))
    → (place : ℕ) → slice_index_or (with_child firsts (parent_at tree k) k) place None ≡ child_from k place (drop k tree)
child-linked tree is firsts k m next h len later place =
    let node = parent-node tree k h in
    let rest = later place ∙ ap (λ i. child_from i place (drop i tree)) (sym next) in
    ap (λ parent. slice_index_or (with_child firsts parent k) place None) node.2
    ∙ by node.0.1 (λ above e. let known = parent-known tree is k h above (node.2 ∙ e) in omega (arith, known)) (child_from (k + 1) place (drop (k + 1) tree)) rest
    ∙ sym (child_from-more tree k place node.0 node.1)
  where
    by : (parent : Option ℕ) → ForSome parent (λ above. above < length firsts) → (later : Option ℕ) → slice_index_or firsts place None ≡ later → slice_index_or (with_child firsts parent k) place None ≡ cond (is_place place parent) (Some k) later
    by None inside later rest = rest
    by (Some above) inside later rest =
        elim (eqb above place) as (λ b. eqb above place ≡ b → slice_index_or (slice_set firsts above (Some k)) place None ≡ cond b (Some k) later) [
          | true ↦ λ e. let same : above ≡ place = (Decides-eqb _ _).0 e in subst (λ p. slice_index_or (slice_set firsts above (Some k)) p None ≡ Some k) same (get_or-set_same firsts above (Some k) None (inside above refl))
          | false ↦ λ e. get_or-set_other firsts above place (Some k) None (λ same. let yes = eq-eqb above place (sym same) in cc (yes, e)) ∙ rest
        ] refl

-- the next sibling of a place is its parent's first child from there on
pub sibling-linked : (tree : Tree) (firsts : List (Option ℕ)) (k m : ℕ) → k + 1 ≡ m
    → ((place : ℕ) → slice_index_or firsts place None ≡ child_from m place (drop m tree))
    → sibling_of firsts (parent_at tree k) ≡ next_sibling tree k
sibling-linked tree firsts k m next later = by (parent_at tree k)
  where
    by : (parent : Option ℕ) → sibling_of firsts parent ≡ option_and_then (λ above. child_from (k + 1) above (drop (k + 1) tree)) parent
    by None = refl
    by (Some above) = later above ∙ ap (λ i. child_from i above (drop i tree)) (sym next)

pub length-with_child : (firsts : List (Option ℕ)) (parent : Option ℕ) (k : ℕ) → length (with_child firsts parent k) ≡ length firsts
length-with_child firsts None k = refl
length-with_child firsts (Some above) k = length-set firsts above (Some k)

-- a sibling more
pub siblings-more : (nexts : List (Option ℕ)) (k : ℕ) (sibling : Option ℕ) (Q : ℕ → Option ℕ) (m : ℕ) → k + 1 ≡ m → k < length nexts → sibling ≡ Q k
    → ((place : ℕ) → m ≤ place → slice_index_or nexts place None ≡ Q place)
    → (place : ℕ) → k ≤ place → slice_index_or (slice_set nexts k sibling) place None ≡ Q place
siblings-more nexts k sibling Q m next h here later place from =
    elim (eqb place k) as (λ b. eqb place k ≡ b → slice_index_or (slice_set nexts k sibling) place None ≡ Q place) [
      | true ↦ λ e. let same : place ≡ k = (Decides-eqb _ _).0 e in subst (λ p. slice_index_or (slice_set nexts k sibling) p None ≡ Q p) (sym same) (get_or-set_same nexts k sibling None h ∙ here)
      | false ↦ λ e. let other : place ≢ k = λ same. (let yes = eq-eqb place k same in cc (yes, e)) in get_or-set_other nexts k place sibling None other ∙ later place (omega (arith, other))
    ] refl

pub small-push : (depths : List ℕ) (n depth : ℕ) → length depths ≡ n → ((place : ℕ) → place < n → slice_index depths place ≤ place) → depth ≤ n → (place : ℕ) → place < n + 1 → slice_index (depths ++ depth ∷ []) place ≤ place
small-push depths n depth len below here =
    below_more (λ place. slice_index (depths ++ depth ∷ []) place ≤ place) n
    (λ place h. let inside : place < length depths = omega arith in
    subst (λ d. d ≤ place) (sym (get_or_append_left depths (depth ∷ []) 0 place inside)) (below place h))
    (subst (λ d. d ≤ n) (sym (subst (λ m. slice_index (depths ++ depth ∷ []) m ≡ depth) len (get_or-append_seam depths depth [] 0))) here)

-- a depth is at most the place
pub depth-small : (tree : Tree) → IsCodeTree tree → (depths : List ℕ) (place : ℕ) → place < length tree → ((below : ℕ) → below < place → slice_index depths below ≤ below)
    → option_map_or (λ above. slice_index depths above + 1) (parent_at tree place) 0 ≤ place
depth-small tree is depths place h small =
    elim (parent-cases tree is place h) [
      | inl none ↦ rw none.1 (omega arith)
      | inr e ↦ rw e.1 (let one = small e.0 e.2 in omega (arith, one, e.2))
    ]
