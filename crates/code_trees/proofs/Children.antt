-- The children of a place as the chain of its first child and the next siblings.
use Rattle.std.proofs.Common.{◌≡◌, ℕ, zero, suc, ◌+◌, ◌-◌, ◌<◌, ◌≤◌, ◌==◌, true, false, cond, List, [], ◌∷◌, length, filter, drop, get_or, slice_get, is_some, not, Option, None, Some, if◌then◌else◌, refl, ap, sym, ◌∙◌, arith}
use Rattle.std.specs.List.{range_with_len}
use Rattle.std.specs.Option.{option_and_then, option_map_or}
use Rattle.std.proofs.lemmas.Bool.Decides.{Decides-eqb, nat_tests}
use Rattle.std.proofs.lemmas.List.{drop_all, drop_more, get_or_default}
use Rattle.std.proofs.lemmas.Option.{slice_get_read}
use Rattle.sdc_base.specs.Trees.{Tree, children, is_child, parent_at}
use Rattle.code_trees.specs.Children.{child_from, first_child, is_place, next_sibling}

-- the children of a place from this one on
abbrev pub children_from : Tree → ℕ → Option ℕ → List ℕ
children_from tree above None = []
children_from tree above (Some child) = filter (is_child tree above) (range_with_len child (length tree - child))

-- the place is a child, and stands at this place or behind it
pub record IsChild (tree : Tree) (above from child : ℕ) : Type 0 where
  pub behind : from ≤ child
  pub within : child < length tree
  pub parent : parent_at tree child ≡ Some above

node-at : (tree : Tree) (n : ℕ) → n < length tree → slice_get tree n ≡ Some (get_or tree n ([], None))
node-at tree n h = slice_get_read tree (length tree) n (get_or tree n ([], None)) refl h (get_or_default tree n ([], None) (get_or tree n ([], None)) h)

parent-of : (tree : Tree) (n : ℕ) → n < length tree → parent_at tree n ≡ (get_or tree n ([], None)).1
parent-of tree n h = ap (option_and_then (λ node. node.1)) (node-at tree n h)

child-test : (tree : Tree) (above n : ℕ) → n < length tree → is_child tree above n ≡ is_place above (get_or tree n ([], None)).1
child-test tree above n h = ap (λ found. option_map_or (λ parent. parent == above) found false) (parent-of tree n h) ∙ same (get_or tree n ([], None)).1
  where
    same : (found : Option ℕ) → option_map_or (λ parent. parent == above) found false ≡ is_place above found
    same None = refl
    same (Some parent) = refl

-- one place on
step : (tree : Tree) (above n : ℕ) → n < length tree → child_from n above (drop n tree) ≡ (if is_child tree above n then Some n else child_from (n + 1) above (drop (n + 1) tree))
step tree above n h =
    ap (child_from n above) (drop_more tree n ([], None) h)
    ∙ ap (λ b. if b then Some n else child_from (n + 1) above (drop (n + 1) tree)) (sym (child-test tree above n h))

-- the children among the last places begin with the first that is found
pub children-first : (tree : Tree) (above left n : ℕ) → n + left ≡ length tree → filter (is_child tree above) (range_with_len n left) ≡ children_from tree above (child_from n above (drop n tree))
children-first tree above zero n h = sym (ap (λ nodes. children_from tree above (child_from n above nodes)) (drop_all n tree (omega (arith, h))))
children-first tree above (suc left) n h =
    let inside : n < length tree = omega (arith, h) in
    let rest : length tree - n ≡ suc left = omega (arith, h) in
    elim (is_child tree above n) as (λ b. is_child tree above n ≡ b → cond b (n ∷ filter (is_child tree above) (range_with_len (n + 1) left)) (filter (is_child tree above) (range_with_len (n + 1) left)) ≡ children_from tree above (if b then Some n else child_from (n + 1) above (drop (n + 1) tree))) [
      | true ↦ λ is. ap (λ b. cond b (n ∷ filter (is_child tree above) (range_with_len (n + 1) left)) (filter (is_child tree above) (range_with_len (n + 1) left))) (sym is) ∙ ap (λ k. filter (is_child tree above) (range_with_len n k)) (sym rest)
      | false ↦ λ is. children-first tree above left (n + 1) (omega (arith, h))
    ] refl
    ∙ ap (children_from tree above) (sym (step tree above n inside))

pub children-are : (tree : Tree) (above : ℕ) → children tree above ≡ children_from tree above (first_child tree above)
children-are tree above = children-first tree above (length tree) 0 (omega arith)

-- what is found is a child
found : (tree : Tree) (above left n child : ℕ) → n + left ≡ length tree → child_from n above (drop n tree) ≡ Some child → IsChild tree above n child
found tree above zero n child h is = let none : None ≡ Some child = sym (ap (child_from n above) (drop_all n tree (omega (arith, h)))) ∙ is in cc
found tree above (suc left) n child h is =
    let inside : n < length tree = omega (arith, h) in
    elim (is_child tree above n) as (λ b. is_child tree above n ≡ b → (if b then Some n else child_from (n + 1) above (drop (n + 1) tree)) ≡ Some child → IsChild tree above n child) [
      | true ↦ λ here at. let same : n ≡ child = cc in record { behind = omega (arith, same); within = omega (arith, same, inside); parent = ap (parent_at tree) (sym same) ∙ up (parent_at tree n) here }
      | false ↦ λ here at. let more = found tree above left (n + 1) child (omega (arith, h)) at in record { behind = omega (arith, more.behind); within = more.within; parent = more.parent }
    ] refl (sym (step tree above n inside) ∙ is)
  where
    up : (met : Option ℕ) → option_map_or (λ parent. parent == above) met false ≡ true → met ≡ Some above
    up None h = cc
    up (Some place) h = ap Some ((Decides-eqb place above).0 h)

pub first-is_child : (tree : Tree) (above child : ℕ) → first_child tree above ≡ Some child → IsChild tree above 0 child
first-is_child tree above child is = found tree above (length tree) 0 child (omega arith) is

sibling-is : (tree : Tree) (above child : ℕ) → parent_at tree child ≡ Some above → next_sibling tree child ≡ child_from (child + 1) above (drop (child + 1) tree)
sibling-is tree above child up = ap (option_and_then (λ parent. child_from (child + 1) parent (drop (child + 1) tree))) up

pub next-is_child : (tree : Tree) (above child next : ℕ) → child < length tree → parent_at tree child ≡ Some above → next_sibling tree child ≡ Some next → IsChild tree above (child + 1) next
next-is_child tree above child next within up is = found tree above (length tree - (child + 1)) (child + 1) next (omega (arith, within)) (sym (sibling-is tree above child up) ∙ is)

-- a child and those that come next
pub children-next : (tree : Tree) (above child : ℕ) → child < length tree → parent_at tree child ≡ Some above → children_from tree above (Some child) ≡ child ∷ children_from tree above (next_sibling tree child)
children-next tree above child within up =
    let left : length tree - child ≡ suc (length tree - (child + 1)) = omega (arith, within) in
    let here : is_child tree above child ≡ true = ap (λ met. option_map_or (λ parent. parent == above) met false) up ∙ (Decides-eqb above above).1 refl in
    ap (λ k. filter (is_child tree above) (range_with_len child k)) left
    ∙ ap (λ b. cond b (child ∷ filter (is_child tree above) (range_with_len (child + 1) (length tree - (child + 1)))) (filter (is_child tree above) (range_with_len (child + 1) (length tree - (child + 1))))) here
    ∙ ap (λ rest. child ∷ rest) (children-first tree above (length tree - (child + 1)) (child + 1) (omega (arith, within)) ∙ ap (children_from tree above) (sym (sibling-is tree above child up)))

-- there are some exactly where there is a first one
pub has-children : (tree : Tree) (above : ℕ) → is_some (first_child tree above) ≡ not (length (children tree above) == 0)
has-children tree above = by (first_child tree above) refl ∙ ap (λ list. not (length list == 0)) (sym (children-are tree above))
  where
    by : (first : Option ℕ) → first_child tree above ≡ first → is_some first ≡ not (length (children_from tree above first) == 0)
    by None is = refl
    by (Some child) is =
        let one = first-is_child tree above child is in
        let rest = children_from tree above (next_sibling tree child) in
        let test : (length (child ∷ rest) == 0) ≡ false = grind (arith, nat_tests) in
        sym (ap (λ list. not (length list == 0)) (children-next tree above child one.within one.parent) ∙ ap not test)

-- what is left of a walk
abbrev pub left_from : Tree → Option ℕ → ℕ
left_from tree met = option_map_or (λ child. length tree - child) met 0

pub next-smaller : (tree : Tree) (above child : ℕ) (next : Option ℕ) → IsChild tree above 0 child → next ≡ next_sibling tree child → left_from tree next < length tree - child
next-smaller tree above child None one is = let within = one.within in omega (arith, within)
next-smaller tree above child (Some next) one is = let more = next-is_child tree above child next one.within one.parent (sym is) in omega (arith, more.behind, more.within)

-- so many as places before the next one
pub next-room : (tree : Tree) (above child n : ℕ) (next : Option ℕ) → IsChild tree above 0 child → next ≡ next_sibling tree child → n ≤ child + 1 → n ≤ option_map_or (λ child. child) next (length tree)
next-room tree above child n None one is few = let within = one.within in omega (arith, within, few)
next-room tree above child n (Some next) one is few = let more = next-is_child tree above child next one.within one.parent (sym is) in omega (arith, more.behind, few)
