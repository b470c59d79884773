-- The codes of a subtable and the places that have them, variable after variable.
use Rattle.std.proofs.Common.{◌≡◌, ◌≢◌, ◌⊎◌, inl, inr, ℕ, zero, suc, ◌+◌, ◌<◌, ◌≤◌, ◌==◌, ◌&&◌, ◌||◌, Bool, true, false, cond, List, [], ◌∷◌, length, filter, drop, get_or, slice_get, if◌then◌else◌, Option, None, Some, refl, ap, sym, ◌∙◌, subst, arith}
use Rattle.std.specs.List.{range_with_len}
use Rattle.std.specs.Option.{option_and_then, option_map_or}
use Rattle.std.proofs.lemmas.Bool.Decides.{Decides-eqb}
use Rattle.std.proofs.lemmas.List.{drop_all, drop_more}
use Rattle.std.proofs.lemmas.Option.{slice_get_within}
use Rattle.sdc_base.specs.Trees.{Tree, children, is_child}
use Rattle.sdc_base.specs.CutTrees.{CutTree, goes_below, is_child_within}
use Rattle.sdc_base.specs.Cells.{cut_tree}
use Rattle.sdc_base.specs.Cubes.{codes_in}
use Rattle.sdc_base.specs.Subtables.{is_code_in, is_place_below}
use Rattle.sdc_base.specs.declared.dimension.Dimension.{Dimension}
use Rattle.sdc_base.proofs.GrowingLists.{read-at}
use Rattle.hypercube.proofs.Members.{Among, Picks}
use Rattle.modular_plan.specs.SubtablePlaces.{code_lists}

-- ---- one variable on

short : (trees : List Tree) (table : List Dimension) (parents : List ℕ) (k : ℕ) (d : Dimension) → k < length table → slice_get parents k ≡ None → length parents ≤ k
    → code_lists trees (drop k table) (drop k parents) ≡ [] ∷ code_lists trees (drop (k + 1) table) (drop (k + 1) parents)
short trees table parents k d inside none past =
    ap (λ t. code_lists trees t (drop k parents)) (drop_more table k d inside)
    ∙ ap (code_lists trees (get_or table k d ∷ drop (k + 1) table)) (drop_all k parents past)
    ∙ ap (λ p. [] ∷ code_lists trees (drop (k + 1) table) p) (sym (drop_all (k + 1) parents (omega (arith, past))))

lt_or_le : (a b : ℕ) → (a < b) ⊎ (b ≤ a)
lt_or_le a b = grind arith

-- the codes for a variable, and then those for the others
pub lists-next : (trees : List Tree) (table : List Dimension) (parents : List ℕ) (k : ℕ) (d : Dimension) → k < length table
    → code_lists trees (drop k table) (drop k parents) ≡ option_map_or (codes_in (cut_tree trees (get_or table k d))) (slice_get parents k) [] ∷ code_lists trees (drop (k + 1) table) (drop (k + 1) parents)
lists-next trees table parents k d inside = by (slice_get parents k) refl (lt_or_le k (length parents))
  where
    by : (met : Option ℕ) → slice_get parents k ≡ met → (k < length parents) ⊎ (length parents ≤ k)
        → code_lists trees (drop k table) (drop k parents) ≡ option_map_or (codes_in (cut_tree trees (get_or table k d))) met [] ∷ code_lists trees (drop (k + 1) table) (drop (k + 1) parents)
    by None at (inl within) = let some = read-at parents k 0 within in cc
    by None at (inr past) = short trees table parents k d inside at past
    by (Some parent) at (inl within) =
        let same : get_or parents k 0 ≡ parent = let some = read-at parents k 0 within in cc in
        ap (λ t. code_lists trees t (drop k parents)) (drop_more table k d inside)
        ∙ ap (code_lists trees (get_or table k d ∷ drop (k + 1) table)) (drop_more parents k 0 within)
        ∙ ap (λ p. codes_in (cut_tree trees (get_or table k d)) p ∷ code_lists trees (drop (k + 1) table) (drop (k + 1) parents)) same
    by (Some parent) at (inr past) = let within = slice_get_within parents k parent at in absurd (omega (arith, within, past))

-- ---- the codes of one variable

among-kept : {X : Type 0} (test : X → Bool) (xs : List X) (x : X) → test x ≡ true → Among xs x → Among (filter test xs) x
among-kept test [] x is among = absurd among
among-kept test (y ∷ ys) x is (inl same) =
    let here : test y ≡ true = ap test (sym same) ∙ is in
    subst (λ b. Among (cond b (y ∷ filter test ys) (filter test ys)) x) (sym here) (inl same)
among-kept test (y ∷ ys) x is (inr among) =
    let rest = among-kept test ys x is among in
    elim (test y) as (λ b. Among (cond b (y ∷ filter test ys) (filter test ys)) x) [
      | true ↦ inr rest
      | false ↦ rest
    ]

kept-passes : {X : Type 0} (test : X → Bool) (xs : List X) (x : X) → Among (filter test xs) x → test x ≡ true
kept-passes test [] x among = absurd among
kept-passes test (y ∷ ys) x among =
    elim (test y) as (λ b. test y ≡ b → Among (cond b (y ∷ filter test ys) (filter test ys)) x → test x ≡ true) [
      | true ↦ λ is among. here is (kept-passes test ys x) among
      | false ↦ λ is among. kept-passes test ys x among
    ] refl among
  where
    here : test y ≡ true → (Among (filter test ys) x → test x ≡ true) → Among (y ∷ filter test ys) x → test x ≡ true
    here is rest (inl same) = ap test same ∙ is
    here is rest (inr among) = rest among

in-range : (n from left : ℕ) → from ≤ n → n < from + left → Among (range_with_len from left) n
in-range n from zero least most = absurd (omega (arith, least, most))
in-range n from (suc left) least most =
    elim (n == from) as (λ b. (n == from) ≡ b → (n ≡ from) ⊎ Among (range_with_len (from + 1) left) n) [
      | true ↦ λ is. inl ((Decides-eqb n from).0 is)
      | false ↦ λ is.
          let other : n ≢ from = λ same. let yes : (n == from) ≡ true = (Decides-eqb n from).1 same in cc in
          let above : from < n = grind (arith, least, other) in
          inr (in-range n (from + 1) left (omega (arith, above)) (omega (arith, most)))
    ] refl

child-inside : (tree : Tree) (parent code : ℕ) → is_child tree parent code ≡ true → code < length tree
child-inside tree parent code is = by (slice_get tree code) refl is
  where
    by : (met : Option (List ℕ × Option ℕ)) → slice_get tree code ≡ met → option_map_or (λ above. above == parent) (option_and_then (λ (node : List ℕ × Option ℕ). node.1) met) false ≡ true → code < length tree
    by None at is = cc
    by (Some node) at is = slice_get_within tree code node at

pub code-listed : (cut : CutTree) (parent code : ℕ) → is_code_in cut parent code ≡ true → Among (codes_in cut parent) code
code-listed cut parent code is =
    elim (code == parent) as (λ b. (code == parent) ≡ b → (b || is_child_within cut parent code) ≡ true → Among (codes_in cut parent) code) [
      | true ↦ λ same is. inl ((Decides-eqb code parent).0 same)
      | false ↦ λ other is. inr (by (goes_below cut parent) is)
    ] refl is
  where
    by : (b : Bool) → (b && is_child cut.tree parent code) ≡ true → Among (if b then children cut.tree parent else []) code
    by true is = among-kept (is_child cut.tree parent) (range_with_len 0 (length cut.tree)) code is (in-range code 0 (length cut.tree) (omega arith) (let inside = child-inside cut.tree parent code is in omega (arith, inside)))
    by false is = cc

pub listed-code : (cut : CutTree) (parent code : ℕ) → Among (codes_in cut parent) code → is_code_in cut parent code ≡ true
listed-code cut parent code (inl same) = let is : (code == parent) ≡ true = (Decides-eqb code parent).1 same in rw is refl
listed-code cut parent code (inr among) = ap (λ b. (code == parent) || b) (by (goes_below cut parent) among) ∙ either (code == parent)
  where
    either : (b : Bool) → (b || true) ≡ true
    either true = refl
    either false = refl

    by : (b : Bool) → Among (if b then children cut.tree parent else []) code → (b && is_child cut.tree parent code) ≡ true
    by true found = kept-passes (is_child cut.tree parent) (range_with_len 0 (length cut.tree)) code found
    by false found = absurd found

-- ---- the codes of all variables

both : (a b : Bool) → (a && b) ≡ true → (a ≡ true) × (b ≡ true)
both true b h = (refl, h)
both false b h = cc

-- a place of the subtable has one code of each list
pub below-picks : (trees : List Tree) (table : List Dimension) (parents place : List ℕ) → length place ≡ length table → is_place_below trees table parents place ≡ true → Picks (code_lists trees table parents) place
below-picks trees [] parents [] long below = tt
below-picks trees [] parents (code ∷ place) long below = cc
below-picks trees (dimension ∷ table) [] place long below = cc
below-picks trees (dimension ∷ table) (parent ∷ parents) [] long below = cc
below-picks trees (dimension ∷ table) (parent ∷ parents) (code ∷ place) long below =
    let tree = cut_tree trees dimension in
    let parts = both (is_code_in tree parent code) (is_place_below trees table parents place) below in
    (code-listed tree parent code parts.0, below-picks trees table parents place (omega (arith, long)) parts.1)

-- and what has one is a place of the subtable
pub picks-below : (trees : List Tree) (table : List Dimension) (parents place : List ℕ) → Picks (code_lists trees table parents) place → is_place_below trees table parents place ≡ true
picks-below trees [] parents place picked = refl
picks-below trees (dimension ∷ table) [] [] picked = absurd picked
picks-below trees (dimension ∷ table) [] (code ∷ place) picked = absurd picked.0
picks-below trees (dimension ∷ table) (parent ∷ parents) [] picked = absurd picked
picks-below trees (dimension ∷ table) (parent ∷ parents) (code ∷ place) picked =
    let here = listed-code (cut_tree trees dimension) parent code picked.0 in
    let rest = picks-below trees table parents place picked.1 in
    rw (here, rest) refl
