-- How deep a place of a tree is.
use Rattle.std.proofs.Common.{◌≡◌, ℕ, suc, zero, ◌<◌, ◌≤◌, length, Option, None, Some, refl, ap, sym, ◌∙◌, subst, arith}
use Rattle.std.specs.Option.{option_and_then}
use Rattle.std.proofs.lemmas.Option.{option_and_then_some}
use Rattle.sdc_base.specs.Trees.{Tree, parent_at, climb, met_in, IsCodeTree}
use Rattle.sdc_base.proofs.Walks.{parent_is_earlier}
use Rattle.code_trees.specs.Depths.{depth_of}

none-some : {X : Type 0} (o : Option X) (x : X) → o ≡ None → o ≡ Some x → ⊥
none-some None x h k = cc
none-some (Some y) x h k = cc

not-above : (tree : Tree) (b place : ℕ) → parent_at tree 0 ≡ None → place ≡ 0 → climb tree (suc b) place ≡ Some 0 → ⊥
not-above tree b place total first h =
    none-some (climb tree (suc b) 0) 0 (ap (option_and_then (climb tree b)) total) (subst (λ k. climb tree (suc b) k ≡ Some 0) first h)

some-is : (place : ℕ) → Some place ≡ Some 0 → place ≡ 0
some-is place h = cc

-- a place has one depth
pub one-depth : (tree : Tree) → parent_at tree 0 ≡ None → (a b place : ℕ) → climb tree a place ≡ Some 0 → climb tree b place ≡ Some 0 → a ≡ b
one-depth tree total zero zero place h k = refl
one-depth tree total zero (suc b) place h k = absurd (not-above tree b place total (some-is place h) k)
one-depth tree total (suc a) zero place h k = absurd (not-above tree a place total (some-is place k) h)
one-depth tree total (suc a) (suc b) place h k =
    option_and_then_some (climb tree a) (parent_at tree place) 0 h
    (λ parent is rest. ap suc (one-depth tree total a b parent rest (ap (option_and_then (climb tree b)) (sym is) ∙ k)))

-- a place is no deeper than it has places before it
pub depth-within : (tree : Tree) → IsCodeTree tree → (depth place : ℕ) → climb tree depth place ≡ Some 0 → depth ≤ place
depth-within tree is zero place h = omega arith
depth-within tree is (suc depth) place h =
    option_and_then_some (climb tree depth) (parent_at tree place) 0 h
    (λ parent at rest. omega (arith, depth-within tree is depth parent rest, parent_is_earlier tree is place parent at))

-- as many places are met as the place is deep, and one
met-depth : (tree : Tree) → parent_at tree 0 ≡ None → (depth steps place : ℕ) → climb tree depth place ≡ Some 0 → depth < steps → length (met_in steps tree (Some place)) ≡ suc depth
met-depth tree total depth zero place h few = absurd (omega arith)
met-depth tree total zero (suc steps) place h few =
    ap (λ k. suc (length (met_in steps tree (parent_at tree k)))) (some-is place h) ∙ ap (λ (up : Option ℕ). suc (length (met_in steps tree up))) total
met-depth tree total (suc depth) (suc steps) place h few =
    option_and_then_some (climb tree depth) (parent_at tree place) 0 h
    (λ parent is rest. ap (λ (up : Option ℕ). suc (length (met_in steps tree up))) is ∙ ap suc (met-depth tree total depth steps parent rest (omega arith)))

-- the depth of a place is how many steps it is from the total
pub depth-is : (tree : Tree) → IsCodeTree tree → (depth place : ℕ) → place < length tree → climb tree depth place ≡ Some 0 → depth_of tree place ≡ depth
depth-is tree is depth place inside h =
    let met = met-depth tree is.total depth (length tree) place h (omega (arith, inside, depth-within tree is depth place h)) in
    omega (arith, met)
