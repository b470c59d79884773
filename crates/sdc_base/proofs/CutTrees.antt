-- Depths, and trees down to a depth.
use Rattle.std.proofs.Common.{◌≡◌, ◌≢◌, ℕ, zero, suc, ◌-◌, ◌<◌, ◌≤◌, ◌==◌, ◌||◌, nat_lt, Bool, true, false, cond, List, [], ◌∷◌, length, filter, slice_get, slice_index, Option, None, Some, refl, ap, sym, ◌∙◌, subst, arith}
use Rattle.std.specs.List.{list_any}
use Rattle.std.specs.Option.{option_and_then}
use Rattle.std.proofs.lemmas.Bool.Decides.{nat_tests}
use Rattle.std.proofs.lemmas.Option.{slice_get_past, slice_get_within}
use Rattle.sdc_base.specs.Trees.{IsCodeTree, Tree, climb, is_under, met_in, parent_at, places_upward}
use Rattle.sdc_base.specs.CutTrees.{CutTree, code_within, depth_in, goes_below, is_within}
use Rattle.sdc_base.proofs.Walks.{met-none, parent_is_earlier}

-- ---- how deep a code is

-- the parent that a step upwards leads through
step-up : (tree : Tree) (depth place : ℕ) → climb tree (suc depth) place ≡ Some 0 → (parent : ℕ) × (parent_at tree place ≡ Some parent) × (climb tree depth parent ≡ Some 0)
step-up tree depth place is = by (parent_at tree place) refl is
  where
    by : (met : Option ℕ) → parent_at tree place ≡ met → option_and_then (climb tree depth) met ≡ Some 0 → (parent : ℕ) × (parent_at tree place ≡ Some parent) × (climb tree depth parent ≡ Some 0)
    by None at h = absurd cc
    by (Some parent) at h = (parent, at, h)

-- so many steps lead to the total where so many codes are above
pub met-length : (tree : Tree) → parent_at tree 0 ≡ None → (n depth place : ℕ) → climb tree depth place ≡ Some 0 → depth ≤ n → length (met_in n tree (parent_at tree place)) ≡ depth
met-length tree total n zero place is few =
    let top : place ≡ 0 = cc in
    ap (λ p. length (met_in n tree (parent_at tree p))) top ∙ ap (λ met. length (met_in n tree met)) total ∙ ap length (met-none n tree)
met-length tree total zero (suc depth) place is few = absurd (omega (arith, few))
met-length tree total (suc n) (suc depth) place is few =
    let up = step-up tree depth place is in
    ap (λ met. length (met_in (suc n) tree met)) up.1 ∙ ap suc (met-length tree total n depth up.0 up.2 (omega (arith, few)))

pub inside-tree : (tree : Tree) (place parent : ℕ) → parent_at tree place ≡ Some parent → place < length tree
inside-tree tree place parent is = by (slice_get tree place) refl is
  where
    by : (met : Option (List ℕ × Option ℕ)) → slice_get tree place ≡ met → option_and_then (λ node. node.1) met ≡ Some parent → place < length tree
    by None at h = absurd cc
    by (Some node) at h = slice_get_within tree place node at

-- a code is no deeper than it has codes before it
depth-before : (tree : Tree) → IsCodeTree tree → (depth place : ℕ) → climb tree depth place ≡ Some 0 → depth ≤ place
depth-before tree is zero place h = omega arith
depth-before tree is (suc depth) place h =
    let up = step-up tree depth place h in
    omega (arith, depth-before tree is depth up.0 up.2, parent_is_earlier tree is place up.0 up.1)

depth-few : (tree : Tree) → IsCodeTree tree → (depth place : ℕ) → climb tree depth place ≡ Some 0 → depth ≤ length tree
depth-few tree is zero place h = omega arith
depth-few tree is (suc depth) place h =
    let up = step-up tree depth place h in
    let inside = inside-tree tree place up.0 up.1 in
    let few = depth-before tree is (suc depth) place h in
    omega (arith, inside, few)

-- the depth of a code is how many steps it is from the total
pub depth-is : (tree : Tree) → IsCodeTree tree → (depth place : ℕ) → climb tree depth place ≡ Some 0 → depth ≡ depth_in tree place
depth-is tree is depth place h = sym (met-length tree is.total (length tree) depth place h (depth-few tree is depth place h))

-- behind the last code none is above
pub depth-past : (tree : Tree) (place : ℕ) → length tree ≤ place → 0 ≡ depth_in tree place
depth-past tree place past =
    sym (ap (λ met. length (met_in (length tree) tree (option_and_then (λ (node : List ℕ × Option ℕ). node.1) met))) (slice_get_past tree place past) ∙ ap length (met-none (length tree) tree))

-- the total is at depth 0
pub depth-total : (tree : Tree) → IsCodeTree tree → depth_in tree 0 ≡ 0
depth-total tree is = sym (depth-is tree is 0 0 refl)

-- no code of a code tree is deeper than nine steps
pub depth-nine : (tree : Tree) → IsCodeTree tree → (code : ℕ) → depth_in tree code ≤ 9
depth-nine tree is code =
    elim (nat_lt code (length tree)) as (λ b. nat_lt code (length tree) ≡ b → depth_in tree code ≤ 9) [
      | true ↦ λ h.
          let inside : code < length tree = grind (arith, nat_tests, h) in
          let shallow = is.shallow code inside in
          omega (arith, depth-is tree is shallow.0 code shallow.2, shallow.1)
      | false ↦ λ h.
          let past : length tree ≤ code = grind (arith, nat_tests, h) in
          omega (arith, depth-past tree code past)
    ] refl

-- more steps than the place has codes before it meet no more
pub met-enough : (tree : Tree) → IsCodeTree tree → (n m place : ℕ) → place < n → place < m → met_in n tree (Some place) ≡ met_in m tree (Some place)
met-enough tree is zero m place h k = absurd (omega (arith, h))
met-enough tree is (suc n) zero place h k = absurd (omega (arith, k))
met-enough tree is (suc n) (suc m) place h k =
    ap (λ t. place ∷ t) (by (λ parent below. met-enough tree is n m parent (omega (arith, h, below)) (omega (arith, k, below))) (parent_at tree place) refl)
  where
    by : ((parent : ℕ) → parent < place → met_in n tree (Some parent) ≡ met_in m tree (Some parent)) → (met : Option ℕ) → parent_at tree place ≡ met → met_in n tree met ≡ met_in m tree met
    by rest None at = met-none n tree ∙ sym (met-none m tree)
    by rest (Some parent) at = rest parent (parent_is_earlier tree is place parent at)

-- a walk is the place and the walk of its parent
pub upward-step : (tree : Tree) → IsCodeTree tree → (place parent : ℕ) → parent_at tree place ≡ Some parent → places_upward tree place ≡ place ∷ places_upward tree parent
upward-step tree is place parent at =
    let inside = inside-tree tree place parent at in
    let earlier = parent_is_earlier tree is place parent at in
    by (length tree) inside
    ∙ ap (λ t. place ∷ t) (met-enough tree is (length tree - 1) (length tree) parent (omega (arith, inside, earlier)) (omega (arith, inside, earlier)))
  where
    by : (n : ℕ) → place < n → met_in n tree (Some place) ≡ place ∷ met_in (n - 1) tree (Some parent)
    by zero h = absurd (omega (arith, h))
    by (suc n) h =
        let one : n ≡ suc n - 1 = omega arith in
        ap (λ met. place ∷ met_in n tree met) at ∙ ap (λ m. place ∷ met_in m tree (Some parent)) one

-- a child is one step deeper than its parent
pub depth-child : (tree : Tree) → IsCodeTree tree → (place parent : ℕ) → parent_at tree place ≡ Some parent → depth_in tree place ≡ suc (depth_in tree parent)
depth-child tree is place parent at =
    let inside = inside-tree tree place parent at in
    let earlier = parent_is_earlier tree is place parent at in
    let shallow = is.shallow parent (omega (arith, inside, earlier)) in
    let up : climb tree (suc shallow.0) place ≡ Some 0 = ap (option_and_then (climb tree shallow.0)) at ∙ shallow.2 in
    sym (depth-is tree is (suc shallow.0) place up) ∙ ap suc (depth-is tree is shallow.0 parent shallow.2)

-- ---- codes of a cut tree

-- the total is one, at whatever depth
pub total-within : (cut : CutTree) → IsCodeTree cut.tree → is_within cut 0 ≡ true
total-within cut is = let top = depth-total cut.tree is in grind (arith, nat_tests, top)

-- so is the parent of one
pub parent-within : (cut : CutTree) → IsCodeTree cut.tree → (place parent : ℕ) → parent_at cut.tree place ≡ Some parent → is_within cut place ≡ true → is_within cut parent ≡ true
parent-within cut is place parent at within = let deep = depth-child cut.tree is place parent at in grind (arith, nat_tests, deep, within)

-- a code goes below exactly where its children are codes of the cut tree
pub child-within : (cut : CutTree) → IsCodeTree cut.tree → (place parent : ℕ) → parent_at cut.tree place ≡ Some parent → goes_below cut parent ≡ is_within cut place
child-within cut is place parent at = let deep = depth-child cut.tree is place parent at in grind (arith, nat_tests, deep)

-- ---- the code of a cut tree that a code is under

upward-first : (tree : Tree) → IsCodeTree tree → (code : ℕ) → (rest : List ℕ) × (places_upward tree code ≡ code ∷ rest)
upward-first tree is code = by (length tree) is.has_total
  where
    by : (n : ℕ) → 0 < n → (rest : List ℕ) × (met_in n tree (Some code) ≡ code ∷ rest)
    by zero h = absurd (omega (arith, h))
    by (suc n) h = (met_in n tree (parent_at tree code), refl)

-- a code of the cut tree is its own
pub within-itself : (cut : CutTree) → IsCodeTree cut.tree → (code : ℕ) → is_within cut code ≡ true → code_within cut code ≡ code
within-itself cut is code within =
    let first = upward-first cut.tree is code in
    ap (λ walk. slice_index (filter (is_within cut) walk) 0) first.1 ∙ ap (λ b. slice_index (cond b (code ∷ filter (is_within cut) first.0) (filter (is_within cut) first.0)) 0) within

-- another one has that of its parent
pub within-step : (cut : CutTree) → IsCodeTree cut.tree → (code parent : ℕ) → parent_at cut.tree code ≡ Some parent → is_within cut code ≡ false → code_within cut code ≡ code_within cut parent
within-step cut is code parent at deeper =
    ap (λ walk. slice_index (filter (is_within cut) walk) 0) (upward-step cut.tree is code parent at)
    ∙ ap (λ b. slice_index (cond b (code ∷ filter (is_within cut) (places_upward cut.tree parent)) (filter (is_within cut) (places_upward cut.tree parent))) 0) deeper

-- a code without a parent is a code of the cut tree
pub alone-within : (cut : CutTree) (code : ℕ) → parent_at cut.tree code ≡ None → is_within cut code ≡ true
alone-within cut code at =
    let none : depth_in cut.tree code ≡ 0 = ap (λ met. length (met_in (length cut.tree) cut.tree met)) at ∙ ap length (met-none (length cut.tree) cut.tree) in
    grind (arith, nat_tests, none)

-- one that isn't has a parent
pub deeper-parent : (cut : CutTree) (code : ℕ) → is_within cut code ≡ false → (parent : ℕ) × (parent_at cut.tree code ≡ Some parent)
deeper-parent cut code deeper = by (parent_at cut.tree code) refl
  where
    by : (met : Option ℕ) → parent_at cut.tree code ≡ met → (parent : ℕ) × (parent_at cut.tree code ≡ Some parent)
    by None at = let within = alone-within cut code at in absurd cc
    by (Some parent) at = (parent, at)

-- what is known of the code of the cut tree that a code is under: it is one, and of the same tree, and above it stand the
-- codes of the cut tree that stand above the code
pub record IsWithin (cut : CutTree) (code found : ℕ) : Type 0 where
  pub one : is_within cut found ≡ true
  pub inside : code < length cut.tree → found < length cut.tree
  pub under : (above : ℕ) → is_within cut above ≡ true → is_under cut.tree code above ≡ is_under cut.tree found above

within-below : (cut : CutTree) → IsCodeTree cut.tree → (n code : ℕ) → code < n → IsWithin cut code (code_within cut code)
within-below cut is zero code h = absurd (omega (arith, h))
within-below cut is (suc n) code h =
    elim (is_within cut code) as (λ b. is_within cut code ≡ b → IsWithin cut code (code_within cut code)) [
      | true ↦ λ within. subst (IsWithin cut code) (sym (within-itself cut is code within)) (record { one = within; inside = λ inside. inside; under = λ above _. refl })
      | false ↦ λ deeper.
          let up = deeper-parent cut code deeper in
          let earlier = parent_is_earlier cut.tree is code up.0 up.1 in
          let rest = within-below cut is n up.0 (omega (arith, h, earlier)) in
          subst (IsWithin cut code) (sym (within-step cut is code up.0 up.1 deeper))
          (record {
            one = rest.one;
            inside = λ inside. rest.inside (omega (arith, inside, earlier));
            under = λ above within. passed above within deeper up.0 up.1 ∙ rest.under above within;
          })
    ] refl
  where
    passed : (above : ℕ) → is_within cut above ≡ true → is_within cut code ≡ false → (parent : ℕ) → parent_at cut.tree code ≡ Some parent → is_under cut.tree code above ≡ is_under cut.tree parent above
    passed above within deeper parent at =
        let apart : code ≢ above = λ same. let clash : is_within cut code ≡ true = ap (is_within cut) same ∙ within in absurd (differ deeper clash) in
        let test : (code == above) ≡ false = grind (arith, nat_tests, apart) in
        ap (list_any (λ met. met == above)) (upward-step cut.tree is code parent at) ∙ ap (λ b. b || is_under cut.tree parent above) test
      where
        differ : {b : Bool} → b ≡ false → b ≡ true → ⊥
        differ one other = absurd cc

pub within-is : (cut : CutTree) → IsCodeTree cut.tree → (code : ℕ) → IsWithin cut code (code_within cut code)
within-is cut is code = within-below cut is (suc code) code (omega arith)
