-- The last step of a walk up to a code.
use Rattle.std.proofs.Common.{◌≡◌, ℕ, zero, suc, ◌<◌, ◌≤◌, ◌==◌, ◌||◌, Bool, true, false, [], length, if◌then◌else◌, Option, None, Some, is_some, refl, ap, sym, ◌∙◌, subst, arith}
use Rattle.std.specs.List.{list_any}
use Rattle.std.specs.Option.{option_map_or}
use Rattle.std.proofs.lemmas.Bool.Decides.{nat_tests, Decides-eqb}
use Rattle.sdc_base.specs.Trees.{Tree, IsCodeTree, is_child, is_under, met_in, parent_at}
use Rattle.sdc_base.specs.CutTrees.{CutTree, is_within}
use Rattle.sdc_base.proofs.CutTrees.{parent-within}
use Rattle.sdc_base.proofs.Walks.{met-none, parent_is_earlier}

-- the first place of a walk whose parent is `above`
abbrev pub step_in : ℕ → Tree → ℕ → Option ℕ → Option ℕ
step_in steps tree above None = None
step_in zero tree above (Some place) = None
step_in (suc steps) tree above (Some place) = if is_child tree above place then Some place else step_in steps tree above (parent_at tree place)

abbrev pub step_below : Tree → ℕ → ℕ → Option ℕ
step_below tree above place = step_in (length tree) tree above (Some place)

-- the same place
abbrev pub is_met : Option ℕ → ℕ → Bool
is_met found place = option_map_or (λ one. one == place) found false

step-none : (steps : ℕ) (tree : Tree) (above : ℕ) → step_in steps tree above None ≡ None
step-none zero tree above = refl
step-none (suc steps) tree above = refl

met-or-step : (tree : Tree) → ((place parent : ℕ) → parent_at tree place ≡ Some parent → parent < place) → (steps place above : ℕ) → place < steps
    → list_any (λ met. met == above) (met_in steps tree (Some place)) ≡ ((place == above) || is_some (step_in steps tree above (Some place)))
met-or-step tree earlier zero place above h = absurd (omega (arith, h))
met-or-step tree earlier (suc steps) place above h = ap (λ b. (place == above) || b) (by (λ parent below. met-or-step tree earlier steps parent above below) (parent_at tree place) refl)
  where
    parted : (parent : ℕ) (b : Bool) → (parent == above) ≡ b → list_any (λ met. met == above) (met_in steps tree (Some parent)) ≡ ((parent == above) || is_some (step_in steps tree above (Some parent)))
        → list_any (λ met. met == above) (met_in steps tree (Some parent)) ≡ is_some (if b then Some place else step_in steps tree above (Some parent))
    parted parent true is rest = rest ∙ ap (λ b. b || is_some (step_in steps tree above (Some parent))) is
    parted parent false is rest = rest ∙ ap (λ b. b || is_some (step_in steps tree above (Some parent))) is

    by : ((parent : ℕ) → parent < steps → list_any (λ met. met == above) (met_in steps tree (Some parent)) ≡ ((parent == above) || is_some (step_in steps tree above (Some parent))))
        → (found : Option ℕ) → parent_at tree place ≡ found → list_any (λ met. met == above) (met_in steps tree found) ≡ is_some (if option_map_or (λ parent. parent == above) found false then Some place else step_in steps tree above found)
    by rest None at = ap (list_any (λ met. met == above)) (met-none steps tree) ∙ sym (ap is_some (step-none steps tree above))
    by rest (Some parent) at = let up = earlier place parent at in parted parent (parent == above) refl (rest parent (omega (arith, h, up))) ∙ ap (λ b. is_some (if b then Some place else step_in steps tree above (Some parent))) refl

-- the step is one to `above`, and no later than the place
step-child : (tree : Tree) → ((place parent : ℕ) → parent_at tree place ≡ Some parent → parent < place) → (steps : ℕ) (place above below : ℕ) → step_in steps tree above (Some place) ≡ Some below → (parent_at tree below ≡ Some above) × (below ≤ place)
step-child tree earlier zero place above below h = cc
step-child tree earlier (suc steps) place above below h = by (λ parent more. step-child tree earlier steps parent above below more) (parent_at tree place) refl h
  where
    some-same : {A : Type 0} {x y : A} → Some x ≡ Some y → x ≡ y
    some-same e = cc

    none-some : (found : Option ℕ) → found ≡ None → found ≡ Some below → (parent_at tree below ≡ Some above) × (below ≤ place)
    none-some None e g = cc
    none-some (Some x) e g = cc

    parted : (parent : ℕ) (b : Bool) → (parent == above) ≡ b → parent_at tree place ≡ Some parent → (step_in steps tree above (Some parent) ≡ Some below → (parent_at tree below ≡ Some above) × (below ≤ parent))
        → (if b then Some place else step_in steps tree above (Some parent)) ≡ Some below → (parent_at tree below ≡ Some above) × (below ≤ place)
    parted parent true is at rest e =
        let same : place ≡ below = some-same e in
        let up : parent ≡ above = (Decides-eqb parent above).0 is in
        (ap (parent_at tree) (sym same) ∙ at ∙ ap Some up, omega (arith, same))
    parted parent false is at rest e = let more = rest e in let up = earlier place parent at in (more.0, omega (arith, more.1, up))

    by : ((parent : ℕ) → step_in steps tree above (Some parent) ≡ Some below → (parent_at tree below ≡ Some above) × (below ≤ parent))
        → (found : Option ℕ) → parent_at tree place ≡ found → (if option_map_or (λ parent. parent == above) found false then Some place else step_in steps tree above found) ≡ Some below → (parent_at tree below ≡ Some above) × (below ≤ place)
    by rest None at e = none-some (step_in steps tree above None) (step-none steps tree above) e
    by rest (Some parent) at e = parted parent (parent == above) refl at (rest parent) e

-- a walk that starts below a place doesn't meet it
not-met : (tree : Tree) → ((place parent : ℕ) → parent_at tree place ≡ Some parent → parent < place) → (steps place above : ℕ) → place < above → list_any (λ met. met == above) (met_in steps tree (Some place)) ≡ false
not-met tree earlier zero place above h = refl
not-met tree earlier (suc steps) place above h =
    let test : (place == above) ≡ false = grind (arith, nat_tests) in
    rw test (by (λ parent below. not-met tree earlier steps parent above below) (parent_at tree place) refl)
  where
    by : ((parent : ℕ) → parent < above → list_any (λ met. met == above) (met_in steps tree (Some parent)) ≡ false) → (found : Option ℕ) → parent_at tree place ≡ found → list_any (λ met. met == above) (met_in steps tree found) ≡ false
    by rest None at = ap (list_any (λ met. met == above)) (met-none steps tree)
    by rest (Some parent) at = let up = earlier place parent at in rest parent (omega (arith, up, h))

-- a walk meets a place exactly where its step to the place's parent is from there
met-is-step : (tree : Tree) → ((place parent : ℕ) → parent_at tree place ≡ Some parent → parent < place) → (below above : ℕ) → parent_at tree below ≡ Some above → (steps place : ℕ)
    → list_any (λ met. met == below) (met_in steps tree (Some place)) ≡ is_met (step_in steps tree above (Some place)) below
met-is-step tree earlier below above at zero place = refl
met-is-step tree earlier below above at (suc steps) place = by (λ parent. met-is-step tree earlier below above at steps parent) (parent_at tree place) refl
  where
    less : above < below
    less = earlier below above at

    or-false : (b : Bool) → (b || false) ≡ b
    or-false true = refl
    or-false false = refl

    some-same : {A : Type 0} {x y : A} → Some x ≡ Some y → x ≡ y
    some-same e = cc

    other : (found : Option ℕ) → parent_at tree place ≡ found → option_map_or (λ parent. parent == above) found false ≡ false → (b : Bool) → (place == below) ≡ b → b ≡ false
    other found up none true is =
        let same : place ≡ below = (Decides-eqb place below).0 is in
        let found_is : found ≡ Some above = sym up ∙ ap (parent_at tree) same ∙ at in
        let yes : (above == above) ≡ true = (Decides-eqb above above).1 refl in
        let met : option_map_or (λ parent. parent == above) found false ≡ true = ap (λ o. option_map_or (λ parent. parent == above) o false) found_is ∙ yes in
        cc
    other found up none false is = refl

    parted : (parent : ℕ) (b : Bool) → (parent == above) ≡ b → parent_at tree place ≡ Some parent → list_any (λ met. met == below) (met_in steps tree (Some parent)) ≡ is_met (step_in steps tree above (Some parent)) below
        → ((place == below) || list_any (λ met. met == below) (met_in steps tree (Some parent))) ≡ is_met (if b then Some place else step_in steps tree above (Some parent)) below
    parted parent true is up rest =
        let same : parent ≡ above = (Decides-eqb parent above).0 is in
        ap (λ b. (place == below) || b) (not-met tree earlier steps parent below (omega (arith, same, less))) ∙ or-false (place == below)
    parted parent false is up rest = ap (λ b. b || list_any (λ met. met == below) (met_in steps tree (Some parent))) (other (Some parent) up is (place == below) refl) ∙ rest

    by : ((parent : ℕ) → list_any (λ met. met == below) (met_in steps tree (Some parent)) ≡ is_met (step_in steps tree above (Some parent)) below)
        → (found : Option ℕ) → parent_at tree place ≡ found → ((place == below) || list_any (λ met. met == below) (met_in steps tree found)) ≡ is_met (if option_map_or (λ parent. parent == above) found false then Some place else step_in steps tree above found) below
    by rest None up =
        ap (λ b. b || list_any (λ met. met == below) (met_in steps tree None)) (other None up refl (place == below) refl)
        ∙ ap (list_any (λ met. met == below)) (met-none steps tree)
        ∙ sym (ap (λ o. is_met o below) (step-none steps tree above))
    by rest (Some parent) up = parted parent (parent == above) refl up (rest parent)

-- ---- in a code tree

pub under-or-step : (tree : Tree) → IsCodeTree tree → (place above : ℕ) → place < length tree → is_under tree place above ≡ ((place == above) || is_some (step_below tree above place))
under-or-step tree is place above h = met-or-step tree (parent_is_earlier tree is) (length tree) place above h

pub under-is-step : (tree : Tree) → IsCodeTree tree → (place below above : ℕ) → parent_at tree below ≡ Some above → is_under tree place below ≡ is_met (step_below tree above place) below
under-is-step tree is place below above at = met-is-step tree (parent_is_earlier tree is) below above at (length tree) place

pub step-parent : (tree : Tree) → IsCodeTree tree → (place above below : ℕ) → step_below tree above place ≡ Some below → parent_at tree below ≡ Some above
step-parent tree is place above below h = (step-child tree (parent_is_earlier tree is) (length tree) place above below h).0

-- no step leads from a place to itself
pub step-apart : (tree : Tree) → IsCodeTree tree → (place above below : ℕ) → step_below tree above place ≡ Some below → (place == above) ≡ false
step-apart tree is place above below h =
    let child = step-child tree (parent_is_earlier tree is) (length tree) place above below h in
    let less : above < below = parent_is_earlier tree is below above child.0 in
    let late = child.1 in
    grind (arith, nat_tests, less, late)

-- a walk from a code of a cut tree goes through such codes alone
pub step-within : (cut : CutTree) → IsCodeTree cut.tree → (steps place above below : ℕ) → is_within cut place ≡ true → step_in steps cut.tree above (Some place) ≡ Some below → is_within cut below ≡ true
step-within cut is zero place above below within h = absurd cc
step-within cut is (suc steps) place above below within h = by (is_child cut.tree above place) (parent_at cut.tree place) refl (λ parent at rest. step-within cut is steps parent above below (parent-within cut is place parent at within) rest) h
  where
    same-of : {x y : ℕ} → Some x ≡ Some y → x ≡ y
    same-of e = cc

    none-some : (found : Option ℕ) → found ≡ None → found ≡ Some below → is_within cut below ≡ true
    none-some None e g = cc
    none-some (Some x) e g = cc

    by : (b : Bool) (found : Option ℕ) → parent_at cut.tree place ≡ found → ((parent : ℕ) → parent_at cut.tree place ≡ Some parent → step_in steps cut.tree above (Some parent) ≡ Some below → is_within cut below ≡ true)
        → (if b then Some place else step_in steps cut.tree above found) ≡ Some below → is_within cut below ≡ true
    by true found at rest e = subst (λ one. is_within cut one ≡ true) (same-of e) within
    by false None at rest e = none-some (step_in steps cut.tree above None) (step-none steps cut.tree above) e
    by false (Some parent) at rest e = rest parent at e
