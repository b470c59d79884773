-- Walking parents.
use Rattle.std.proofs.Common.{◌≡◌, ◌≢◌, ℕ, zero, suc, ◌<◌, ◌==◌, List, [], ◌∷◌, ◌+◌, if◌then◌else◌, Bool, true, false, ◌||◌, length, slice_get, Option, None, Some, arith, refl, ap, subst, ◌∙◌}
use Rattle.std.specs.List.{list_any}
use Rattle.std.specs.Option.{option_and_then}
use Rattle.std.proofs.lemmas.Bool.Decides.{nat_tests}
use Rattle.std.proofs.lemmas.Option.{option_and_then_some, slice_get_within}
use Rattle.sdc_base.specs.Places.{count}
use Rattle.sdc_base.specs.Trees.{Tree, met_in, parent_at, climb, IsCodeTree, UnderIsTested}

-- a test that none passes
pub count-none : {X : Type 0} (test : X → Bool) (xs : List X) → ((x : X) → test x ≡ false) → count test xs ≡ 0
count-none test [] none = refl
count-none test (x ∷ xs) none = ap (λ b. (if b then 1 else 0) + count test xs) (none x) ∙ ap (λ n. 0 + n) (count-none test xs none)

-- a walk from nowhere
pub met-none : (steps : ℕ) (tree : Tree) → met_in steps tree None ≡ []
met-none zero tree = refl
met-none (suc steps) tree = refl

-- one step up from a place that isn't the one looked for
pub one_up : (tree : Tree) (at above steps left : ℕ) (met : Option ℕ) (answer : Bool) → steps ≡ suc left → at ≢ above → met ≡ parent_at tree at → list_any (λ m. m == above) (met_in steps tree (Some at)) ≡ answer → list_any (λ m. m == above) (met_in left tree met) ≡ answer
one_up tree at above steps left met answer more apart up before =
    let test : (at == above) ≡ false = grind (arith, nat_tests) in
    let Here : ℕ → Type 0 = λ n. list_any (λ m. m == above) (met_in n tree (Some at)) ≡ answer in
    let opened : ((at == above) || list_any (λ m. m == above) (met_in left tree (parent_at tree at))) ≡ answer = subst Here more before in
    let rest = rw test at opened in
    ap (λ m. list_any (λ k. k == above) (met_in left tree m)) up ∙ rest

-- a walk that meets a place has climbed to it
pub met_is_climbed : (tree : Tree) (steps : ℕ) (met : Option ℕ) (above : ℕ) → list_any (λ m. m == above) (met_in steps tree met) ≡ true → (k : ℕ) × (option_and_then (climb tree k) met ≡ Some above)
met_is_climbed tree steps None above h = absurd cc
met_is_climbed tree zero (Some place) above h = absurd cc
met_is_climbed tree (suc steps) (Some place) above h =
    elim (place == above) as (λ b. (place == above) ≡ b → (b || list_any (λ m. m == above) (met_in steps tree (parent_at tree place))) ≡ true → (k : ℕ) × (climb tree k place ≡ Some above)) [
      | true ↦ λ is _. (0, ap Some (grind (arith, nat_tests, is)))
      | false ↦ λ is rest. let up = met_is_climbed tree steps (parent_at tree place) above rest in (suc up.0, up.1)
    ] refl h

or_true : (b c : Bool) → c ≡ true → (b || c) ≡ true
or_true true c h = refl
or_true false c h = h

-- where parents stand earlier, so many steps as the place has places before it, and one, meet all that is climbed to
pub climbed_is_met : (tree : Tree) → ((place parent : ℕ) → parent_at tree place ≡ Some parent → parent < place) → (steps k place above : ℕ) → place < steps → climb tree k place ≡ Some above → list_any (λ m. m == above) (met_in steps tree (Some place)) ≡ true
climbed_is_met tree earlier zero k place above h up = absurd (omega arith)
climbed_is_met tree earlier (suc steps) zero place above h up =
    let same : place ≡ above = cc up in
    let test : (place == above) ≡ true = grind (arith, nat_tests, same) in
    rw test refl
climbed_is_met tree earlier (suc steps) (suc k) place above h up =
    or_true (place == above) (list_any (λ m. m == above) (met_in steps tree (parent_at tree place)))
    (option_and_then_some (climb tree k) (parent_at tree place) above up
    (λ parent is rest. ap (λ met. list_any (λ m. m == above) (met_in steps tree met)) is ∙ climbed_is_met tree earlier steps k parent above (omega (arith, earlier place parent is)) rest))

-- in a code tree parents stand earlier
pub parent_is_earlier : (tree : Tree) → IsCodeTree tree → (place parent : ℕ) → parent_at tree place ≡ Some parent → parent < place
parent_is_earlier tree is zero parent h = let none = is.total in absurd cc
parent_is_earlier tree is (suc place) parent h =
    option_and_then_some (λ node. node.1) (slice_get tree (suc place)) parent h
    (λ node at _. let earlier = is.earlier (suc place) (omega arith) (slice_get_within tree (suc place) node at) in let same : earlier.0 ≡ parent = cc (earlier.1, h) in omega (arith, earlier.2, same))

pub under_is_tested : UnderIsTested
under_is_tested tree is place above within =
    (λ h. met_is_climbed tree (length tree) (Some place) above h, λ u. climbed_is_met tree (parent_is_earlier tree is) (length tree) u.0 place above within u.1)
