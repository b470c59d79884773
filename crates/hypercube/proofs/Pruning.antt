-- Cubes that begin with the same edges are left out together.
use Rattle.std.proofs.Common.{◌≡◌, ◌⊎◌, inl, inr, ℕ, suc, ◌≤◌, nat_lt, Bool, true, false, ◌==◌, ◌&&◌, ◌||◌, cond, if◌then◌else◌, List, [], ◌∷◌, ◌++◌, length, map, fold, drop, Option, None, Some, refl, ap, sym, ◌∙◌, subst, arith}
use Rattle.std.specs.List.{AllByRecursion, list_all}
use Rattle.std.proofs.Math.Path.{fun_ext}
use Rattle.std.proofs.lemmas.Bool.Decides.{nat_tests}
use Rattle.std.proofs.lemmas.List.{append-nil, drop_all}
use Rattle.sdc_base.specs.Cubes.{choices, corners_of, serve}
use Rattle.sdc_base.specs.CubeOrder.{Offer, better, comes_before, is_lower, offer_of}
use Rattle.sdc_base.specs.declared.cube.Corner.{Corner}
use Rattle.sdc_base.specs.declared.cube.Edge.{Edge}
use Rattle.hypercube.specs.Branches.{Setting, begin_at, best_beyond, cell_in, number_with_codes, costs_more, offers_of, shared_corners}
use Rattle.hypercube.specs.LeastCubes.{is_marked, price_in}
use Rattle.hypercube.proofs.AllOf.{all-map, all-more}
use Rattle.hypercube.proofs.SharedCorners.{begin-behind, choices-begin, codes_of, shared-serve, shared-sum}
use Rattle.hypercube.proofs.HidingPrices.{price_of}

-- the corners of a cube
abbrev pub corners_in : Setting → List Edge → List Corner
corners_in setting cube = corners_of (cell_in setting) cube

-- a cube doesn't serve, or costs more than the best offer so far
abbrev pub IsNoBetter : Setting → Option Offer → List Edge → Type 0
IsNoBetter setting best cube =
    (serve setting.cells setting.levels (corners_in setting cube) ≡ false) ⊎ (costs_more best (price_of setting (corners_in setting cube)) ≡ true)

to-false : (b : Bool) → (b ≡ true → ⊥) → b ≡ false
to-false true h = absurd (h refl)
to-false false h = refl

differ : {b : Bool} → b ≡ true → b ≡ false → ⊥
differ one other = absurd cc

-- what costs more doesn't come before
dearer-stays : (best : Option Offer) (offer : Offer) → costs_more best offer.0 ≡ true → better comes_before best offer ≡ best
dearer-stays None offer h = absurd cc
dearer-stays (Some one) offer h = ap (λ b. Some (if b then offer else one)) (later (is_lower offer.1 one.1))
  where
    less : nat_lt offer.0 one.0 ≡ false
    less = grind (arith, nat_tests, h)

    same : (offer.0 == one.0) ≡ false
    same = grind (arith, nat_tests, h)

    later : (b : Bool) → (nat_lt offer.0 one.0 || (offer.0 == one.0 && b)) ≡ false
    later b = rw (less, same) refl

-- such cubes leave the best offer as it is
pub none-better : (setting : Setting) (best : Option Offer) (cubes : List (List Edge)) → AllByRecursion (IsNoBetter setting best) cubes → fold (better comes_before) best (offers_of setting cubes) ≡ best
none-better setting best [] all = refl
none-better setting best (cube ∷ cubes) (here, all) =
    let offer : Offer = offer_of (cell_in setting) (is_marked setting.book) (price_in setting.book setting.cells setting.cost) cube in
    let rest : List Offer = offers_of setting cubes in
    elim (serve setting.cells setting.levels offer.1) as (λ b. (b ≡ false) ⊎ (costs_more best offer.0 ≡ true) → fold (better comes_before) best (cond b (offer ∷ rest) rest) ≡ best) [
      | true ↦ λ either. ap (λ (kept : Option Offer). fold (better comes_before) kept rest) (stays best offer either) ∙ none-better setting best cubes all
      | false ↦ λ either. none-better setting best cubes all
    ] here
  where
    stays : (best : Option Offer) (offer : Offer) → (true ≡ false) ⊎ (costs_more best offer.0 ≡ true) → better comes_before best offer ≡ best
    stays best offer (inl h) = absurd cc
    stays best offer (inr h) = dearer-stays best offer h

pub dearer-more : (best : Option Offer) (price more : ℕ) → price ≤ more → costs_more best price ≡ true → costs_more best more ≡ true
dearer-more None price more h dear = absurd cc
dearer-more (Some one) price more h dear = grind (arith, nat_tests, h, dear)

-- where the shared corners of a cube don't serve, or cost too much, the cube is no better
no-better : (setting : Setting) (best : Option Offer) (chosen more : List Edge) → codes_of more ≡ drop (length chosen) setting.codes
    → (serve setting.cells setting.levels (shared_corners setting chosen) ≡ false) ⊎ (costs_more best (price_of setting (shared_corners setting chosen)) ≡ true) → IsNoBetter setting best (chosen ++ more)
no-better setting best chosen more same (inl h) =
    inl (to-false (serve setting.cells setting.levels (corners_in setting (chosen ++ more))) (λ served. differ (subst (λ (codes : List ℕ). serve setting.cells setting.levels (corners_of (number_with_codes (cell_in setting) codes) chosen) ≡ true) same (shared-serve (cell_in setting) setting.cells setting.levels chosen more served)) h))
no-better setting best chosen more same (inr h) =
    inr (dearer-more best (price_of setting (shared_corners setting chosen)) (price_of setting (corners_in setting (chosen ++ more)))
    (subst (λ (codes : List ℕ). price_of setting (corners_of (number_with_codes (cell_in setting) codes) chosen) ≤ price_of setting (corners_in setting (chosen ++ more))) same
    (shared-sum (cell_in setting) (λ corner. if is_marked setting.book corner.cell then 0 else price_in setting.book setting.cells setting.cost corner.cell) chosen more)) h)

-- all cubes that begin with these edges are left out
pub left-out : (setting : Setting) (lists : List (List Edge)) (best : Option Offer) (chosen : List Edge) → begin_at setting.codes lists ≡ true
    → (serve setting.cells setting.levels (shared_corners setting chosen) ≡ false) ⊎ (costs_more best (price_of setting (shared_corners setting chosen)) ≡ true)
    → best ≡ best_beyond setting best chosen (drop (length chosen) lists)
left-out setting lists best chosen begun either =
    let rest = drop (length chosen) lists in
    sym (none-better setting best (map (λ more. chosen ++ more) (choices rest))
    (all-map (IsNoBetter setting best) (λ more. chosen ++ more) (choices rest)
    (all-more (λ more. codes_of more ≡ drop (length chosen) setting.codes) (λ more. IsNoBetter setting best (chosen ++ more)) (choices rest) (λ more same. no-better setting best chosen more same either)
    (choices-begin (drop (length chosen) setting.codes) rest (begin-behind (length chosen) setting.codes lists begun)))))

-- ---- a whole cube

pub as-long : (codes : List ℕ) (lists : List (List Edge)) → begin_at codes lists ≡ true → length codes ≡ length lists
as-long [] [] h = refl
as-long [] (edges ∷ lists) h = absurd cc
as-long (code ∷ codes) [] h = absurd cc
as-long (code ∷ codes) (edges ∷ lists) h = ap (λ n. suc n) (as-long codes lists (and-later (list_all (λ edge. edge.code == code) edges) (begin_at codes lists) h))
  where
    and-later : (a b : Bool) → (a && b) ≡ true → b ≡ true
    and-later true b h = h
    and-later false b h = absurd cc

-- where all edges are chosen the shared corners are all
all-chosen : (setting : Setting) (lists : List (List Edge)) (chosen : List Edge) → length lists ≤ length chosen → begin_at setting.codes lists ≡ true → shared_corners setting chosen ≡ corners_in setting chosen
all-chosen setting lists chosen past begun =
    let long = as-long setting.codes lists begun in
    ap (λ (codes : List ℕ). corners_of (number_with_codes (cell_in setting) codes) chosen) (drop_all (length chosen) setting.codes (omega (arith, long, past)))
    ∙ ap (λ (number : List ℕ → Option ℕ). corners_of number chosen) (fun_ext (λ place. ap (cell_in setting) (append-nil place)))

one-offer : (setting : Setting) (best : Option Offer) (cube : List Edge) → serve setting.cells setting.levels (corners_in setting cube) ≡ true
    → better comes_before best (price_of setting (corners_in setting cube), corners_in setting cube) ≡ fold (better comes_before) best (offers_of setting (cube ∷ []))
one-offer setting best cube served = rw served refl

-- and there is one cube
pub whole-cube : (setting : Setting) (lists : List (List Edge)) (best : Option Offer) (chosen : List Edge) → length lists ≤ length chosen → begin_at setting.codes lists ≡ true
    → serve setting.cells setting.levels (shared_corners setting chosen) ≡ true
    → better comes_before best (price_of setting (shared_corners setting chosen), shared_corners setting chosen) ≡ best_beyond setting best chosen (drop (length chosen) lists)
whole-cube setting lists best chosen past begun served =
    let same = all-chosen setting lists chosen past begun in
    ap (λ (corners : List Corner). better comes_before best (price_of setting corners, corners)) same
    ∙ one-offer setting best chosen (subst (λ (corners : List Corner). serve setting.cells setting.levels corners ≡ true) same served)
    ∙ ap (λ (cube : List Edge). fold (better comes_before) best (offers_of setting (cube ∷ []))) (sym (append-nil chosen))
    ∙ ap (best_beyond setting best chosen) (sym (drop_all (length chosen) lists past))
