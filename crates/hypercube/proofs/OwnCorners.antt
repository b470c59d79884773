-- The corner of an edge alone: each cube with the edge has it, beside the corners that the edges before it share.
use Rattle.std.proofs.Common.{◌≡◌, ℕ, ◌+◌, ◌≤◌, Bool, true, false, if◌then◌else◌, List, [], ◌∷◌, ◌++◌, length, drop, take, slice_set, Option, None, Some, refl, ap, sym, ◌∙◌, subst, arith}
use Rattle.std.specs.List.{sum_by}
use Rattle.std.specs.Option.{option_map_or}
use Rattle.std.proofs.lemmas.List.{length-map, take-append-drop}
use Rattle.sdc_base.specs.Cubes.{corner_at, corner_places, corners_of, other_end, own_end, serve, sign_over}
use Rattle.sdc_base.specs.declared.cube.Corner.{Corner}
use Rattle.sdc_base.specs.declared.cube.Edge.{Edge}
use Rattle.hypercube.specs.Branches.{Setting, cell_in, number_with_codes, shared_corners}
use Rattle.hypercube.specs.LeastCubes.{is_marked, price_in}
use Rattle.hypercube.specs.Ranks.{price_over, serves_over}
use Rattle.hypercube.proofs.Pruning.{corners_in}
use Rattle.hypercube.proofs.SharedCorners.{bears_at, begun-sum, codes_of, corners-sum, counted, ends-sum, failure, first-place, followed, none-fails}
use Rattle.hypercube.proofs.HidingPrices.{price_of}

-- the places of the shared corners, and the place of the edge's own, are among those of the cube
pub over-sum : (g : List ℕ × Bool → ℕ) (chosen : List Edge) (edge : Edge) (more : List Edge)
    → sum_by (λ place. g (followed (codes_of (edge ∷ more)) place)) (corner_places chosen) + g (codes_of chosen ++ edge.other ∷ codes_of more, sign_over edge true) ≤ sum_by g (corner_places (chosen ++ edge ∷ more))
over-sum g [] edge more =
    let own = first-place (λ place. g (own_end edge place)) more in
    let other = first-place (λ place. g (other_end edge place)) more in
    let all = ends-sum g edge (corner_places more) in
    omega (arith, own, other, all)
over-sum g (first ∷ chosen) edge more =
    let own = over-sum (λ place. g (own_end first place)) chosen edge more in
    let other = begun-sum (λ place. g (other_end first place)) chosen (edge ∷ more) in
    let few = ends-sum (λ place. g (followed (codes_of (edge ∷ more)) place)) first (corner_places chosen) in
    let all = ends-sum g first (corner_places (chosen ++ edge ∷ more)) in
    omega (arith, own, other, few, all)

over-corners : (number : List ℕ → Option ℕ) (f : Corner → ℕ) (chosen : List Edge) (edge : Edge) (more : List Edge)
    → sum_by f (corners_of (number_with_codes number (codes_of (edge ∷ more))) chosen) + option_map_or f (corner_at number (codes_of chosen ++ edge.other ∷ codes_of more, sign_over edge true)) 0 ≤ sum_by f (corners_of number (chosen ++ edge ∷ more))
over-corners number f chosen edge more =
    let few = corners-sum (number_with_codes number (codes_of (edge ∷ more))) f chosen in
    let all = corners-sum number f (chosen ++ edge ∷ more) in
    let less = over-sum (counted number f) chosen edge more in
    omega (arith, few, all, less)

-- ---- in a search

-- another code behind the first ones
set-behind : (front : List ℕ) (code other : ℕ) (behind : List ℕ) → slice_set (front ++ code ∷ behind) (length front) other ≡ front ++ other ∷ behind
set-behind [] code other behind = refl
set-behind (first ∷ front) code other behind = ap (λ (rest : List ℕ). first ∷ rest) (set-behind front code other behind)

-- the place of the edge's own corner
pub own-place : (codes : List ℕ) (chosen : List Edge) (edge : Edge) (more : List Edge) → codes_of chosen ≡ take (length chosen) codes → codes_of (edge ∷ more) ≡ drop (length chosen) codes
    → slice_set codes (length chosen) edge.other ≡ codes_of chosen ++ edge.other ∷ codes_of more
own-place codes chosen edge more front back =
    let whole : codes ≡ codes_of chosen ++ edge.code ∷ codes_of more =
    sym (take-append-drop (length chosen) codes) ∙ ap (λ (l : List ℕ). l ++ drop (length chosen) codes) (sym front) ∙ ap (λ (l : List ℕ). codes_of chosen ++ l) (sym back)
    in
    ap (λ (l : List ℕ). slice_set l (length chosen) edge.other) whole
    ∙ ap (λ (k : ℕ). slice_set (codes_of chosen ++ edge.code ∷ codes_of more) k edge.other) (sym (length-map chosen (λ (one : Edge). one.code)))
    ∙ set-behind (codes_of chosen) edge.code edge.other (codes_of more)

-- a cube costs at least as much as the shared corners of its first edges and the next edge's own corner
pub own-dearer : (setting : Setting) (chosen : List Edge) (edge : Edge) (more : List Edge) → codes_of chosen ≡ take (length chosen) setting.codes → codes_of (edge ∷ more) ≡ drop (length chosen) setting.codes
    → price_of setting (shared_corners setting chosen) + price_over setting (length chosen) edge ≤ price_of setting (corners_in setting (chosen ++ edge ∷ more))
own-dearer setting chosen edge more front back =
    let f : Corner → ℕ = λ corner. if is_marked setting.book corner.cell then 0 else price_in setting.book setting.cells setting.cost corner.cell in
    subst (λ (codes : List ℕ). price_of setting (corners_of (number_with_codes (cell_in setting) codes) chosen) + price_over setting (length chosen) edge ≤ price_of setting (corners_in setting (chosen ++ edge ∷ more))) back
    (subst (λ (place : List ℕ). price_of setting (corners_of (number_with_codes (cell_in setting) (codes_of (edge ∷ more))) chosen) + option_map_or f (corner_at (cell_in setting) (place, sign_over edge true)) 0 ≤ price_of setting (corners_in setting (chosen ++ edge ∷ more)))
    (sym (own-place setting.codes chosen edge more front back)) (over-corners (cell_in setting) f chosen edge more))

abbrev amount : Bool → ℕ
amount b = if b then 0 else 1

pub none-failed : (test : Corner → Bool) (met : Option Corner) → option_map_or (failure test) met 0 ≡ 0 → option_map_or test met true ≡ true
none-failed test None h = refl
none-failed test (Some corner) h =
    elim (test corner) as (λ b. amount b ≡ 0 → b ≡ true) [
      | true ↦ λ none. refl
      | false ↦ λ none. absurd (omega (arith, none))
    ] h

-- where a cube serves, the own corner of each edge does
pub own-serves : (setting : Setting) (chosen : List Edge) (edge : Edge) (more : List Edge) → codes_of chosen ≡ take (length chosen) setting.codes → codes_of (edge ∷ more) ≡ drop (length chosen) setting.codes
    → serve setting.cells setting.levels (corners_in setting (chosen ++ edge ∷ more)) ≡ true → serves_over setting (length chosen) edge ≡ true
own-serves setting chosen edge more front back served =
    let test : Corner → Bool = bears_at setting.cells setting.levels in
    let less = over-corners (cell_in setting) (failure test) chosen edge more in
    let none = none-fails test (corners_in setting (chosen ++ edge ∷ more)) served in
    subst (λ (place : List ℕ). option_map_or test (corner_at (cell_in setting) (place, sign_over edge true)) true ≡ true) (sym (own-place setting.codes chosen edge more front back))
    (none-failed test (corner_at (cell_in setting) (codes_of chosen ++ edge.other ∷ codes_of more, sign_over edge true)) (omega (arith, less, none)))
