-- The corner at the partners of all edges: each cube with two edges or more has it, beside the shared corners of the edges before the last and the last edge's own.
use Rattle.std.proofs.Common.{◌≡◌, ◌⊎◌, inl, inr, ℕ, ◌+◌, ◌≤◌, Bool, true, false, not, if◌then◌else◌, List, [], ◌∷◌, ◌++◌, length, map, fold, drop, take, Option, refl, ap, sym, ◌∙◌, subst, append_assoc, arith}
use Rattle.std.specs.List.{sum_by}
use Rattle.std.specs.Option.{option_map_or}
use Rattle.std.proofs.lemmas.List.{map-append, take-append-drop}
use Rattle.sdc_base.specs.Cubes.{choices, corner_at, corner_places, corners_of, other_end, own_end, serve, sign_over}
use Rattle.sdc_base.specs.CubeOrder.{Offer}
use Rattle.sdc_base.specs.declared.cube.Corner.{Corner}
use Rattle.sdc_base.specs.declared.cube.Edge.{Edge}
use Rattle.hypercube.specs.Branches.{Setting, begin_at, best_beyond, cell_in, costs_more, number_with_codes, shared_corners, sign_beyond}
use Rattle.hypercube.specs.LeastCubes.{is_marked, price_in}
use Rattle.hypercube.specs.Ranks.{BeginAt, IsLeft, opposite, price_at, price_over, serves_at}
use Rattle.hypercube.proofs.AllOf.{all-map, all-more}
use Rattle.hypercube.proofs.OwnCorners.{none-failed, over-sum, own-place}
use Rattle.hypercube.proofs.Pruning.{IsNoBetter, corners_in, dearer-more, none-better}
use Rattle.hypercube.proofs.Rankings.{back-codes, front-codes}
use Rattle.hypercube.proofs.SharedCorners.{bears_at, begin-behind, begun-sum, choices-begin, codes_of, corners-sum, counted, ends-sum, failure, first-place, followed, none-fails}
use Rattle.hypercube.proofs.HidingPrices.{price_of}

-- ---- its place and sign

-- the partners of these edges
abbrev partners_of : List Edge → List ℕ
partners_of edges = map (λ edge. edge.other) edges

-- the sign at all of them, from the last edge on
abbrev sign_back : List Edge → Bool
sign_back [] = true
sign_back (edge ∷ edges) = sign_over edge (sign_back edges)

swapped : (one other : Edge) (plus : Bool) → sign_over one (sign_over other plus) ≡ sign_over other (sign_over one plus)
swapped one other plus = by one.equal other.equal plus
  where
    by : (a b plus : Bool) → (if a then (if b then plus else not plus) else not (if b then plus else not plus)) ≡ (if b then (if a then plus else not plus) else not (if a then plus else not plus))
    by true b plus = refl
    by false true plus = refl
    by false false plus = refl

sign-through : (edges : List Edge) (edge : Edge) (plus : Bool) → fold (λ (sign : Bool) (one : Edge). sign_over one sign) (sign_over edge plus) edges ≡ sign_over edge (fold (λ (sign : Bool) (one : Edge). sign_over one sign) plus edges)
sign-through [] edge plus = refl
sign-through (one ∷ edges) edge plus = ap (λ (sign : Bool). fold (λ (sign : Bool) (one : Edge). sign_over one sign) sign edges) (swapped one edge plus) ∙ sign-through edges edge (sign_over one plus)

signs-are : (edges : List Edge) → sign_beyond edges ≡ sign_back edges
signs-are [] = refl
signs-are (edge ∷ edges) = sign-through edges edge true ∙ ap (λ (sign : Bool). sign_over edge sign) (signs-are edges)

-- the place with its sign, where all further variables have these codes
abbrev far_place : List Edge → List ℕ → List ℕ × Bool
far_place edges codes = (partners_of edges ++ codes, sign_back edges)

-- ---- among the places of a cube

far-sum : (g : List ℕ × Bool → ℕ) (chosen : List Edge) (edge : Edge) (more : List Edge)
    → sum_by (λ place. g (followed (codes_of (edge ∷ more)) place)) (corner_places chosen) + g (far_place (chosen ++ edge ∷ []) (codes_of more)) ≤ sum_by g (corner_places (chosen ++ edge ∷ more))
far-sum g [] edge more =
    let own = first-place (λ place. g (own_end edge place)) more in
    let other = first-place (λ place. g (other_end edge place)) more in
    let all = ends-sum g edge (corner_places more) in
    omega (arith, own, other, all)
far-sum g (first ∷ chosen) edge more =
    let own = begun-sum (λ place. g (own_end first place)) chosen (edge ∷ more) in
    let other = far-sum (λ place. g (other_end first place)) chosen edge more in
    let few = ends-sum (λ place. g (followed (codes_of (edge ∷ more)) place)) first (corner_places chosen) in
    let all = ends-sum g first (corner_places (chosen ++ edge ∷ more)) in
    omega (arith, own, other, few, all)

both-sum : (g : List ℕ × Bool → ℕ) (first : Edge) (chosen : List Edge) (edge : Edge) (more : List Edge)
    → sum_by (λ place. g (followed (codes_of (edge ∷ more)) place)) (corner_places (first ∷ chosen)) + g (codes_of (first ∷ chosen) ++ edge.other ∷ codes_of more, sign_over edge true) + g (far_place (first ∷ (chosen ++ edge ∷ [])) (codes_of more)) ≤ sum_by g (corner_places (first ∷ (chosen ++ edge ∷ more)))
both-sum g first chosen edge more =
    let own = over-sum (λ place. g (own_end first place)) chosen edge more in
    let other = far-sum (λ place. g (other_end first place)) chosen edge more in
    let few = ends-sum (λ place. g (followed (codes_of (edge ∷ more)) place)) first (corner_places chosen) in
    let all = ends-sum g first (corner_places (chosen ++ edge ∷ more)) in
    omega (arith, own, other, few, all)

both-corners : (number : List ℕ → Option ℕ) (f : Corner → ℕ) (first : Edge) (chosen : List Edge) (edge : Edge) (more : List Edge)
    → sum_by f (corners_of (number_with_codes number (codes_of (edge ∷ more))) (first ∷ chosen)) + option_map_or f (corner_at number (codes_of (first ∷ chosen) ++ edge.other ∷ codes_of more, sign_over edge true)) 0 + option_map_or f (corner_at number (far_place (first ∷ (chosen ++ edge ∷ [])) (codes_of more))) 0 ≤ sum_by f (corners_of number (first ∷ (chosen ++ edge ∷ more)))
both-corners number f first chosen edge more =
    let few = corners-sum (number_with_codes number (codes_of (edge ∷ more))) f (first ∷ chosen) in
    let all = corners-sum number f (first ∷ (chosen ++ edge ∷ more)) in
    let less = both-sum (counted number f) first chosen edge more in
    omega (arith, few, all, less)

-- ---- in a search

-- the corner is the one at that place
opposite-at : (setting : Setting) (edges : List Edge) (codes : List ℕ) → codes ≡ drop (length edges) setting.codes → corner_at (cell_in setting) (far_place edges codes) ≡ opposite setting edges
opposite-at setting edges codes is =
    ap (λ (behind : List ℕ). corner_at (cell_in setting) (partners_of edges ++ behind, sign_back edges)) is
    ∙ ap (λ (plus : Bool). corner_at (cell_in setting) (partners_of edges ++ drop (length edges) setting.codes, plus)) (sym (signs-are edges))

far-dearer : (setting : Setting) (first : Edge) (chosen : List Edge) (edge : Edge) (more : List Edge) → codes_of (first ∷ chosen) ≡ take (length (first ∷ chosen)) setting.codes → codes_of (edge ∷ more) ≡ drop (length (first ∷ chosen)) setting.codes
    → codes_of more ≡ drop (length (first ∷ (chosen ++ edge ∷ []))) setting.codes
    → price_of setting (shared_corners setting (first ∷ chosen)) + price_over setting (length (first ∷ chosen)) edge + price_at setting (opposite setting (first ∷ (chosen ++ edge ∷ []))) ≤ price_of setting (corners_in setting (first ∷ (chosen ++ edge ∷ more)))
far-dearer setting first chosen edge more front back behind =
    let f : Corner → ℕ = λ corner. if is_marked setting.book corner.cell then 0 else price_in setting.book setting.cells setting.cost corner.cell in
    let all : ℕ = price_of setting (corners_in setting (first ∷ (chosen ++ edge ∷ more))) in
    let far : Option Corner = corner_at (cell_in setting) (far_place (first ∷ (chosen ++ edge ∷ [])) (codes_of more)) in
    subst (λ (corner : Option Corner). price_of setting (shared_corners setting (first ∷ chosen)) + price_over setting (length (first ∷ chosen)) edge + price_at setting corner ≤ all) (opposite-at setting (first ∷ (chosen ++ edge ∷ [])) (codes_of more) behind)
    (subst (λ (codes : List ℕ). price_of setting (corners_of (number_with_codes (cell_in setting) codes) (first ∷ chosen)) + price_over setting (length (first ∷ chosen)) edge + price_at setting far ≤ all) back
    (subst (λ (place : List ℕ). price_of setting (corners_of (number_with_codes (cell_in setting) (codes_of (edge ∷ more))) (first ∷ chosen)) + option_map_or f (corner_at (cell_in setting) (place, sign_over edge true)) 0 + price_at setting far ≤ all)
    (sym (own-place setting.codes (first ∷ chosen) edge more front back)) (both-corners (cell_in setting) f first chosen edge more)))

far-serves : (setting : Setting) (first : Edge) (chosen : List Edge) (edge : Edge) (more : List Edge) → codes_of more ≡ drop (length (first ∷ (chosen ++ edge ∷ []))) setting.codes
    → serve setting.cells setting.levels (corners_in setting (first ∷ (chosen ++ edge ∷ more))) ≡ true → serves_at setting (opposite setting (first ∷ (chosen ++ edge ∷ []))) ≡ true
far-serves setting first chosen edge more behind served =
    let test : Corner → Bool = bears_at setting.cells setting.levels in
    let less = both-corners (cell_in setting) (failure test) first chosen edge more in
    let none = none-fails test (corners_in setting (first ∷ (chosen ++ edge ∷ more))) served in
    subst (λ (corner : Option Corner). serves_at setting corner ≡ true) (opposite-at setting (first ∷ (chosen ++ edge ∷ [])) (codes_of more) behind)
    (none-failed test (corner_at (cell_in setting) (far_place (first ∷ (chosen ++ edge ∷ [])) (codes_of more))) (omega (arith, less, none)))

to-false : (b : Bool) → (b ≡ true → ⊥) → b ≡ false
to-false true h = absurd (h refl)
to-false false h = refl

differ : {b : Bool} → b ≡ true → b ≡ false → ⊥
differ one other = absurd cc

-- a cube that goes on from there is no better
far-no-better : (setting : Setting) (best : Option Offer) (first : Edge) (chosen : List Edge) (edge : Edge) (more : List Edge) (price : ℕ) → BeginAt setting (first ∷ (chosen ++ edge ∷ []))
    → price ≤ price_of setting (shared_corners setting (first ∷ chosen)) + price_over setting (length (first ∷ chosen)) edge
    → (serves_at setting (opposite setting (first ∷ (chosen ++ edge ∷ []))) ≡ false) ⊎ (costs_more best (price + price_at setting (opposite setting (first ∷ (chosen ++ edge ∷ [])))) ≡ true)
    → codes_of more ≡ drop (length (first ∷ (chosen ++ edge ∷ []))) setting.codes → IsNoBetter setting best (first ∷ (chosen ++ edge ∷ more))
far-no-better setting best first chosen edge more price begin above (inl h) behind =
    inl (to-false (serve setting.cells setting.levels (corners_in setting (first ∷ (chosen ++ edge ∷ more)))) (λ served. differ (far-serves setting first chosen edge more behind served) h))
far-no-better setting best first chosen edge more price begin above (inr h) behind =
    let before : List Edge = first ∷ chosen in
    let along : (before ++ edge ∷ []) ++ more ≡ before ++ edge ∷ more = append_assoc before (edge ∷ []) more in
    let parts : codes_of ((before ++ edge ∷ []) ++ more) ≡ setting.codes =
    map-append (λ (e : Edge). e.code) (before ++ edge ∷ []) more
    ∙ ap (λ (codes : List ℕ). codes ++ codes_of more) begin
    ∙ ap (λ (codes : List ℕ). take (length (before ++ edge ∷ [])) setting.codes ++ codes) behind
    ∙ take-append-drop (length (before ++ edge ∷ [])) setting.codes
    in
    let all : codes_of before ++ codes_of (edge ∷ more) ≡ setting.codes = sym (map-append (λ (e : Edge). e.code) before (edge ∷ more)) ∙ ap (λ (l : List Edge). codes_of l) (sym along) ∙ parts in
    let front : codes_of before ≡ take (length before) setting.codes = sym (front-codes before (codes_of (edge ∷ more))) ∙ ap (λ (l : List ℕ). take (length before) l) all in
    let back : codes_of (edge ∷ more) ≡ drop (length before) setting.codes = sym (back-codes before (codes_of (edge ∷ more))) ∙ ap (λ (l : List ℕ). drop (length before) l) all in
    let dear = far-dearer setting first chosen edge more front back behind in
    inr (dearer-more best (price + price_at setting (opposite setting (before ++ edge ∷ []))) (price_of setting (corners_in setting (before ++ edge ∷ more))) (omega (arith, dear, above)) h)

-- so an edge that is left leaves the best offer as it is
pub passed-over : (setting : Setting) (lists : List (List Edge)) (best : Option Offer) (chosen : List Edge) (edge : Edge) (price : ℕ) → begin_at setting.codes lists ≡ true → BeginAt setting (chosen ++ edge ∷ [])
    → price ≤ price_of setting (shared_corners setting chosen) + price_over setting (length chosen) edge → IsLeft setting (chosen ++ edge ∷ []) price best
    → best_beyond setting best (chosen ++ edge ∷ []) (drop (length (chosen ++ edge ∷ [])) lists) ≡ best
passed-over setting lists best [] edge price begun begin above (long, either) = absurd (omega (arith, long))
passed-over setting lists best (first ∷ chosen) edge price begun begin above (long, either) =
    let longer : List Edge = first ∷ (chosen ++ edge ∷ []) in
    let rest = drop (length longer) lists in
    none-better setting best (map (λ more. longer ++ more) (choices rest))
    (all-map (IsNoBetter setting best) (λ more. longer ++ more) (choices rest)
    (all-more (λ more. codes_of more ≡ drop (length longer) setting.codes) (λ more. IsNoBetter setting best (longer ++ more)) (choices rest)
    (λ more behind. subst (λ (l : List Edge). IsNoBetter setting best (first ∷ l)) (sym (append_assoc chosen (edge ∷ []) more)) (far-no-better setting best first chosen edge more price begin above either behind))
    (choices-begin (drop (length longer) setting.codes) rest (begin-behind (length longer) setting.codes lists begun))))
