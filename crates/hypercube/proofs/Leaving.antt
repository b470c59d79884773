-- A list of edges is left where an edge's own corner makes the cubes cost too much: those behind it cost as much.
use Rattle.std.proofs.Common.{◌≡◌, inr, ℕ, zero, suc, ◌+◌, ◌<◌, ◌≤◌, true, ◌==◌, List, [], ◌∷◌, ◌++◌, length, map, drop, take, get_or, slice_index_or, Option, refl, ap, sym, ◌∙◌, subst, length-append, arith}
use Rattle.std.specs.List.{AllByRecursion, list_all, flat_map}
use Rattle.std.specs.List.Sorted.{IsNonDecreasingBy}
use Rattle.std.proofs.lemmas.List.{map-append, drop_more, take_more, length-drop}
use Rattle.sdc_base.specs.Cubes.{choices}
use Rattle.sdc_base.specs.CubeOrder.{Offer}
use Rattle.sdc_base.specs.declared.cube.Edge.{Edge}
use Rattle.hypercube.specs.Branches.{Setting, begin_at, costs_more, shared_corners}
use Rattle.hypercube.specs.Ranks.{BeginAt, price_over}
use Rattle.hypercube.proofs.AllOf.{all-flat, all-map, all-more}
use Rattle.hypercube.proofs.OwnCorners.{own-dearer}
use Rattle.hypercube.proofs.Pruning.{IsNoBetter, as-long, corners_in, dearer-more, none-better}
use Rattle.hypercube.proofs.Searches.{best_among, cubes_beyond}
use Rattle.hypercube.proofs.SharedCorners.{and-parts, begin-behind, choices-begin, codes-same, codes_of}
use Rattle.hypercube.proofs.HidingPrices.{price_of}

-- ---- what holds of all from a place on

all-drop : {X : Type 0} (P : X → Type 0) (xs : List X) (i : ℕ) → AllByRecursion P xs → AllByRecursion P (drop i xs)
all-drop P xs zero all = all
all-drop P [] (suc i) all = tt
all-drop P (x ∷ xs) (suc i) (here, all) = all-drop P xs i all

all-both : {X : Type 0} (P Q : X → Type 0) (xs : List X) → AllByRecursion P xs → AllByRecursion Q xs → AllByRecursion (λ x. P x × Q x) xs
all-both P Q [] a b = tt
all-both P Q (x ∷ xs) (here, a) (there, b) = ((here, there), all-both P Q xs a b)

-- none behind costs less
rises-on : {X : Type 0} (n : X → ℕ) (xs : List X) (least : ℕ) → ((j : ℕ) (d : X) → j < length xs → least ≤ n (slice_index_or xs j d)) → AllByRecursion (λ x. least ≤ n x) xs
rises-on n [] least above = tt
rises-on n (x ∷ xs) least above = (above 0 x (omega arith), rises-on n xs least (λ j d inside. above (suc j) d (omega (arith, inside))))

drop-at : {X : Type 0} (xs : List X) (i j : ℕ) (d : X) → get_or (drop i xs) j d ≡ get_or xs (i + j) d
drop-at xs zero j d = ap (λ k. get_or xs k d) (omega arith)
drop-at [] (suc i) j d = refl
drop-at (x ∷ xs) (suc i) j d = let next : suc i + j ≡ suc (i + j) = omega arith in drop-at xs i j d ∙ ap (λ k. get_or (x ∷ xs) k d) (sym next)

-- within a list the default doesn't matter, and behind it there is nothing else
pub any-default : {X : Type 0} (xs : List X) (k : ℕ) (e d : X) → k < length xs → get_or xs k e ≡ get_or xs k d
any-default [] k e d inside = absurd (omega (arith, inside))
any-default (x ∷ xs) zero e d inside = refl
any-default (x ∷ xs) (suc k) e d inside = any-default xs k e d (omega (arith, inside))

pub read-past : {X : Type 0} (xs : List X) (k : ℕ) (d : X) → length xs ≤ k → get_or xs k d ≡ d
read-past [] k d past = refl
read-past (x ∷ xs) zero d past = absurd (omega (arith, past))
read-past (x ∷ xs) (suc k) d past = read-past xs k d (omega (arith, past))

from-here : {X : Type 0} (n : X → ℕ) (xs : List X) (i : ℕ) (d : X) → IsNonDecreasingBy n xs → i < length xs → AllByRecursion (λ x. n (get_or xs i d) ≤ n x) (drop i xs)
from-here n xs i d rising inside =
    rises-on n (drop i xs) (n (get_or xs i d)) (λ j e below.
    let long = length-drop i xs in
    let within : i + j < length xs = omega (arith, long, below) in
    subst (λ y. n (get_or xs i d) ≤ n y) (sym (drop-at xs i j e)) (subst (λ y. n y ≤ n (get_or xs (i + j) e)) (any-default xs i e d inside) (rising i (i + j) e (omega arith) within)))

-- ---- the codes of edges

-- the edges of a list begin at its code
pub begin-list : (k : ℕ) (codes : List ℕ) (lists : List (List Edge)) → begin_at codes lists ≡ true → k < length lists → list_all (λ edge. edge.code == get_or codes k 0) (get_or lists k []) ≡ true
begin-list k [] [] h inside = absurd (omega (arith, inside))
begin-list k [] (edges ∷ lists) h inside = absurd cc
begin-list k (code ∷ codes) [] h inside = absurd cc
begin-list zero (code ∷ codes) (edges ∷ lists) h inside = (and-parts (list_all (λ edge. edge.code == code) edges) (begin_at codes lists) h).0
begin-list (suc k) (code ∷ codes) (edges ∷ lists) h inside = begin-list k codes lists (and-parts (list_all (λ edge. edge.code == code) edges) (begin_at codes lists) h).1 (omega (arith, inside))

pub all-get : {X : Type 0} (P : X → Type 0) (xs : List X) (i : ℕ) (d : X) → AllByRecursion P xs → i < length xs → P (get_or xs i d)
all-get P [] i d all inside = absurd (omega (arith, inside))
all-get P (x ∷ xs) zero d (here, all) inside = here
all-get P (x ∷ xs) (suc i) d (here, all) inside = all-get P xs i d all (omega (arith, inside))

-- one edge more
pub begin-next : (setting : Setting) (lists : List (List Edge)) (chosen items : List Edge) (i : ℕ) (d : Edge) → begin_at setting.codes lists ≡ true → BeginAt setting chosen → length chosen < length lists
    → items ≡ slice_index_or lists (length chosen) [] → i < length items → BeginAt setting (chosen ++ get_or items i d ∷ [])
begin-next setting lists chosen items i d begun front inside is within =
    let k = length chosen in
    let edge : Edge = get_or items i d in
    let long = as-long setting.codes lists begun in
    let all = codes-same (get_or setting.codes k 0) (get_or lists k []) (begin-list k setting.codes lists begun inside) in
    let code : edge.code ≡ get_or setting.codes k 0 = all-get (λ (one : Edge). one.code ≡ get_or setting.codes k 0) items i d (subst (λ (l : List Edge). AllByRecursion (λ (one : Edge). one.code ≡ get_or setting.codes k 0) l) (sym is) all) within in
    map-append (λ (one : Edge). one.code) chosen (edge ∷ [])
    ∙ ap (λ (codes : List ℕ). codes ++ edge.code ∷ []) front
    ∙ ap (λ (one : ℕ). take k setting.codes ++ one ∷ []) code
    ∙ sym (take_more setting.codes k 0 (omega (arith, long, inside)))
    ∙ ap (λ (n : ℕ). take n setting.codes) (sym (length-append chosen (edge ∷ [])))

-- ---- leaving

-- each cube that goes on with one of these edges costs too much
all-dear : (setting : Setting) (best : Option Offer) (chosen next : List Edge) (least : ℕ) (rest : List (List Edge)) (code : ℕ) (codes : List ℕ)
    → codes_of chosen ≡ take (length chosen) setting.codes → code ∷ codes ≡ drop (length chosen) setting.codes → begin_at codes rest ≡ true → costs_more best (price_of setting (shared_corners setting chosen) + least) ≡ true
    → AllByRecursion (λ (edge : Edge). (edge.code ≡ code) × (least ≤ price_over setting (length chosen) edge)) next → AllByRecursion (IsNoBetter setting best) (cubes_beyond chosen next rest)
all-dear setting best chosen next least rest code codes front back begun dear all =
    all-map (IsNoBetter setting best) (λ more. chosen ++ more) (flat_map (λ one. map (λ others. one ∷ others) (choices rest)) next)
    (all-flat (λ more. IsNoBetter setting best (chosen ++ more)) (λ one. map (λ others. one ∷ others) (choices rest)) next
    (all-more (λ (edge : Edge). (edge.code ≡ code) × (least ≤ price_over setting (length chosen) edge)) (λ one. AllByRecursion (λ more. IsNoBetter setting best (chosen ++ more)) (map (λ others. one ∷ others) (choices rest))) next
    (λ one here. all-map (λ more. IsNoBetter setting best (chosen ++ more)) (λ others. one ∷ others) (choices rest)
    (all-more (λ others. codes_of others ≡ codes) (λ others. IsNoBetter setting best (chosen ++ one ∷ others)) (choices rest)
    (λ others later. inr (costs one others here.0 later here.1)) (choices-begin codes rest begun))) all))
  where
    costs : (one : Edge) (others : List Edge) → one.code ≡ code → codes_of others ≡ codes → least ≤ price_over setting (length chosen) one → costs_more best (price_of setting (corners_in setting (chosen ++ one ∷ others))) ≡ true
    costs one others here later above =
        let own = own-dearer setting chosen one others front (ap (λ (c : ℕ). c ∷ codes_of others) here ∙ ap (λ (cs : List ℕ). code ∷ cs) later ∙ back) in
        dearer-more best (price_of setting (shared_corners setting chosen) + least) (price_of setting (corners_in setting (chosen ++ one ∷ others))) (omega (arith, own, above)) dear

-- behind an edge that costs too much no cube is better
pub leaving : (setting : Setting) (lists : List (List Edge)) (best : Option Offer) (chosen items : List Edge) (i : ℕ) (d : Edge) (price : ℕ) → begin_at setting.codes lists ≡ true → BeginAt setting chosen → length chosen < length lists
    → items ≡ slice_index_or lists (length chosen) [] → IsNonDecreasingBy (price_over setting (length chosen)) items → i < length items
    → price ≤ price_of setting (shared_corners setting chosen) + price_over setting (length chosen) (get_or items i d) → costs_more best price ≡ true
    → best_among setting best chosen (drop i items) (drop (length chosen + 1) lists) ≡ best
leaving setting lists best chosen items i d price begun front inside is rising within above dear =
    let k = length chosen in
    let rest = drop (k + 1) lists in
    let codes : List ℕ = drop (k + 1) setting.codes in
    let code : ℕ = get_or setting.codes k 0 in
    let least = price_over setting k (get_or items i d) in
    let long = as-long setting.codes lists begun in
    let all = codes-same code (get_or lists k []) (begin-list k setting.codes lists begun inside) in
    let same = all-drop (λ (one : Edge). one.code ≡ code) items i (subst (λ (l : List Edge). AllByRecursion (λ (one : Edge). one.code ≡ code) l) (sym is) all) in
    none-better setting best (cubes_beyond chosen (drop i items) rest)
    (all-dear setting best chosen (drop i items) least rest code codes front (sym (drop_more setting.codes k 0 (omega (arith, long, inside)))) (begin-behind (k + 1) setting.codes lists begun)
    (dearer-more best price (price_of setting (shared_corners setting chosen) + least) above dear)
    (all-both (λ (one : Edge). one.code ≡ code) (λ (one : Edge). least ≤ price_over setting k one) (drop i items) same (from-here (price_over setting k) items i d rising within)))
