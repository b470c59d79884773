-- The search for the best of all cubes, choice by choice.
use Rattle.std.proofs.Common.{◌≡◌, ◌+◌, ◌<◌, List, [], ◌∷◌, ◌++◌, length, map, filter, fold, drop, get_or, Option, None, refl, ap, sym, ◌∙◌, append_assoc}
use Rattle.std.specs.List.{flat_map}
use Rattle.std.proofs.lemmas.List.{map-append, drop_more}
use Rattle.std.proofs.lemmas.List.Elements.{filter-append}
use Rattle.std.proofs.lemmas.List.Sums.{fold-append}
use Rattle.sdc_base.specs.Cubes.{choices, serve}
use Rattle.sdc_base.specs.CubeOrder.{Offer, better, comes_before, first_by, offer_of}
use Rattle.sdc_base.specs.declared.cube.Edge.{Edge}
use Rattle.hypercube.specs.Branches.{Setting, best_beyond, cell_in, offers_of}
use Rattle.hypercube.specs.LeastCubes.{is_marked, price_in}

-- the cubes that have these edges, then one of the next, and then one of each list
abbrev pub cubes_beyond : List Edge → List Edge → List (List Edge) → List (List Edge)
cubes_beyond chosen next rest = map (λ more. chosen ++ more) (flat_map (λ one. map (λ others. one ∷ others) (choices rest)) next)

-- the best of an offer and theirs
abbrev pub best_among : Setting → Option Offer → List Edge → List Edge → List (List Edge) → Option Offer
best_among setting best chosen next rest = fold (better comes_before) best (offers_of setting (cubes_beyond chosen next rest))

one-edge : (chosen : List Edge) (edge : Edge) (found : List (List Edge)) → map (λ more. chosen ++ more) (map (λ others. edge ∷ others) found) ≡ map (λ more. (chosen ++ edge ∷ []) ++ more) found
one-edge chosen edge [] = refl
one-edge chosen edge (more ∷ found) =
    ap (λ first. first ∷ map (λ more. chosen ++ more) (map (λ others. edge ∷ others) found)) (sym (append_assoc chosen (edge ∷ []) more))
    ∙ ap (λ rest. ((chosen ++ edge ∷ []) ++ more) ∷ rest) (one-edge chosen edge found)

-- those of the first edge, and then those of the others
cubes-next : (chosen : List Edge) (edge : Edge) (next : List Edge) (rest : List (List Edge)) → cubes_beyond chosen (edge ∷ next) rest ≡ map (λ more. (chosen ++ edge ∷ []) ++ more) (choices rest) ++ cubes_beyond chosen next rest
cubes-next chosen edge next rest =
    map-append (λ more. chosen ++ more) (map (λ others. edge ∷ others) (choices rest)) (flat_map (λ one. map (λ others. one ∷ others) (choices rest)) next)
    ∙ ap (λ found. found ++ cubes_beyond chosen next rest) (one-edge chosen edge (choices rest))

offers-append : (setting : Setting) (ones others : List (List Edge)) → offers_of setting (ones ++ others) ≡ offers_of setting ones ++ offers_of setting others
offers-append setting ones others =
    let made = offer_of (cell_in setting) (is_marked setting.book) (price_in setting.book setting.cells setting.cost) in
    ap (filter (λ offer. serve setting.cells setting.levels offer.1)) (map-append made ones others)
    ∙ filter-append (λ offer. serve setting.cells setting.levels offer.1) (map made ones) (map made others)

-- one edge on
pub among-next : (setting : Setting) (best : Option Offer) (chosen : List Edge) (edge : Edge) (next : List Edge) (rest : List (List Edge))
    → best_among setting best chosen (edge ∷ next) rest ≡ best_among setting (best_beyond setting best (chosen ++ edge ∷ []) rest) chosen next rest
among-next setting best chosen edge next rest =
    let first = map (λ more. (chosen ++ edge ∷ []) ++ more) (choices rest) in
    ap (λ cubes. fold (better comes_before) best (offers_of setting cubes)) (cubes-next chosen edge next rest)
    ∙ ap (fold (better comes_before) best) (offers-append setting first (cubes_beyond chosen next rest))
    ∙ fold-append (better comes_before) best (offers_of setting first) (offers_of setting (cubes_beyond chosen next rest))

-- there are those that go on with an edge of the next list
pub beyond-begun : (setting : Setting) (best : Option Offer) (chosen : List Edge) (lists : List (List Edge)) (d : List Edge) → length chosen < length lists
    → best_beyond setting best chosen (drop (length chosen) lists) ≡ best_among setting best chosen (get_or lists (length chosen) d) (drop (length chosen + 1) lists)
beyond-begun setting best chosen lists d inside = ap (best_beyond setting best chosen) (drop_more lists (length chosen) d inside)

-- all cubes
pub search-all : (setting : Setting) (lists : List (List Edge)) → best_beyond setting None [] lists ≡ first_by comes_before (offers_of setting (choices lists))
search-all setting lists = ap (λ cubes. fold (better comes_before) None (offers_of setting cubes)) (same (choices lists))
  where
    same : (cubes : List (List Edge)) → map (λ more. [] ++ more) cubes ≡ cubes
    same [] = refl
    same (cube ∷ cubes) = ap (λ rest. cube ∷ rest) (same cubes)
