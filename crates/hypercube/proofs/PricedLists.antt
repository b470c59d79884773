-- A search through lists of edges with their prices, in words of the edges alone.
use Rattle.std.proofs.Common.{◌≡◌, ℕ, zero, suc, ◌+◌, ◌<◌, ◌≤◌, true, List, [], ◌∷◌, ◌++◌, length, drop, get_or, slice_index_or, Option, refl, ap, sym, ◌∙◌, subst, length-append, arith}
use Rattle.std.specs.List.Sorted.{IsNonDecreasingBy}
use Rattle.std.proofs.lemmas.List.{drop_all, drop_more, length-map}
use Rattle.sdc_base.specs.CubeOrder.{Offer}
use Rattle.sdc_base.specs.declared.cube.Edge.{Edge}
use Rattle.hypercube.specs.declared.ranking.PricedEdge.{PricedEdge}
use Rattle.hypercube.specs.Branches.{Setting, best_beyond, costs_more, shared_corners}
use Rattle.hypercube.specs.Ranks.{ArePriced, AreRanked, BeginAt, IsLeft, edge_lists, edges_in, price_over, with_price}
use Rattle.hypercube.proofs.HidingPrices.{price_of}
use Rattle.hypercube.proofs.Opposite.{passed-over}
use Rattle.hypercube.proofs.Leaving.{all-get, begin-next, leaving}
use Rattle.hypercube.proofs.Searches.{among-next, best_among, beyond-begun}

-- the edge at a place
edge-at : (priced : List PricedEdge) (i : ℕ) (one : PricedEdge) → i < length priced → get_or (edges_in priced) i one.edge ≡ (get_or priced i one).edge
edge-at [] i one inside = absurd (omega (arith, inside))
edge-at (p ∷ priced) zero one inside = refl
edge-at (p ∷ priced) (suc i) one inside = edge-at priced i one (omega (arith, inside))

-- the list at a place
lists-at : (lists : List (List PricedEdge)) (k : ℕ) → edges_in (get_or lists k []) ≡ get_or (edge_lists lists) k []
lists-at [] k = refl
lists-at (list ∷ lists) zero = refl
lists-at (list ∷ lists) (suc k) = lists-at lists k

-- the price at a place is that of its edge
price-at : (setting : Setting) (k : ℕ) (priced : List PricedEdge) (i : ℕ) (one : PricedEdge) → ArePriced setting k priced → i < length priced → (get_or priced i one).price ≡ price_over setting k (get_or priced i one).edge
price-at setting k priced i one are inside = all-get (λ (p : PricedEdge). p.price ≡ price_over setting k p.edge) priced i one are.prices inside

rises-by-edge : (setting : Setting) (k : ℕ) (priced : List PricedEdge) → ArePriced setting k priced → IsNonDecreasingBy (price_over setting k) (edges_in priced)
rises-by-edge setting k priced are i j d upto inside =
    let long = length-map priced (λ (one : PricedEdge). one.edge) in
    let one : PricedEdge = with_price setting k d in
    let below : j < length priced = omega (arith, long, inside) in
    let under : i < length priced = omega (arith, below, upto) in
    let less = are.rising i j one upto below in
    let here = price-at setting k priced i one are under in
    let there = price-at setting k priced j one are below in
    subst (λ (e : Edge). price_over setting k e ≤ price_over setting k (get_or (edges_in priced) j d)) (sym (edge-at priced i one under))
    (subst (λ (e : Edge). price_over setting k (get_or priced i one).edge ≤ price_over setting k e) (sym (edge-at priced j one below)) (omega (arith, less, here, there)))

-- ---- where a list is come to

-- its edges are those of the list of the next variable
edges-are : (lists : List (List PricedEdge)) (k : ℕ) (next : List PricedEdge) → next ≡ slice_index_or lists k [] → edges_in next ≡ slice_index_or (edge_lists lists) k []
edges-are lists k next is = ap (λ (l : List PricedEdge). edges_in l) is ∙ lists-at lists k

-- one edge more
pub next-begins : (setting : Setting) (lists : List (List PricedEdge)) (chosen : List Edge) (next : List PricedEdge) (i : ℕ) (one : PricedEdge) → AreRanked setting lists → BeginAt setting chosen → length chosen < length lists
    → next ≡ slice_index_or lists (length chosen) [] → i < length next → BeginAt setting (chosen ++ (get_or next i one).edge ∷ [])
next-begins setting lists chosen next i one ranked front inside is within =
    let long = length-map lists (λ (l : List PricedEdge). edges_in l) in
    let longer = length-map next (λ (p : PricedEdge). p.edge) in
    subst (λ (e : Edge). BeginAt setting (chosen ++ e ∷ [])) (edge-at next i one within)
    (begin-next setting (edge_lists lists) chosen (edges_in next) i one.edge ranked.begun front (omega (arith, long, inside)) (edges-are lists (length chosen) next is) (omega (arith, longer, within)))

-- the best of the cubes that go on with it, and then of those that go on with an edge behind it
pub next-among : (setting : Setting) (best : Option Offer) (chosen : List Edge) (next : List PricedEdge) (i : ℕ) (one : PricedEdge) (rest : List (List Edge)) → i < length next
    → best_among setting (best_beyond setting best (chosen ++ (get_or next i one).edge ∷ []) rest) chosen (drop (i + 1) (edges_in next)) rest ≡ best_among setting best chosen (drop i (edges_in next)) rest
next-among setting best chosen next i one rest within =
    let longer = length-map next (λ (p : PricedEdge). p.edge) in
    ap (λ (e : Edge). best_among setting (best_beyond setting best (chosen ++ e ∷ []) rest) chosen (drop (i + 1) (edges_in next)) rest) (sym (edge-at next i one within))
    ∙ sym (among-next setting best chosen (get_or (edges_in next) i one.edge) (drop (i + 1) (edges_in next)) rest)
    ∙ ap (λ (left : List Edge). best_among setting best chosen left rest) (sym (drop_more (edges_in next) i one.edge (omega (arith, longer, within))))

-- behind an edge that costs too much no cube is better
pub next-leaves : (setting : Setting) (lists : List (List PricedEdge)) (best : Option Offer) (chosen : List Edge) (next : List PricedEdge) (i : ℕ) (one : PricedEdge) (price : ℕ) → AreRanked setting lists → BeginAt setting chosen
    → length chosen < length lists → next ≡ slice_index_or lists (length chosen) [] → i < length next → price ≤ price_of setting (shared_corners setting chosen) + (get_or next i one).price → costs_more best price ≡ true
    → best_among setting best chosen (drop i (edges_in next)) (drop (length chosen + 1) (edge_lists lists)) ≡ best
next-leaves setting lists best chosen next i one price ranked front inside is within above dear =
    let k = length chosen in
    let long = length-map lists (λ (l : List PricedEdge). edges_in l) in
    let longer = length-map next (λ (p : PricedEdge). p.edge) in
    let are : ArePriced setting k next = subst (λ (l : List PricedEdge). ArePriced setting k l) (sym is) (ranked.priced k inside) in
    let own = price-at setting k next i one are within in
    let over : price_over setting k (get_or next i one).edge ≡ price_over setting k (get_or (edges_in next) i one.edge) = ap (λ (e : Edge). price_over setting k e) (sym (edge-at next i one within)) in
    leaving setting (edge_lists lists) best chosen (edges_in next) i one.edge price ranked.begun front (omega (arith, long, inside)) (edges-are lists k next is) (rises-by-edge setting k next are) (omega (arith, longer, within))
    (omega (arith, above, own, over)) dear

-- where it begins, and where it ends
pub next-begun : (setting : Setting) (lists : List (List PricedEdge)) (best : Option Offer) (chosen : List Edge) (next : List PricedEdge) → length chosen < length lists → next ≡ slice_index_or lists (length chosen) []
    → best_among setting best chosen (edges_in next) (drop (length chosen + 1) (edge_lists lists)) ≡ best_beyond setting best chosen (drop (length chosen) (edge_lists lists))
next-begun setting lists best chosen next inside is =
    let long = length-map lists (λ (l : List PricedEdge). edges_in l) in
    ap (λ (l : List Edge). best_among setting best chosen l (drop (length chosen + 1) (edge_lists lists))) (edges-are lists (length chosen) next is)
    ∙ sym (beyond-begun setting best chosen (edge_lists lists) [] (omega (arith, long, inside)))

pub next-ended : (setting : Setting) (lists : List (List PricedEdge)) (best : Option Offer) (chosen : List Edge) (next : List PricedEdge) (i : ℕ) → length next ≤ i
    → best_among setting best chosen (drop i (edges_in next)) (drop (length chosen + 1) (edge_lists lists)) ≡ best
next-ended setting lists best chosen next i past =
    let longer = length-map next (λ (p : PricedEdge). p.edge) in
    ap (λ (left : List Edge). best_among setting best chosen left (drop (length chosen + 1) (edge_lists lists))) (drop_all i (edges_in next) (omega (arith, longer, past)))

-- an edge that is left
pub next-left : (setting : Setting) (lists : List (List PricedEdge)) (best : Option Offer) (chosen : List Edge) (next : List PricedEdge) (i : ℕ) (one : PricedEdge) (price : ℕ) → AreRanked setting lists → BeginAt setting chosen
    → length chosen < length lists → next ≡ slice_index_or lists (length chosen) [] → i < length next → price ≤ price_of setting (shared_corners setting chosen) + (get_or next i one).price
    → IsLeft setting (chosen ++ (get_or next i one).edge ∷ []) price best
    → best_among setting best chosen (drop (i + 1) (edges_in next)) (drop (length chosen + 1) (edge_lists lists)) ≡ best_among setting best chosen (drop i (edges_in next)) (drop (length chosen + 1) (edge_lists lists))
next-left setting lists best chosen next i one price ranked front inside is within above left =
    let k = length chosen in
    let edge : Edge = (get_or next i one).edge in
    let rest : List (List Edge) = drop (k + 1) (edge_lists lists) in
    let are : ArePriced setting k next = subst (λ (l : List PricedEdge). ArePriced setting k l) (sym is) (ranked.priced k inside) in
    let own = price-at setting k next i one are within in
    let long : length (chosen ++ edge ∷ []) ≡ k + 1 = length-append chosen (edge ∷ []) in
    let same : best_beyond setting best (chosen ++ edge ∷ []) rest ≡ best =
    ap (λ (n : ℕ). best_beyond setting best (chosen ++ edge ∷ []) (drop n (edge_lists lists))) (sym long)
    ∙ passed-over setting (edge_lists lists) best chosen edge price ranked.begun (next-begins setting lists chosen next i one ranked front inside is within) (omega (arith, above, own)) left
    in
    ap (λ (kept : Option Offer). best_among setting kept chosen (drop (i + 1) (edges_in next)) rest) (sym same) ∙ next-among setting best chosen next i one rest within
