use Rattle.std.proofs.Common.{◌≡◌, ◌+◌, ◌<◌, ◌≤◌, ◌++◌, ◌∷◌, [], inl, inr, ℕ, false, List, Option, length, drop, slice_index_or, ap, sym, ◌∙◌, subst, arith, length-append}
use Rattle.std.proofs.lemmas.List.{length-map}
use Rattle.sdc_base.specs.Cubes.{serve}
use Rattle.sdc_base.specs.CubeOrder.{Offer, better, comes_before}
use Rattle.sdc_base.specs.declared.cube.Corner.{Corner}
use Rattle.sdc_base.specs.declared.cube.Edge.{Edge}
use Rattle.hypercube.specs.declared.ranking.PricedEdge.{PricedEdge}
use Rattle.hypercube.specs.Branches.{Setting, best_beyond, costs_more, shared_corners}
use Rattle.hypercube.specs.Ranks.{BeginAt, IsLeft, edge_lists, edges_in}
use Rattle.hypercube.proofs.Pruning.{left-out, whole-cube}
use Rattle.hypercube.proofs.PricedLists.{next-among, next-begins, next-begun, next-ended, next-leaves, next-left}
use Rattle.hypercube.proofs.HidingPrices.{price_of}
use Rattle.hypercube.proofs.Searches.{best_among}
use Rattle.hypercube.proofs.search.Search.+better.Goals as goal

pub returns-then-not-serve : goal.returns-then-not-serve
returns-then-not-serve g t c =
    let setting : Setting = c.args.self.now in
    let chosen : List Edge = c.args.chosen.now in
    let lists : List (List PricedEdge) = c.args.lists.now in
    let served : serve setting.cells setting.levels (shared_corners setting chosen) ≡ c.serve.result =
    subst (λ (s : Setting). serve s.cells s.levels (shared_corners setting chosen) ≡ c.serve.result) c.self.view_is
    (ap (λ (corners : List Corner). serve c.self.inside.cells.now c.self.inside.levels corners) (sym (c.as_slice.ensures ∙ c.in_ok-corners.ensures)) ∙ sym c.serve.ensures)
    in
    left-out setting (edge_lists lists) c.args.best chosen c.requires.ranked.begun (inl (served ∙ c.if-not-serve.true))

pub returns-then-costs_more : goal.returns-then-costs_more
returns-then-costs_more g t c =
    let setting : Setting = c.args.self.now in
    let chosen : List Edge = c.args.chosen.now in
    let lists : List (List PricedEdge) = c.args.lists.now in
    let price : price_of setting (shared_corners setting chosen) ≡ c.price_of_hiding-price.result =
    subst (λ (s : Setting). price_of s (shared_corners setting chosen) ≡ c.price_of_hiding-price.result) c.self.view_is
    (ap (λ (corners : List Corner). price_of (record { book = c.self.inside.book.now; cells = c.self.inside.cells.now; cost = c.self.inside.rule.now; table = c.self.inside.table; levels = c.self.inside.levels; codes = c.self.inside.codes.now }) corners) (sym (c.as_slice-2.ensures ∙ c.in_ok-corners.ensures)) ∙ sym c.price_of_hiding-price.ensures)
    in
    left-out setting (edge_lists lists) c.args.best chosen c.requires.ranked.begun (inr (ap (costs_more c.args.best) price ∙ sym c.costs_more.ensures ∙ c.if-costs_more.true))

pub returns-then-k-lists : goal.returns-then-k-lists
returns-then-k-lists g t c =
    let setting : Setting = c.args.self.now in
    let chosen : List Edge = c.args.chosen.now in
    let lists : List (List PricedEdge) = c.args.lists.now in
    let served : serve setting.cells setting.levels (shared_corners setting chosen) ≡ c.serve.result =
    subst (λ (s : Setting). serve s.cells s.levels (shared_corners setting chosen) ≡ c.serve.result) c.self.view_is
    (ap (λ (corners : List Corner). serve c.self.inside.cells.now c.self.inside.levels corners) (sym (c.as_slice.ensures ∙ c.in_ok-corners.ensures)) ∙ sym c.serve.ensures)
    in
    let price : price_of setting (shared_corners setting chosen) ≡ c.price_of_hiding-price.result =
    subst (λ (s : Setting). price_of s (shared_corners setting chosen) ≡ c.price_of_hiding-price.result) c.self.view_is
    (ap (λ (corners : List Corner). price_of (record { book = c.self.inside.book.now; cells = c.self.inside.cells.now; cost = c.self.inside.rule.now; table = c.self.inside.table; levels = c.self.inside.levels; codes = c.self.inside.codes.now }) corners) (sym (c.as_slice-2.ensures ∙ c.in_ok-corners.ensures)) ∙ sym c.price_of_hiding-price.ensures)
    in
    let long = length-map lists (λ (l : List PricedEdge). edges_in l) in
    let past : length (edge_lists lists) ≤ length chosen = omega (arith, long, c.len-k.ensures.len, c.if-k-lists.true) in
    c.better_of.ensures
    ∙ ap (λ (p : ℕ). better comes_before c.args.best (p, c.in_ok-corners.corners)) (sym price)
    ∙ ap (λ (corners : List Corner). better comes_before c.args.best (price_of setting (shared_corners setting chosen), corners)) c.in_ok-corners.ensures
    ∙ whole-cube setting (edge_lists lists) c.args.best chosen past c.requires.ranked.begun (served ∙ c.if-not-serve.false)

pub edges-init : goal.edges-init
edges-init g t c =
    let inside : length c.args.chosen.now < length c.args.lists.now = omega (arith, c.len-k.ensures.len, c.if-k-lists.false) in
    let is = c.list_at-next.ensures ∙ ap (λ (k : ℕ). slice_index_or c.args.lists.now k []) c.len-k.ensures.len in
    next-begun c.args.self.now c.args.lists.now c.args.best c.args.chosen.now c.list_at-next.result.now inside is

pub edges-preserved : goal.edges-preserved
edges-preserved g t c =
    let setting : Setting = c.args.self.now in
    let chosen : List Edge = c.args.chosen.now in
    let next : List PricedEdge = c.list_at-next.result.now in
    let i = c.edges.one-index in
    let d : PricedEdge = record { price = 0; edge = record { code = 0; other = 0; equal = false } } in
    let edge : Edge = (slice_index_or next i d).edge in
    let lists : List (List Edge) = edge_lists c.args.lists.now in
    let rest = drop (length chosen + 1) lists in
    let left : List Edge = drop (i + 1) (edges_in next) in
    let longer : c.with_edge-longer.result ≡ chosen ++ edge ∷ [] = c.with_edge-longer.ensures in
    let long : length c.with_edge-longer.result ≡ length chosen + 1 = ap (λ (es : List Edge). length es) longer ∙ length-append chosen (edge ∷ []) in
    let found : c.in_ok-found.found ≡ best_beyond setting c.edges.found (chosen ++ edge ∷ []) rest =
    c.in_ok-found.ensures
    ∙ ap (λ (es : List Edge). best_beyond setting c.edges.found es (drop (length c.with_edge-longer.result) lists)) longer
    ∙ ap (λ (k : ℕ). best_beyond setting c.edges.found (chosen ++ edge ∷ []) (drop k lists)) long
    in
    ap (λ (best : Option Offer). best_among setting best chosen left rest) found
    ∙ next-among setting c.edges.found chosen next i d rest c.edges-test.true
    ∙ c.edges.invariant

pub returns-then-costs_more-2 : goal.returns-then-costs_more-2
returns-then-costs_more-2 g t c =
    let setting : Setting = c.args.self.now in
    let chosen : List Edge = c.args.chosen.now in
    let lists : List (List PricedEdge) = c.args.lists.now in
    let price : price_of setting (shared_corners setting chosen) ≡ c.price_of_hiding-price.result =
    subst (λ (s : Setting). price_of s (shared_corners setting chosen) ≡ c.price_of_hiding-price.result) c.self.view_is
    (ap (λ (corners : List Corner). price_of (record { book = c.self.inside.book.now; cells = c.self.inside.cells.now; cost = c.self.inside.rule.now; table = c.self.inside.table; levels = c.self.inside.levels; codes = c.self.inside.codes.now }) corners) (sym (c.as_slice-2.ensures ∙ c.in_ok-corners.ensures)) ∙ sym c.price_of_hiding-price.ensures)
    in
    let next : List PricedEdge = c.list_at-next.result.now in
    let i = c.edges.one-index in
    let d : PricedEdge = record { price = 0; edge = record { code = 0; other = 0; equal = false } } in
    let inside : length chosen < length lists = omega (arith, c.len-k.ensures.len, c.if-k-lists.false) in
    let is : next ≡ slice_index_or lists (length chosen) [] = c.list_at-next.ensures ∙ ap (λ (k : ℕ). slice_index_or lists k []) c.len-k.ensures.len in
    let above : c.saturating_add-more.result ≤ price_of setting (shared_corners setting chosen) + (slice_index_or next i d).price =
    omega (arith, c.saturating_add-more.ensures, c.from.ensures, price)
    in
    sym (next-leaves setting lists c.edges.found chosen next i d c.saturating_add-more.result c.requires.ranked c.requires.begun inside is c.edges-test.true above (sym c.costs_more-in-edges.ensures ∙ c.if-costs_more-2.true))
    ∙ c.edges.invariant

pub edges-preserved-then-is_left : goal.edges-preserved-then-is_left
edges-preserved-then-is_left g t c =
    let setting : Setting = c.args.self.now in
    let chosen : List Edge = c.args.chosen.now in
    let lists : List (List PricedEdge) = c.args.lists.now in
    let price : price_of setting (shared_corners setting chosen) ≡ c.price_of_hiding-price.result =
    subst (λ (s : Setting). price_of s (shared_corners setting chosen) ≡ c.price_of_hiding-price.result) c.self.view_is
    (ap (λ (corners : List Corner). price_of (record { book = c.self.inside.book.now; cells = c.self.inside.cells.now; cost = c.self.inside.rule.now; table = c.self.inside.table; levels = c.self.inside.levels; codes = c.self.inside.codes.now }) corners) (sym (c.as_slice-2.ensures ∙ c.in_ok-corners.ensures)) ∙ sym c.price_of_hiding-price.ensures)
    in
    let next : List PricedEdge = c.list_at-next.result.now in
    let i = c.edges.one-index in
    let d : PricedEdge = record { price = 0; edge = record { code = 0; other = 0; equal = false } } in
    let inside : length chosen < length lists = omega (arith, c.len-k.ensures.len, c.if-k-lists.false) in
    let is : next ≡ slice_index_or lists (length chosen) [] = c.list_at-next.ensures ∙ ap (λ (k : ℕ). slice_index_or lists k []) c.len-k.ensures.len in
    let above : c.saturating_add-more.result ≤ price_of setting (shared_corners setting chosen) + (slice_index_or next i d).price =
    omega (arith, c.saturating_add-more.ensures, c.from.ensures, price)
    in
    let edge : Edge = (slice_index_or next i d).edge in
    let left : IsLeft setting (chosen ++ edge ∷ []) c.saturating_add-more.result c.edges.found = subst (λ (es : List Edge). IsLeft setting es c.saturating_add-more.result c.edges.found) c.with_edge-longer.ensures (c.is_left.ensures c.if-is_left.true) in
    next-left setting lists c.edges.found chosen next i d c.saturating_add-more.result c.requires.ranked c.requires.begun inside is c.edges-test.true above left
    ∙ c.edges.invariant

pub returns : goal.returns
returns g t c = sym (next-ended c.args.self.now c.args.lists.now c.edges.found c.args.chosen.now c.list_at-next.result.now c.edges.one-index c.edges-test.false) ∙ c.edges.invariant

pub better-requires : goal.better-requires
better-requires g t c κs within =
    let setting : Setting = c.args.self.now in
    let chosen : List Edge = c.args.chosen.now in
    let lists : List (List PricedEdge) = c.args.lists.now in
    let next : List PricedEdge = c.list_at-next.result.now in
    let i = c.edges.one-index in
    let d : PricedEdge = record { price = 0; edge = record { code = 0; other = 0; equal = false } } in
    let edge : Edge = (slice_index_or next i d).edge in
    let inside : length chosen < length lists = omega (arith, c.len-k.ensures.len, c.if-k-lists.false) in
    let is : next ≡ slice_index_or lists (length chosen) [] = c.list_at-next.ensures ∙ ap (λ (k : ℕ). slice_index_or lists k []) c.len-k.ensures.len in
    let longer : c.with_edge-longer.result ≡ chosen ++ edge ∷ [] = c.with_edge-longer.ensures in
    let long : length c.with_edge-longer.result ≡ length chosen + 1 = ap (λ (es : List Edge). length es) longer ∙ length-append chosen (edge ∷ []) in
    let begins = subst (λ (es : List Edge). BeginAt setting es) (sym longer) (next-begins setting lists chosen next i d c.requires.ranked c.requires.begun inside is c.edges-test.true) in
    (omega (arith, c.decreases, long, inside), (within, (c.requires.ranked, begins)))
