-- The order in which a search goes through the edges of each variable: by what the corner of an edge alone costs (own).
use Rattle.std.specs.Prelude.{◌≡◌, ◌⊎◌, ℕ, ◌+◌, ◌<◌, ◌≤◌, Bool, true, false, if◌then◌else◌, List, [], ◌∷◌, ◌++◌, length, map, filter, drop, take, slice_get, slice_index_or, slice_set, Option}
use Rattle.std.specs.List.{AllByRecursion}
use Rattle.std.specs.List.Sorted.{IsNonDecreasingBy, IsPermutation}
use Rattle.std.specs.Option.{option_map_or}
use Rattle.sdc_base.specs.Cubes.{bears, corner_at, sign_over}
use Rattle.sdc_base.specs.CubeOrder.{Offer}
use Rattle.sdc_base.specs.declared.cube.Corner.{Corner}
use Rattle.sdc_base.specs.declared.cube.Edge.{Edge}
use Rattle.hypercube.specs.Branches.{Setting, begin_at, cell_in, costs_more, sign_beyond}
use Rattle.hypercube.specs.LeastCubes.{is_marked, price_in}
use Rattle.hypercube.specs.declared.ranking.PricedEdge.{PricedEdge}

-- the corner of an edge of variable k alone: it has the partner's code for this variable and the cell's own for all
-- others
abbrev pub corner_over : Setting → ℕ → Edge → Option Corner
corner_over setting k edge = corner_at (cell_in setting) (slice_set setting.codes k edge.other, sign_over edge true)

-- what it costs to hide a corner: nothing where it is hidden, or no cell stands there
abbrev pub price_at : Setting → Option Corner → ℕ
price_at setting corner =
    option_map_or (λ one. if is_marked setting.book one.cell then 0
    else price_in setting.book setting.cells setting.cost one.cell) corner 0

-- it bears the levels, or no cell stands there
abbrev pub serves_at : Setting → Option Corner → Bool
serves_at setting corner =
    option_map_or (λ one. option_map_or (bears setting.levels one.plus) (slice_get setting.cells one.cell) false) corner
    true

-- the same of the corner of an edge of variable k alone
abbrev pub price_over : Setting → ℕ → Edge → ℕ
price_over setting k edge = price_at setting (corner_over setting k edge)

abbrev pub serves_over : Setting → ℕ → Edge → Bool
serves_over setting k edge = serves_at setting (corner_over setting k edge)

-- an edge with that price
abbrev pub with_price : Setting → ℕ → Edge → PricedEdge
with_price setting k edge = record { price = price_over setting k edge; edge = edge }

-- the edges whose own corner bears the levels, each with its price
abbrev pub priced_of : Setting → ℕ → List Edge → List PricedEdge
priced_of setting k edges = map (with_price setting k) (filter (serves_over setting k) edges)

-- edges of variable k with their prices: those whose own corner bears the levels, and none costs less than one before
-- it
pub record IsRanking (setting : Setting) (k : ℕ) (edges : List Edge) (ranked : List PricedEdge) : Type 0 where
  pub same : IsPermutation (priced_of setting k edges) ranked
  pub rising : IsNonDecreasingBy (λ one. one.price) ranked

-- list by list from variable k on
abbrev pub AreRankings : Setting → ℕ → List (List Edge) → List (List PricedEdge) → Type 0
AreRankings setting k [] [] = Unit {0}
AreRankings setting k [] (ranked ∷ more) = ⊥
AreRankings setting k (edges ∷ lists) [] = ⊥
AreRankings setting k (edges ∷ lists) (ranked ∷ more) = IsRanking setting k edges ranked
    × AreRankings setting (k + 1) lists more

-- ---- in a search

-- the edges without their prices
abbrev pub edges_in : List PricedEdge → List Edge
edges_in priced = map (λ one. one.edge) priced

-- the same of each list
abbrev pub edge_lists : List (List PricedEdge) → List (List Edge)
edge_lists lists = map edges_in lists

-- edges of variable k with the prices of their own corners, of which none costs less than one before it
pub record ArePriced (setting : Setting) (k : ℕ) (priced : List PricedEdge) : Type 0 where
  pub prices : AllByRecursion (λ one. one.price ≡ price_over setting k one.edge) priced
  pub rising : IsNonDecreasingBy (λ one. one.price) priced

-- the lists of at most 8 variables, each with edges from the cell's code by their prices
pub record AreRanked (setting : Setting) (lists : List (List PricedEdge)) : Type 0 where
  pub at_most_8_lists : length lists ≤ 8
  pub begun : begin_at setting.codes (edge_lists lists) ≡ true
  pub priced : (k : ℕ) → k < length lists → ArePriced setting k (slice_index_or lists k [])

-- edges that begin at the cell's codes for the first variables
abbrev pub BeginAt : Setting → List Edge → Type 0
BeginAt setting chosen = map (λ edge. edge.code) chosen ≡ take (length chosen) setting.codes

-- the corner at the partners of all these edges, with the cell's own code for each further variable
abbrev pub opposite : Setting → List Edge → Option Corner
opposite setting edges =
    corner_at (cell_in setting) (map (λ edge. edge.other) edges ++ drop (length edges) setting.codes, sign_beyond edges)

-- that corner of two edges or more doesn't bear the levels, or costs more than the best offer so far beside others that
-- cost so much
abbrev pub IsLeft : Setting → List Edge → ℕ → Option Offer → Type 0
IsLeft setting edges price best =
    (1 < length edges)
    × ((serves_at setting (opposite setting edges) ≡ false)
    ⊎ (costs_more best (price + price_at setting (opposite setting edges)) ≡ true))
