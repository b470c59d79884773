-- What a search for the least cube goes by, and what is left of it once its first edges are chosen (own).
use Rattle.std.specs.Prelude.{ℕ, ◌≤◌, ◌==◌, ◌&&◌, nat_lt, Bool, true, false, not, if◌then◌else◌, List, [], ◌∷◌, ◌++◌, length, map, fold, drop, slice_index, All, Option, pos, ◌≤ℤ◌}
use Rattle.std.specs.List.{filter_map, list_all}
use Rattle.std.specs.Option.{option_map_or}
use Rattle.sdc_base.specs.Records.{Name}
use Rattle.sdc_base.specs.Cubes.{choices, corner_at, corner_places, corners_of, sign_over, with_corner}
use Rattle.sdc_base.specs.CubeOrder.{Offer, better, comes_before, offers}
use Rattle.sdc_base.specs.declared.cell.Cell.{Cell}
use Rattle.sdc_base.specs.declared.cube.Corner.{Corner}
use Rattle.sdc_base.specs.declared.cube.Edge.{Edge}
use Rattle.sdc_base.specs.declared.dimension.Dimension.{Dimension}
use Rattle.sdc_base.specs.declared.facts.Levels.{Levels}
use Rattle.cost_rule.specs.Costs.{AreCosted}
use Rattle.cost_rule.specs.declared.kind.CostKind.{CostKind}
use Rattle.linked_tables.specs.BookViews.{BookView}
use Rattle.linked_tables.specs.BookCells.{cell_at}
use Rattle.hypercube.specs.LeastCubes.{is_marked, price_in}
use Rattle.hypercube.specs.declared.corners.Layer.{Layer}

-- ---- corners

-- the product of two signs
abbrev pub product : Bool → Bool → Bool
product one other = if one then other else not other

-- a corner's place and sign, behind a place with a sign
abbrev pub corner_behind : List ℕ → Bool → List ℕ × Bool → List ℕ × Bool
corner_behind place plus corner = (place ++ corner.0, product plus corner.1)

-- the corners at the places that begin so, with this sign, and go on along these edges
abbrev pub corners_beyond : (List ℕ → Option ℕ) → List ℕ → Bool → List Edge → List Corner
corners_beyond number place plus edges =
    filter_map (corner_at number) (map (corner_behind place plus) (corner_places edges))

-- the number at a place that these codes complete
abbrev pub number_with_codes : (List ℕ → Option ℕ) → List ℕ → List ℕ → Option ℕ
number_with_codes number codes place = number (place ++ codes)

-- the cell of a table at a place that these codes complete
abbrev pub cell_with_codes : BookView → ℕ → List ℕ → List ℕ → Option ℕ
cell_with_codes book t codes place = number_with_codes (cell_at book t) codes place

-- the cell of a layer at a place, which its codes complete
abbrev pub cell_in_layer : Layer → List ℕ → Option ℕ
cell_in_layer layer place = cell_with_codes layer.book.now layer.t layer.codes.now place

-- corners with others put among them
abbrev pub with_corners : List Corner → List Corner → List Corner
with_corners corners others = fold with_corner corners others

-- the sign at the partners of all these edges
abbrev pub sign_beyond : List Edge → Bool
sign_beyond edges = fold (λ plus edge. sign_over edge plus) true edges

-- ---- the search

-- the codes of a name, variable by variable of a table with these parents
abbrev pub codes_at : Name → List Dimension → List ℕ → List ℕ
codes_at name [] parents = []
codes_at name (dimension ∷ table) [] = []
codes_at name (dimension ∷ table) (parent ∷ parents) =
    slice_index name dimension.variable ∷ codes_at name table parents

-- each of these lists has edges from its code alone
abbrev pub begin_at : List ℕ → List (List Edge) → Bool
begin_at [] [] = true
begin_at [] (edges ∷ lists) = false
begin_at (code ∷ codes) [] = false
begin_at (code ∷ codes) (edges ∷ lists) = list_all (λ edge. edge.code == code) edges && begin_at codes lists

-- what a search goes by: a book with its cells, the costs, a table, the levels that a cube has to serve, and the cell's
-- code for each variable of the table
pub record Setting : Type 0 where
  pub book : BookView
  pub cells : List Cell
  pub cost : CostKind
  pub table : ℕ
  pub levels : Levels
  pub codes : List ℕ

-- what these make
abbrev pub setting_of : BookView → List Cell → CostKind → ℕ → Levels → List ℕ → Setting
setting_of book cells cost table levels codes =
    record { book = book; cells = cells; cost = cost; table = table; levels = levels; codes = codes }

-- all costs are known, the levels are from 0, and the table has at most 8 variables
pub record IsSearchable (setting : Setting) : Type 0 where
  pub costed : All (λ mark. AreCosted mark.facts) setting.book.marks
  pub up : pos 0 ≤ℤ setting.levels.up
  pub down : pos 0 ≤ℤ setting.levels.down
  pub at_most_8_codes : length setting.codes ≤ 8

-- the cell at a place of the table
abbrev pub cell_in : Setting → List ℕ → Option ℕ
cell_in setting place = cell_at setting.book setting.table place

-- the corners that each cube has which begins with these edges: those with the cell's own code for each further
-- variable
abbrev pub shared_corners : Setting → List Edge → List Corner
shared_corners setting chosen =
    corners_of (number_with_codes (cell_in setting) (drop (length chosen) setting.codes)) chosen

-- the offers of those cubes that serve
abbrev pub offers_of : Setting → List (List Edge) → List Offer
offers_of setting cubes =
    offers (cell_in setting) (is_marked setting.book) (price_in setting.book setting.cells setting.cost) setting.cells
    setting.levels cubes

-- a price is above that of the best offer so far
abbrev pub costs_more : Option Offer → ℕ → Bool
costs_more best price = option_map_or (λ offer. nat_lt offer.0 price) best false

-- the best of an offer and those of the cubes that have these edges and go on with one of each list
abbrev pub best_beyond : Setting → Option Offer → List Edge → List (List Edge) → Option Offer
best_beyond setting best chosen rest =
    fold (better comes_before) best (offers_of setting (map (λ more. chosen ++ more) (choices rest)))
