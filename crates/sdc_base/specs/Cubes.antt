-- Cubes of a cell in a subtable: edges, corners with their signs, and the levels that they serve (handbook, hypercube
-- method; signs and levels own).
use Rattle.std.specs.Prelude.{ℕ, ◌==◌, ◌&&◌, ◌||◌, nat_lt, Bool, true, false, not, if◌then◌else◌, List, [], ◌∷◌, ◌++◌, map, filter, flat_map, fold, slice_get, slice_index, Option, option_map, ℤ, neg_ℤ, ◌+ℤ◌, int_le}
use Rattle.std.specs.List.{filter_map, list_all}
use Rattle.std.specs.Option.{option_map_or}
use Rattle.sdc_base.specs.Trees.{Tree}
use Rattle.sdc_base.specs.CutTrees.{CutTree, children_within}
use Rattle.sdc_base.specs.Records.{Name}
use Rattle.sdc_base.specs.Cells.{cut_tree}
use Rattle.sdc_base.specs.Kinds.{is_fixed}
use Rattle.sdc_base.specs.declared.cell.Cell.{Cell}
use Rattle.sdc_base.specs.declared.cube.Corner.{Corner}
use Rattle.sdc_base.specs.declared.cube.Edge.{Edge}
use Rattle.sdc_base.specs.declared.dimension.Dimension.{Dimension}
use Rattle.sdc_base.specs.declared.facts.Levels.{Levels}

-- ---- edges

-- the codes of a subtable for one variable: the parent and its children
abbrev pub codes_in : CutTree → ℕ → List ℕ
codes_in cut parent = parent ∷ children_within cut parent

-- The edge from a code to its partner. Where one of both is the parent the ends have one sign; two children have
-- opposite ones.
abbrev pub edge_to : ℕ → ℕ → ℕ → Edge
edge_to parent code other = record { code = code; other = other; equal = code == parent || other == parent }

-- the edges from a code to those of these codes that are other ones
abbrev pub edges_to : ℕ → ℕ → List ℕ → List Edge
edges_to parent code others = map (edge_to parent code) (filter (λ other. not (other == code)) others)

-- the edges from a code: one to each other code of the subtable
abbrev pub edges_from : CutTree → ℕ → ℕ → List Edge
edges_from cut parent code = edges_to parent code (codes_in cut parent)

-- the edges from the codes of a cell, variable by variable of a table with these parents
abbrev pub edges_at : List Tree → Name → List Dimension → List ℕ → List (List Edge)
edges_at trees name [] parents = []
edges_at trees name (dimension ∷ table) [] = []
edges_at trees name (dimension ∷ table) (parent ∷ parents) =
    edges_from (cut_tree trees dimension) parent (slice_index name dimension.variable)
    ∷ edges_at trees name table parents

-- all choices of one of each
abbrev pub choices : {X : Type 0} → List (List X) → List (List X)
choices [] = [] ∷ []
choices (each ∷ more) = flat_map (λ one. map (λ others. one ∷ others) (choices more)) each

-- the cubes with a cell as a corner: all choices of an edge for each variable of the table
abbrev pub cubes_at : List Tree → Name → List Dimension → List ℕ → List (List Edge)
cubes_at trees name table parents = choices (edges_at trees name table parents)

-- ---- corners

-- the sign at an edge's other end
abbrev pub sign_over : Edge → Bool → Bool
sign_over edge plus = if edge.equal then plus else not plus

-- a corner's place and sign, with an edge more before: at its own end
abbrev pub own_end : Edge → List ℕ × Bool → List ℕ × Bool
own_end edge corner = (edge.code ∷ corner.0, corner.1)

-- and at its other end
abbrev pub other_end : Edge → List ℕ × Bool → List ℕ × Bool
other_end edge corner = (edge.other ∷ corner.0, sign_over edge corner.1)

-- The places of a cube's corners, each with its sign: all choices of one end of each edge. The sign of the cell's own
-- place is plus.
abbrev pub corner_places : List Edge → List (List ℕ × Bool)
corner_places [] = ([], true) ∷ []
corner_places (edge ∷ edges) = map (own_end edge) (corner_places edges) ++ map (other_end edge) (corner_places edges)

-- a corner behind all that have no higher number
abbrev pub with_corner : List Corner → Corner → List Corner
with_corner [] new = new ∷ []
with_corner (corner ∷ corners) new = if nat_lt new.cell corner.cell then new ∷ corner ∷ corners
    else corner ∷ with_corner corners new

-- the corner at a place, where a cell stands there
abbrev pub corner_at : (List ℕ → Option ℕ) → List ℕ × Bool → Option Corner
corner_at number place = option_map (λ cell. record { cell = cell; plus = place.1 }) (number place.0)

-- the corners of a cube, by the numbers of their cells upwards
abbrev pub corners_of : (List ℕ → Option ℕ) → List Edge → List Corner
corners_of number edges = fold with_corner [] (filter_map (corner_at number) (corner_places edges))

-- ---- what a cube serves

-- the value is within the cell's bounds
abbrev pub is_within : Cell → ℤ → Bool
is_within cell value = int_le cell.low value && option_map_or (λ high. int_le value high) cell.high true

-- an amount along a sign
abbrev pub amount_along : Bool → ℤ → ℤ
amount_along plus amount = if plus then amount else neg_ℤ amount

-- the cell may be hidden, and stays within its bounds both where it moves upwards by the one level along its sign and
-- where it moves by the other against it
abbrev pub bears : Levels → Bool → Cell → Bool
bears levels plus cell =
    not (is_fixed cell.kind) && (is_within cell (cell.truth +ℤ amount_along plus levels.up)
    && is_within cell (cell.truth +ℤ amount_along plus (neg_ℤ levels.down)))

-- each corner bears the levels
abbrev pub serve : List Cell → Levels → List Corner → Bool
serve cells levels corners =
    list_all (λ corner. option_map_or (bears levels corner.plus) (slice_get cells corner.cell) false) corners
