-- Cells and systems that are seen alike are the same: what they keep beside it has one proof.
use Rattle.std.proofs.Common.{◌≡◌, ◌≢◌, ℕ, ◌<◌, ◌≤◌, ◌^◌, List, [], ◌∷◌, length, map, All, pos, ◌≤ℤ◌, refl, ap, ap₂, subst}
use Rattle.std.proofs.Props.{props}
use Rattle.std.specs.Option.{ForSome}
use Rattle.sdc_base.specs.Relations.{Sum}
use Rattle.sdc_base.specs.Systems.{NamesCells}
use Rattle.sdc_base.specs.declared.cell.Cell.{Cell}
use Rattle.sdc_base.specs.declared.cell.Kind.TheVariants.{Primary}
use Rattle.sdc_base.specs.declared.relation.Relation.{Relation}
use Rattle.sdc_base.specs.declared.system.System.{System}
use Rattle.apriori.specs.Settling.{SettledCell, view_of_cell}
use Rattle.relations.specs.Holding.{sum_in}

-- values that are made of the same, with a proof of a fact that has one
same-made : {A B : Type 0} (Fact : A → Type 0) (once : (a : A) → IsProp (Fact a)) (make : (a : A) → Fact a → B) (one other : A) (p : Fact one) (q : Fact other) → one ≡ other → make one p ≡ make other q
same-made Fact once make one other p q same = subst (λ x. (r : Fact x) → make one p ≡ make x r) same (λ r. ap (make one) (once one p r)) q

-- ---- cells

-- what holds of the amounts of a cell
record IsBounded (s : SettledCell) : Type 0 where
  low_from_zero : pos 0 ≤ℤ s.low
  low_within : s.low ≤ℤ s.truth
  high_beyond : ForSome s.high (λ bound. s.truth ≤ℤ bound)
  down_from_zero : pos 0 ≤ℤ s.down
  down_within : s.down ≤ℤ s.truth
  primary : s.kind ≡ Primary → pos 1 ≤ℤ s.up
  other_up : s.kind ≢ Primary → s.up ≡ pos 0
  other_down : s.kind ≢ Primary → s.down ≡ pos 0

bounded-once : (s : SettledCell) → IsProp (IsBounded s)
bounded-once s = Prim.hlevel props

-- the cell with these amounts
cell-of : (s : SettledCell) → IsBounded s → Cell
cell-of s is = record {
  truth = s.truth;
  low = s.low;
  high = s.high;
  up = s.up;
  down = s.down;
  kind = s.kind;
  price = s.price;
  low_from_zero = is.low_from_zero;
  low_within = is.low_within;
  high_beyond = is.high_beyond;
  down_from_zero = is.down_from_zero;
  down_within = is.down_within;
  primary = is.primary;
  other_up = is.other_up;
  other_down = is.other_down;
}

bounds-of : (cell : Cell) → IsBounded (view_of_cell cell)
bounds-of cell = record {
  low_from_zero = cell.low_from_zero;
  low_within = cell.low_within;
  high_beyond = cell.high_beyond;
  down_from_zero = cell.down_from_zero;
  down_within = cell.down_within;
  primary = cell.primary;
  other_up = cell.other_up;
  other_down = cell.other_down;
}

same-cell : (one other : Cell) → view_of_cell one ≡ view_of_cell other → one ≡ other
unfolding cell-of bounds-of
same-cell one other same = same-made IsBounded bounded-once cell-of (view_of_cell one) (view_of_cell other) (bounds-of one) (bounds-of other) same

-- cells that are seen alike are the same
pub same-cells : (one other : List Cell) → map view_of_cell one ≡ map view_of_cell other → one ≡ other
same-cells [] [] same = refl
same-cells [] (cell ∷ other) same = absurd cc
same-cells (cell ∷ one) [] same = absurd cc
same-cells (first ∷ one) (second ∷ other) same =
    let heads : view_of_cell first ≡ view_of_cell second = cc in
    let tails : map view_of_cell one ≡ map view_of_cell other = cc in
    ap₂ (λ (cell : Cell) (cells : List Cell). cell ∷ cells) (same-cell first second heads) (same-cells one other tails)

-- ---- relations

abbrev IsShort : Sum → Type 0
IsShort sum = length sum.1 < 2 ^ 32

short-once : (sum : Sum) → IsProp (IsShort sum)
short-once sum = Prim.hlevel props

relation-of : (sum : Sum) → IsShort sum → Relation
relation-of sum few = record { total = sum.0; parts = sum.1; fewer_than_2_32 = few }

same-relation : (one other : Relation) → sum_in one ≡ sum_in other → one ≡ other
unfolding relation-of
same-relation one other same = same-made IsShort short-once relation-of (sum_in one) (sum_in other) one.fewer_than_2_32 other.fewer_than_2_32 same

same-relations : (one other : List Relation) → map sum_in one ≡ map sum_in other → one ≡ other
same-relations [] [] same = refl
same-relations [] (r ∷ other) same = absurd cc
same-relations (r ∷ one) [] same = absurd cc
same-relations (first ∷ one) (second ∷ other) same =
    let heads : sum_in first ≡ sum_in second = cc in
    let tails : map sum_in one ≡ map sum_in other = cc in
    ap₂ (λ (r : Relation) (relations : List Relation). r ∷ relations) (same-relation first second heads) (same-relations one other tails)

-- ---- systems

abbrev Parts : Type 0
Parts = ℕ × List Relation

record IsNamed (parts : Parts) : Type 0 where
  named : All (NamesCells parts.0) parts.1
  at_most_2_30 : length parts.1 ≤ 2 ^ 30
  below_2_32 : parts.0 < 2 ^ 32

named-once : (parts : Parts) → IsProp (IsNamed parts)
named-once parts = Prim.hlevel props

system-of : (parts : Parts) → IsNamed parts → System
system-of parts is = record { cells = parts.0; relations = parts.1; named = is.named; at_most_2_30 = is.at_most_2_30; below_2_32 = is.below_2_32 }

-- systems of as many cells whose relations have the same totals and parts are the same
pub same-systems : (one other : System) → one.cells ≡ other.cells → map sum_in one.relations ≡ map sum_in other.relations → one ≡ other
unfolding system-of
same-systems one other cells sums =
    same-made IsNamed named-once system-of (one.cells, one.relations) (other.cells, other.relations) (record { named = one.named; at_most_2_30 = one.at_most_2_30; below_2_32 = one.below_2_32 }) (record { named = other.named; at_most_2_30 = other.at_most_2_30; below_2_32 = other.below_2_32 })
    (ap₂ (λ (n : ℕ) (relations : List Relation). (n, relations)) cells (same-relations one.relations other.relations sums))
