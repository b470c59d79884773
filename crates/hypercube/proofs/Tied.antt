-- Two cubes of a cell in a subtable whose corners have the same numbers have the same corners: a corner's sign follows from its place.
use Rattle.std.proofs.Common.{◌≡◌, ◌⊎◌, inl, inr, ℕ, ◌<◌, ◌==◌, ◌&&◌, ◌||◌, nat_lt, Bool, true, false, not, cond, if◌then◌else◌, List, [], ◌∷◌, length, map, filter, fold, slice_get, slice_index, Option, None, Some, option_map, refl, ap, sym, ◌∙◌, arith}
use Rattle.std.specs.List.{AllByRecursion, cons_option, filter_map}
use Rattle.std.specs.Option.{option_and_then}
use Rattle.std.proofs.lemmas.Bool.Decides.{Decides-eqb}
use Rattle.sdc_base.specs.Trees.{Tree}
use Rattle.sdc_base.specs.Records.{Name}
use Rattle.sdc_base.specs.Cells.{cut_tree}
use Rattle.sdc_base.specs.Cubes.{choices, codes_in, corner_at, corner_places, corners_of, cubes_at, edge_to, edges_at, edges_from, edges_to, other_end, own_end, sign_over, with_corner}
use Rattle.sdc_base.specs.CubeOrder.{comes_before, is_lower, offer_of, price_of_hiding}
use Rattle.sdc_base.specs.declared.cube.Corner.{Corner}
use Rattle.sdc_base.specs.declared.cube.Edge.{Edge}
use Rattle.sdc_base.specs.declared.dimension.Dimension.{Dimension}
use Rattle.linked_tables.specs.BookViews.{BookView}
use Rattle.linked_tables.specs.BookCells.{IsBook, IsTable, cell_at, is_in, name_in_table, number_of}
use Rattle.hypercube.proofs.AllOf.{all-append, all-flat, all-map, all-more}
use Rattle.hypercube.proofs.OfferOrder.{not-both}
use Rattle.hypercube.proofs.WholeCubes.{all-at, not-none, same-cell}

-- ---- signs by places

-- the sign of a corner at a place: it turns for each variable whose code isn't the cell's, where neither of both is the parent
abbrev pub sign_at : Name → List Dimension → List ℕ → List ℕ → Bool
sign_at name [] parents place = true
sign_at name (dimension ∷ table) [] place = true
sign_at name (dimension ∷ table) (parent ∷ parents) [] = true
sign_at name (dimension ∷ table) (parent ∷ parents) (code ∷ place) =
    if code == slice_index name dimension.variable || (slice_index name dimension.variable == parent || code == parent) then sign_at name table parents place else not (sign_at name table parents place)

-- an edge from a code
record IsEdge (parent code : ℕ) (edge : Edge) : Type 0 where
  own : edge.code ≡ code
  away : (edge.other == code) ≡ false
  sign : edge.equal ≡ (code == parent || edge.other == parent)

to-are : (parent code : ℕ) (others : List ℕ) → AllByRecursion (IsEdge parent code) (edges_to parent code others)
to-are parent code [] = tt
to-are parent code (other ∷ others) =
    elim (other == code) as (λ b. (other == code) ≡ b → AllByRecursion (IsEdge parent code) (map (edge_to parent code) (cond (not b) (other ∷ filter (λ one. not (one == code)) others) (filter (λ one. not (one == code)) others)))) [
      | true ↦ λ is. to-are parent code others
      | false ↦ λ is. (record { own = refl; away = is; sign = refl }, to-are parent code others)
    ] refl

-- each edge is one from the cell's code
abbrev AreEdges : Name → List Dimension → List ℕ → List Edge → Type 0
AreEdges name [] parents [] = Unit {0}
AreEdges name [] parents (edge ∷ edges) = ⊥
AreEdges name (dimension ∷ table) [] [] = Unit {0}
AreEdges name (dimension ∷ table) [] (edge ∷ edges) = ⊥
AreEdges name (dimension ∷ table) (parent ∷ parents) [] = ⊥
AreEdges name (dimension ∷ table) (parent ∷ parents) (edge ∷ edges) = IsEdge parent (slice_index name dimension.variable) edge × AreEdges name table parents edges

cubes-are : (trees : List Tree) (name : Name) (table : List Dimension) (parents : List ℕ) → AllByRecursion (AreEdges name table parents) (cubes_at trees name table parents)
cubes-are trees name [] parents = (tt, tt)
cubes-are trees name (dimension ∷ table) [] = (tt, tt)
cubes-are trees name (dimension ∷ table) (parent ∷ parents) =
    let tree = cut_tree trees dimension in
    let code = slice_index name dimension.variable in
    let rest = choices (edges_at trees name table parents) in
    all-flat (AreEdges name (dimension ∷ table) (parent ∷ parents)) (λ one. map (λ others. one ∷ others) rest) (edges_from tree parent code)
    (all-more (IsEdge parent code) (λ one. AllByRecursion (AreEdges name (dimension ∷ table) (parent ∷ parents)) (map (λ others. one ∷ others) rest)) (edges_from tree parent code)
    (λ one here. all-map (AreEdges name (dimension ∷ table) (parent ∷ parents)) (λ others. one ∷ others) rest (all-more (AreEdges name table parents) (λ others. AreEdges name (dimension ∷ table) (parent ∷ parents) (one ∷ others)) rest (λ others later. (here, later)) (cubes-are trees name table parents)))
    (to-are parent code (codes_in tree parent)))

own-sign : (parent code : ℕ) (edge : Edge) (sign : Bool) → IsEdge parent code edge → sign ≡ (if edge.code == code || (code == parent || edge.code == parent) then sign else not sign)
own-sign parent code edge sign is =
    let same : (edge.code == code) ≡ true = (Decides-eqb edge.code code).1 is.own in
    ap (λ b. if b || (code == parent || edge.code == parent) then sign else not sign) (sym same)

other-sign : (parent code : ℕ) (edge : Edge) (sign : Bool) → IsEdge parent code edge → sign_over edge sign ≡ (if edge.other == code || (code == parent || edge.other == parent) then sign else not sign)
other-sign parent code edge sign is =
    ap (λ b. if b then sign else not sign) is.sign ∙ ap (λ b. if b || (code == parent || edge.other == parent) then sign else not sign) (sym is.away)

-- a corner has the sign of its place
abbrev HasSign : Name → List Dimension → List ℕ → List ℕ × Bool → Type 0
HasSign name table parents corner = corner.1 ≡ sign_at name table parents corner.0

places-signed : (name : Name) (table : List Dimension) (parents : List ℕ) (cube : List Edge) → AreEdges name table parents cube → AllByRecursion (HasSign name table parents) (corner_places cube)
places-signed name [] parents [] are = (refl, tt)
places-signed name [] parents (edge ∷ edges) are = absurd are
places-signed name (dimension ∷ table) [] [] are = (refl, tt)
places-signed name (dimension ∷ table) [] (edge ∷ edges) are = absurd are
places-signed name (dimension ∷ table) (parent ∷ parents) [] are = absurd are
places-signed name (dimension ∷ table) (parent ∷ parents) (edge ∷ edges) (here, are) =
    let code = slice_index name dimension.variable in
    let rest = places-signed name table parents edges are in
    all-append (HasSign name (dimension ∷ table) (parent ∷ parents)) (map (own_end edge) (corner_places edges)) (map (other_end edge) (corner_places edges))
    (all-map (HasSign name (dimension ∷ table) (parent ∷ parents)) (own_end edge) (corner_places edges)
    (all-more (HasSign name table parents) (λ corner. HasSign name (dimension ∷ table) (parent ∷ parents) (own_end edge corner)) (corner_places edges)
    (λ corner is. is ∙ own-sign parent code edge (sign_at name table parents corner.0) here) rest))
    (all-map (HasSign name (dimension ∷ table) (parent ∷ parents)) (other_end edge) (corner_places edges)
    (all-more (HasSign name table parents) (λ corner. HasSign name (dimension ∷ table) (parent ∷ parents) (other_end edge corner)) (corner_places edges)
    (λ corner is. ap (sign_over edge) is ∙ other-sign parent code edge (sign_at name table parents corner.0) here) rest))

-- ---- corners by their cells

-- its cell stands at a place with its sign
abbrev IsSigned : (List ℕ → Option ℕ) → (List ℕ → Bool) → Corner → Type 0
IsSigned number sign corner = (place : List ℕ) × (number place ≡ Some corner.cell) × (corner.plus ≡ sign place)

found-signed : (number : List ℕ → Option ℕ) (sign : List ℕ → Bool) (places : List (List ℕ × Bool)) → AllByRecursion (λ (place : List ℕ × Bool). place.1 ≡ sign place.0) places → AllByRecursion (IsSigned number sign) (filter_map (corner_at number) places)
found-signed number sign [] all = tt
found-signed number sign (place ∷ places) (here, all) = by (number place.0) refl (found-signed number sign places all)
  where
    by : (met : Option ℕ) → number place.0 ≡ met → AllByRecursion (IsSigned number sign) (filter_map (corner_at number) places)
        → AllByRecursion (IsSigned number sign) (cons_option (option_map (λ cell. record { cell = cell; plus = place.1 }) met) (filter_map (corner_at number) places))
    by None is rest = rest
    by (Some cell) is rest = ((place.0, is, here), rest)

all-put : (P : Corner → Type 0) (corners : List Corner) (new : Corner) → AllByRecursion P corners → P new → AllByRecursion P (with_corner corners new)
all-put P [] new all here = (here, tt)
all-put P (corner ∷ corners) new (first, all) here =
    elim (nat_lt new.cell corner.cell) as (λ b. AllByRecursion P (if b then new ∷ corner ∷ corners else corner ∷ with_corner corners new)) [
      | true ↦ (here, (first, all))
      | false ↦ (first, all-put P corners new all here)
    ]

all-puts : (P : Corner → Type 0) (corners more : List Corner) → AllByRecursion P corners → AllByRecursion P more → AllByRecursion P (fold with_corner corners more)
all-puts P corners [] all others = all
all-puts P corners (new ∷ more) all (here, others) = all-puts P (with_corner corners new) more (all-put P corners new all here) others

cube-signed : (number : List ℕ → Option ℕ) (name : Name) (table : List Dimension) (parents : List ℕ) (cube : List Edge) → AreEdges name table parents cube → AllByRecursion (IsSigned number (sign_at name table parents)) (corners_of number cube)
cube-signed number name table parents cube are =
    all-puts (IsSigned number (sign_at name table parents)) [] (filter_map (corner_at number) (corner_places cube)) tt
    (found-signed number (sign_at name table parents) (corner_places cube) (places-signed name table parents cube are))

-- no two places have one cell
abbrev pub HaveOwnCells : (List ℕ → Option ℕ) → Type 0
HaveOwnCells number = (one other : List ℕ) (cell : ℕ) → number one ≡ Some cell → number other ≡ Some cell → one ≡ other

same-corner : (number : List ℕ → Option ℕ) (sign : List ℕ → Bool) → HaveOwnCells number → (one other : Corner) → IsSigned number sign one → IsSigned number sign other → one.cell ≡ other.cell → one ≡ other
same-corner number sign apart one other (place, at, is) (place_other, at_other, is_other) same =
    let places : place ≡ place_other = apart place place_other one.cell at (at_other ∙ ap Some (sym same)) in
    let signs : one.plus ≡ other.plus = is ∙ ap sign places ∙ sym is_other in
    ap (λ (cell : ℕ). record { cell = cell; plus = one.plus }) same ∙ ap (λ (plus : Bool). record { cell = other.cell; plus = plus }) signs

-- neither comes before the other
both-same : (p q : ℕ) (one other : Bool) → (nat_lt p q || (p == q && one)) ≡ false → (nat_lt q p || (q == p && other)) ≡ false → (p ≡ q) × (one ≡ false) × (other ≡ false)
both-same p q one other h k = by (not-both p q one h) (not-both q p other k)
  where
    by : (q < p) ⊎ ((p ≡ q) × (one ≡ false)) → (p < q) ⊎ ((q ≡ p) × (other ≡ false)) → (p ≡ q) × (one ≡ false) × (other ≡ false)
    by (inl a) (inl b) = absurd (omega (arith, a, b))
    by (inl a) (inr b) = let same = b.0 in absurd (omega (arith, a, same))
    by (inr a) (inl b) = let same = a.0 in absurd (omega (arith, same, b))
    by (inr a) (inr b) = (a.0, a.1, b.1)

same-corners : (number : List ℕ → Option ℕ) (sign : List ℕ → Bool) → HaveOwnCells number → (ones others : List Corner) → AllByRecursion (IsSigned number sign) ones → AllByRecursion (IsSigned number sign) others
    → is_lower ones others ≡ false → is_lower others ones ≡ false → ones ≡ others
same-corners number sign apart [] [] all every h k = refl
same-corners number sign apart [] (other ∷ others) all every h k = absurd cc
same-corners number sign apart (one ∷ ones) [] all every h k = absurd cc
same-corners number sign apart (one ∷ ones) (other ∷ others) (here, all) (there, every) h k =
    let both = both-same one.cell other.cell (is_lower ones others) (is_lower others ones) h k in
    ap (λ (corner : Corner). corner ∷ ones) (same-corner number sign apart one other here there both.0)
    ∙ ap (λ (rest : List Corner). other ∷ rest) (same-corners number sign apart ones others all every both.1 both.2)

-- ---- offers

-- two cubes of which neither comes before the other have one offer
abbrev pub IsTied : (List ℕ → Option ℕ) → (ℕ → Bool) → (ℕ → ℕ) → List Edge → List Edge → Type 0
IsTied number hidden price one other =
    comes_before (offer_of number hidden price one) (offer_of number hidden price other) ≡ false → comes_before (offer_of number hidden price other) (offer_of number hidden price one) ≡ false
    → offer_of number hidden price one ≡ offer_of number hidden price other

same-offer : (number : List ℕ → Option ℕ) (hidden : ℕ → Bool) (price : ℕ → ℕ) (name : Name) (table : List Dimension) (parents : List ℕ) → HaveOwnCells number → (one other : List Edge) → AreEdges name table parents one → AreEdges name table parents other → IsTied number hidden price one other
same-offer number hidden price name table parents apart one other are all h k =
    let both = both-same (price_of_hiding hidden price (corners_of number one)) (price_of_hiding hidden price (corners_of number other)) (is_lower (corners_of number one) (corners_of number other)) (is_lower (corners_of number other) (corners_of number one)) h k in
    ap (λ (corners : List Corner). (price_of_hiding hidden price corners, corners))
    (same-corners number (sign_at name table parents) apart (corners_of number one) (corners_of number other) (cube-signed number name table parents one are) (cube-signed number name table parents other all) both.1 both.2)

-- the cubes of a cell
pub cubes-tied : (number : List ℕ → Option ℕ) (hidden : ℕ → Bool) (price : ℕ → ℕ) (trees : List Tree) (name : Name) (table : List Dimension) (parents : List ℕ) → HaveOwnCells number
    → AllByRecursion (λ one. AllByRecursion (IsTied number hidden price one) (cubes_at trees name table parents)) (cubes_at trees name table parents)
cubes-tied number hidden price trees name table parents apart =
    let cubes = cubes_at trees name table parents in
    let all = cubes-are trees name table parents in
    all-more (AreEdges name table parents) (λ one. AllByRecursion (IsTied number hidden price one) cubes) cubes
    (λ one are. all-more (AreEdges name table parents) (IsTied number hidden price one) cubes (λ other every. same-offer number hidden price name table parents apart one other are every) all) all

-- ---- the cells of a table

-- the places of a table of a book have cells of their own
pub own-cells : (book : BookView) (t : ℕ) → IsBook book → HaveOwnCells (cell_at book t)
own-cells book t is_book one other cell here there = by (slice_get book.tables t) refl
  where
    inside : (table : List Dimension) (place : List ℕ) → slice_get book.tables t ≡ Some table → cell_at book t place ≡ Some cell → is_in book table place ≡ true
    inside table place at is =
        let read : (if is_in book table place then number_of book (name_in_table book table place) else None) ≡ Some cell =
        sym (ap (λ (found : Option (List Dimension)). option_and_then (λ spanned. if is_in book spanned place then number_of book (name_in_table book spanned place) else None) found) at) ∙ is
        in
        elim (is_in book table place) as (λ b. (if b then number_of book (name_in_table book table place) else None) ≡ Some cell → b ≡ true) [
          | true ↦ λ found. refl
          | false ↦ λ found. absurd cc
        ] read

    by : (met : Option (List Dimension)) → slice_get book.tables t ≡ met → one ≡ other
    by None at = absurd (not-none (sym here ∙ ap (λ (found : Option (List Dimension)). option_and_then (λ spanned. if is_in book spanned one then number_of book (name_in_table book spanned one) else None) found) at))
    by (Some table) at = same-cell book t table one other cell (all-at (IsTable (length book.trees)) book.tables t table is_book.tables at) at (inside table one at here) (inside table other at there) here there
