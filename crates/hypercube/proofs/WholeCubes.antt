-- Each corner of a cube has a cell.
use Rattle.std.proofs.Common.{◌≡◌, ◌⊎◌, inl, inr, All, ℕ, suc, ◌+◌, ◌*◌, ◌^◌, ◌<◌, ◌≤◌, ◌==◌, ◌||◌, nat_le, nat_lt, Bool, true, false, not, cond, List, [], ◌∷◌, length, map, filter, fold, is_some, get_or, slice_get, slice_index, Option, None, Some, option_map, if◌then◌else◌, refl, ap, sym, subst, length-append, ◌∙◌, arith}
use Rattle.std.specs.List.{AllByRecursion, cons_option, filter_map, range_with_len}
use Rattle.std.specs.Option.{option_map_or}
use Rattle.std.proofs.lemmas.Bool.Decides.{Decides-eqb, nat_tests}
use Rattle.std.proofs.Math.Nat.{pow-suc}
use Rattle.std.proofs.lemmas.List.{length-map}
use Rattle.std.proofs.lemmas.Option.{slice_get_cases}
use Rattle.sdc_base.specs.Trees.{IsCodeTree, Tree, children, is_child, parent_at}
use Rattle.sdc_base.specs.CutTrees.{CutTree, children_within, goes_below, has_code, is_within}
use Rattle.sdc_base.specs.Records.{Name}
use Rattle.sdc_base.specs.Cells.{code_for, cut_tree, name_of, spans, trees_of}
use Rattle.sdc_base.specs.CellOrder.{is_place_in}
use Rattle.sdc_base.specs.Cubes.{choices, corner_at, corner_places, corners_of, cubes_at, edge_to, edges_at, edges_from, edges_to, other_end, own_end, with_corner}
use Rattle.sdc_base.specs.declared.cube.Corner.{Corner}
use Rattle.sdc_base.specs.declared.cube.Edge.{Edge}
use Rattle.sdc_base.specs.declared.dimension.Dimension.{Dimension}
use Rattle.sdc_base.proofs.CutTrees.{child-within, inside-tree}
use Rattle.linked_tables.specs.BookViews.{BookView}
use Rattle.linked_tables.specs.BookCells.{IsTable, cell_at, is_in, name_in_table}
use Rattle.linked_tables.specs.Tables.{has_twice, has_unknown}
use Rattle.linked_tables.proofs.Numbers.{numbers_are_names}
use Rattle.linked_tables.proofs.Sharing.{known-below, name-codes, place-long}
use Rattle.linked_tables.proofs.Finding.{cell-found}
use Rattle.hypercube.proofs.AllOf.{all-append, all-flat, all-map, all-more}
use Rattle.hypercube.specs.CornerLaws.{AreInTrees, AreWhole, CubesAreWhole}
use Rattle.hypercube.proofs.RisingCorners.{HaveNotOne, Pairwise, all-any, found-apart, pairwise-append, pairwise-map, pairwise-with, puts-rise, rising-numbers}

-- ---- edges

-- the ends of an edge are two codes of a cut tree
record IsInTree (cut : CutTree) (edge : Edge) : Type 0 where
  code : has_code cut edge.code ≡ true
  other : has_code cut edge.other ≡ true
  two : (edge.other == edge.code) ≡ false

is-parent : (tree : Tree) (above code : ℕ) → is_child tree above code ≡ true → parent_at tree code ≡ Some above
is-parent tree above code h = by (parent_at tree code) h
  where
    by : (found : Option ℕ) → option_map_or (λ parent. parent == above) found false ≡ true → found ≡ Some above
    by None h = absurd cc
    by (Some parent) h = ap Some ((Decides-eqb parent above).0 h)

-- a child of a code above the last level is a code of the cut tree
pub child-in : (cut : CutTree) → IsCodeTree cut.tree → (above code : ℕ) → goes_below cut above ≡ true → is_child cut.tree above code ≡ true → has_code cut code ≡ true
child-in cut is above code goes child =
    let up = is-parent cut.tree above code child in
    let inside = inside-tree cut.tree code above up in
    let first : nat_lt code (length cut.tree) ≡ true = grind (arith, nat_tests, inside) in
    let second : is_within cut code ≡ true = sym (child-within cut is code above up) ∙ goes in
    rw (first, second) refl

kept-in : (cut : CutTree) → IsCodeTree cut.tree → (above : ℕ) → goes_below cut above ≡ true → (codes : List ℕ) → AllByRecursion (λ code. has_code cut code ≡ true) (filter (is_child cut.tree above) codes)
kept-in cut is above goes [] = tt
kept-in cut is above goes (code ∷ codes) =
    elim (is_child cut.tree above code) as (λ b. is_child cut.tree above code ≡ b → AllByRecursion (λ one. has_code cut one ≡ true) (cond b (code ∷ filter (is_child cut.tree above) codes) (filter (is_child cut.tree above) codes))) [
      | true ↦ λ child. (child-in cut is above code goes child, kept-in cut is above goes codes)
      | false ↦ λ _. kept-in cut is above goes codes
    ] refl

children-in : (cut : CutTree) → IsCodeTree cut.tree → (above : ℕ) → AllByRecursion (λ code. has_code cut code ≡ true) (children_within cut above)
children-in cut is above = by (goes_below cut above) refl
  where
    by : (b : Bool) → goes_below cut above ≡ b → AllByRecursion (λ code. has_code cut code ≡ true) (if b then children cut.tree above else [])
    by true goes = kept-in cut is above goes (range_with_len 0 (length cut.tree))
    by false goes = tt

edges-in : (cut : CutTree) (parent code : ℕ) (others : List ℕ) → has_code cut code ≡ true → AllByRecursion (λ other. has_code cut other ≡ true) others → AllByRecursion (IsInTree cut) (edges_to parent code others)
edges-in cut parent code [] inside a = tt
edges-in cut parent code (other ∷ others) inside (here, a) =
    elim (other == code) as (λ b. (other == code) ≡ b → AllByRecursion (IsInTree cut) (map (edge_to parent code) (cond (not b) (other ∷ filter (λ one. not (one == code)) others) (filter (λ one. not (one == code)) others)))) [
      | true ↦ λ is. edges-in cut parent code others inside a
      | false ↦ λ is. (record { code = inside; other = here; two = is }, edges-in cut parent code others inside a)
    ] refl

from-in : (cut : CutTree) → IsCodeTree cut.tree → (parent code : ℕ) → has_code cut parent ≡ true → has_code cut code ≡ true → AllByRecursion (IsInTree cut) (edges_from cut parent code)
from-in cut is parent code above inside = edges-in cut parent code (parent ∷ children_within cut parent) inside (above, children-in cut is parent)

-- each edge of a cube is in the tree of its variable
abbrev EdgesAreIn : List Tree → List Dimension → List Edge → Type 0
EdgesAreIn trees [] [] = Unit {0}
EdgesAreIn trees [] (edge ∷ edges) = ⊥
EdgesAreIn trees (dimension ∷ table) [] = ⊥
EdgesAreIn trees (dimension ∷ table) (edge ∷ edges) = IsInTree (cut_tree trees dimension) edge × EdgesAreIn trees table edges

cubes-in : (trees : List Tree) (name : Name) (table : List Dimension) (parents : List ℕ) → All IsCodeTree trees → has_unknown (length trees) table ≡ false → AreInTrees trees name table parents → AllByRecursion (EdgesAreIn trees table) (cubes_at trees name table parents)
cubes-in trees name [] [] good known fits = (tt, tt)
cubes-in trees name [] (parent ∷ parents) good known fits = absurd fits
cubes-in trees name (dimension ∷ table) [] good known fits = absurd fits
cubes-in trees name (dimension ∷ table) (parent ∷ parents) good known (above, inside, fits) =
    let cut = cut_tree trees dimension in
    let parts = neither (nat_le (length trees) dimension.variable) (has_unknown (length trees) table) known in
    let below : dimension.variable < length trees = grind (arith, nat_tests, parts.0) in
    let rest = choices (edges_at trees name table parents) in
    all-flat (EdgesAreIn trees (dimension ∷ table)) (λ one. map (λ others. one ∷ others) rest) (edges_from cut parent (slice_index name dimension.variable))
    (all-more (IsInTree cut) (λ one. AllByRecursion (EdgesAreIn trees (dimension ∷ table)) (map (λ others. one ∷ others) rest)) (edges_from cut parent (slice_index name dimension.variable))
    (λ one here. all-map (EdgesAreIn trees (dimension ∷ table)) (λ others. one ∷ others) rest (all-more (EdgesAreIn trees table) (λ others. EdgesAreIn trees (dimension ∷ table) (one ∷ others)) rest (λ others later. (here, later)) (cubes-in trees name table parents good parts.1 fits)))
    (from-in cut (good dimension.variable [] below) parent (slice_index name dimension.variable) above inside))
  where
    neither : (a b : Bool) → (a || b) ≡ false → (a ≡ false) × (b ≡ false)
    neither true b h = absurd cc
    neither false b h = (refl, h)

-- ---- corners

-- a code in front of a place
place-more : (tree : CutTree) (trees : List CutTree) (code : ℕ) (place : List ℕ) → has_code tree code ≡ true → is_place_in trees place ≡ true → is_place_in (tree ∷ trees) (code ∷ place) ≡ true
place-more tree trees code place inside h = rw (inside, h) refl

corners-in : (trees : List Tree) (table : List Dimension) (edges : List Edge) → EdgesAreIn trees table edges → AllByRecursion (λ (corner : List ℕ × Bool). is_place_in (trees_of trees table) corner.0 ≡ true) (corner_places edges)
corners-in trees [] [] fits = (refl, tt)
corners-in trees [] (edge ∷ edges) fits = absurd fits
corners-in trees (dimension ∷ table) [] fits = absurd fits
corners-in trees (dimension ∷ table) (edge ∷ edges) (here, fits) =
    let tree = cut_tree trees dimension in
    let rest = corners-in trees table edges fits in
    all-append (λ (corner : List ℕ × Bool). is_place_in (tree ∷ trees_of trees table) corner.0 ≡ true) (map (own_end edge) (corner_places edges)) (map (other_end edge) (corner_places edges))
    (all-map (λ (corner : List ℕ × Bool). is_place_in (tree ∷ trees_of trees table) corner.0 ≡ true) (own_end edge) (corner_places edges)
    (all-more (λ (corner : List ℕ × Bool). is_place_in (trees_of trees table) corner.0 ≡ true) (λ (corner : List ℕ × Bool). is_place_in (tree ∷ trees_of trees table) (edge.code ∷ corner.0) ≡ true) (corner_places edges)
    (λ corner h. place-more tree (trees_of trees table) edge.code corner.0 here.code h) rest))
    (all-map (λ (corner : List ℕ × Bool). is_place_in (tree ∷ trees_of trees table) corner.0 ≡ true) (other_end edge) (corner_places edges)
    (all-more (λ (corner : List ℕ × Bool). is_place_in (trees_of trees table) corner.0 ≡ true) (λ (corner : List ℕ × Bool). is_place_in (tree ∷ trees_of trees table) (edge.other ∷ corner.0) ≡ true) (corner_places edges)
    (λ corner h. place-more tree (trees_of trees table) edge.other corner.0 here.other h) rest))

-- where each has a number none is lost
all-kept : (number : List ℕ → Option ℕ) (places : List (List ℕ × Bool)) → AllByRecursion (λ (corner : List ℕ × Bool). is_some (number corner.0) ≡ true) places → length (filter_map (corner_at number) places) ≡ length places
all-kept number [] a = refl
all-kept number (place ∷ places) (here, a) = by (number place.0) here ∙ ap suc (all-kept number places a)
  where
    by : (met : Option ℕ) → is_some met ≡ true → length (cons_option (option_map (λ cell. record { cell = cell; plus = place.1 }) met) (filter_map (corner_at number) places)) ≡ suc (length (filter_map (corner_at number) places))
    by None h = absurd cc
    by (Some cell) h = refl

put-length : (corners : List Corner) (new : Corner) → length (with_corner corners new) ≡ suc (length corners)
put-length [] new = refl
put-length (corner ∷ corners) new =
    elim (nat_lt new.cell corner.cell) as (λ b. length (if b then new ∷ corner ∷ corners else corner ∷ with_corner corners new) ≡ suc (length (corner ∷ corners))) [
      | true ↦ refl
      | false ↦ ap suc (put-length corners new)
    ]

puts-length : (corners more : List Corner) → length (fold with_corner corners more) ≡ length corners + length more
puts-length corners [] = omega arith
puts-length corners (new ∷ more) = let rest = puts-length (with_corner corners new) more in let one = put-length corners new in omega (arith, rest, one)

-- a place of a table has a cell
cell-there : (book : BookView) (t : ℕ) (table : List Dimension) (place : List ℕ) → slice_get book.tables t ≡ Some table → is_place_in (trees_of book.trees table) place ≡ true → is_some (cell_at book t place) ≡ true
cell-there book t table place at h = cell-found book t place ∙ ap (λ (found : Option (List Dimension)). option_map_or (λ spanned. is_in book spanned place) found false) at ∙ h

-- ---- how many

as-many : (trees : List Tree) (table : List Dimension) (edges : List Edge) → EdgesAreIn trees table edges → length edges ≡ length table
as-many trees [] [] fits = refl
as-many trees [] (edge ∷ edges) fits = absurd fits
as-many trees (dimension ∷ table) [] fits = absurd fits
as-many trees (dimension ∷ table) (edge ∷ edges) (here, fits) = ap suc (as-many trees table edges fits)

-- twice as many for each edge
places-many : (edges : List Edge) → length (corner_places edges) ≡ 2 ^ length edges
places-many [] = refl
places-many (edge ∷ edges) =
    let rest = places-many edges in
    let own = length-map (corner_places edges) (own_end edge) in
    let other = length-map (corner_places edges) (other_end edge) in
    let both = length-append (map (own_end edge) (corner_places edges)) (map (other_end edge) (corner_places edges)) in
    let twice : 2 ^ suc (length edges) ≡ 2 ^ length edges * 2 = pow-suc 2 (length edges) in
    omega (arith, rest, own, other, both, twice)

-- ---- no two have one place

-- two places differ
abbrev Differ : List ℕ × Bool → List ℕ × Bool → Type 0
Differ one other = one.0 ≡ other.0 → ⊥

ends-differ : (trees : List Tree) (table : List Dimension) (edges : List Edge) → EdgesAreIn trees table edges → Pairwise Differ (corner_places edges)
ends-differ trees [] [] fits = (tt, tt)
ends-differ trees [] (edge ∷ edges) fits = absurd fits
ends-differ trees (dimension ∷ table) [] fits = absurd fits
ends-differ trees (dimension ∷ table) (edge ∷ edges) (here, fits) =
    let places = corner_places edges in
    let rest = ends-differ trees table edges fits in
    pairwise-append Differ (map (own_end edge) places) (map (other_end edge) places)
    (pairwise-map Differ (own_end edge) places (pairwise-with (λ place. Unit {0}) Differ (λ one other. Differ (own_end edge one) (own_end edge other)) places (λ one other _ _ apart same. apart (tails edge.code edge.code one.0 other.0 same)) (all-any (λ place. Unit {0}) places (λ place. tt)) rest))
    (pairwise-map Differ (other_end edge) places (pairwise-with (λ place. Unit {0}) Differ (λ one other. Differ (other_end edge one) (other_end edge other)) places (λ one other _ _ apart same. apart (tails edge.other edge.other one.0 other.0 same)) (all-any (λ place. Unit {0}) places (λ place. tt)) rest))
    (all-map (λ place. AllByRecursion (Differ place) (map (other_end edge) places)) (own_end edge) places
    (all-any (λ place. AllByRecursion (Differ (own_end edge place)) (map (other_end edge) places)) places
    (λ one. all-map (Differ (own_end edge one)) (other_end edge) places (all-any (λ other. Differ (own_end edge one) (other_end edge other)) places
    (λ other same. apart edge here.two (heads edge.code edge.other one.0 other.0 same))))))
  where
    tails : (a b : ℕ) (xs ys : List ℕ) → a ∷ xs ≡ b ∷ ys → xs ≡ ys
    tails a b xs ys same = cc

    heads : (a b : ℕ) (xs ys : List ℕ) → a ∷ xs ≡ b ∷ ys → a ≡ b
    heads a b xs ys same = cc

    apart : (edge : Edge) → (edge.other == edge.code) ≡ false → edge.code ≡ edge.other → ⊥
    apart edge two same = let test : (edge.other == edge.code) ≡ true = (Decides-eqb edge.other edge.code).1 (sym same) in absurd cc

-- ---- and so no two have one cell

-- a variable that the table spans behind this one is another
not-here : (spanned : Dimension) (variable : ℕ) (table : List Dimension) → spans table spanned.variable ≡ false → spans table variable ≡ true → (spanned.variable == variable) ≡ false
not-here spanned variable table once h = by (spanned.variable == variable) refl
  where
    by : (b : Bool) → (spanned.variable == variable) ≡ b → b ≡ false
    by true is = let again : true ≡ false = sym h ∙ ap (spans table) (sym ((Decides-eqb spanned.variable variable).0 is)) ∙ once in cc
    by false is = refl

same-places : (table : List Dimension) (one other : List ℕ) → has_twice table ≡ false → length one ≡ length table → length other ≡ length table
    → ((variable : ℕ) → spans table variable ≡ true → code_for table one variable ≡ code_for table other variable) → one ≡ other
same-places [] [] [] once long longer each = refl
same-places [] [] (d ∷ other) once long longer each = absurd cc
same-places [] (c ∷ one) other once long longer each = absurd cc
same-places (dimension ∷ table) [] other once long longer each = absurd cc
same-places (dimension ∷ table) (c ∷ one) [] once long longer each = absurd cc
same-places (dimension ∷ table) (c ∷ one) (d ∷ other) once long longer each =
    let here : (dimension.variable == dimension.variable) ≡ true = (Decides-eqb dimension.variable dimension.variable).1 refl in
    let none = parts (spans table dimension.variable) (has_twice table) once in
    let first : c ≡ d = subst (λ (b : Bool). (if b then c else code_for table one dimension.variable) ≡ (if b then d else code_for table other dimension.variable)) here (each dimension.variable (ap (λ b. b || spans table dimension.variable) here)) in
    let rest : one ≡ other =
    same-places table one other none.1 (omega (arith, long)) (omega (arith, longer))
    (λ next h.
    let away = not-here dimension next table none.0 h in
    subst (λ (b : Bool). (if b then c else code_for table one next) ≡ (if b then d else code_for table other next)) away (each next (ap (λ b. b || spans table next) away ∙ h)))
    in
    ap (λ (z : ℕ). z ∷ one) first ∙ ap (λ (zs : List ℕ). d ∷ zs) rest
  where
    parts : (a b : Bool) → (a || b) ≡ false → (a ≡ false) × (b ≡ false)
    parts true b h = absurd cc
    parts false b h = (refl, h)

-- two places of one table with one cell are the same
pub same-cell : (book : BookView) (t : ℕ) (table : List Dimension) (one other : List ℕ) (cell : ℕ) → IsTable (length book.trees) table → slice_get book.tables t ≡ Some table
    → is_place_in (trees_of book.trees table) one ≡ true → is_place_in (trees_of book.trees table) other ≡ true
    → cell_at book t one ≡ Some cell → cell_at book t other ≡ Some cell → one ≡ other
same-cell book t table one other cell fits at inside within here there =
    let name : name_of (length book.trees) table one ≡ name_of (length book.trees) table other =
    subst (λ (found : Option (List Dimension)). option_map_or (λ spanned. name_in_table book spanned one) found [] ≡ option_map_or (λ spanned. name_in_table book spanned other) found []) at
    ((numbers_are_names book t t one other (ap (λ (found : Option (List Dimension)). option_map_or (λ spanned. is_in book spanned one) found false) at ∙ inside) (ap (λ (found : Option (List Dimension)). option_map_or (λ spanned. is_in book spanned other) found false) at ∙ within)).0 (here ∙ sym there))
    in
    same-places table one other fits.once (place-long book.trees table one inside) (place-long book.trees table other within)
    (λ variable h.
    let known = known-below (length book.trees) table variable fits.known h in
    sym (name-codes (length book.trees) table one variable known) ∙ ap (λ (n : List ℕ). get_or n variable 0) name ∙ name-codes (length book.trees) table other variable known)

pub some-same : {X : Type 0} {x y : X} → Some x ≡ Some y → x ≡ y
some-same h = cc

pub not-none : {X : Type 0} {x : X} → Some x ≡ None → ⊥
not-none h = cc

pub all-at : {X : Type 0} (P : X → Type 0) (xs : List X) (k : ℕ) (x : X) → All P xs → slice_get xs k ≡ Some x → P x
all-at {X = X} P xs k x all at = by (slice_get_cases xs k).1
  where
    by : ((one : X) × (k < length xs) × (slice_get xs k ≡ Some one) × (get_or xs k one ≡ one)) ⊎ ((length xs ≤ k) × (slice_get xs k ≡ None)) → P x
    by (inl (one, inside, is, read)) = let same : one ≡ x = some-same (sym is ∙ at) in subst P (read ∙ same) (all k one inside)
    by (inr (past, none)) = absurd (not-none (sym at ∙ none))

-- ---- the law

pub cubes_are_whole : CubesAreWhole
cubes_are_whole book t table name parents is_book at fits =
    let good : IsTable (length book.trees) table = all-at (IsTable (length book.trees)) book.tables t table is_book.tables at in
    all-more (EdgesAreIn book.trees table) (λ cube. AreWhole (length table) (corners_of (cell_at book t) cube)) (cubes_at book.trees name table parents)
    (λ cube inside.
    let places = corner_places cube in
    let within = corners-in book.trees table cube inside in
    let kept = all-kept (cell_at book t) places (all-more (λ (corner : List ℕ × Bool). is_place_in (trees_of book.trees table) corner.0 ≡ true) (λ (corner : List ℕ × Bool). is_some (cell_at book t corner.0) ≡ true) places (λ corner h. cell-there book t table corner.0 at h) within) in
    let put = puts-length [] (filter_map (corner_at (cell_at book t)) places) in
    let many = places-many cube in
    let long = ap (λ n. 2 ^ n) (as-many book.trees table cube inside) in
    let apart : Pairwise (HaveNotOne (cell_at book t)) places =
    pairwise-with (λ (place : List ℕ × Bool). is_place_in (trees_of book.trees table) place.0 ≡ true) Differ (HaveNotOne (cell_at book t)) places
    (λ one other here there differ cell first second. differ (same-cell book t table one.0 other.0 cell good at here there first second)) within (ends-differ book.trees table cube inside)
    in
    record {
      all = omega (arith, put, kept, many, long);
      ascending = rising-numbers (corners_of (cell_at book t) cube) (puts-rise [] (filter_map (corner_at (cell_at book t)) places) tt (all-any (λ new. Unit {0}) (filter_map (corner_at (cell_at book t)) places) (λ new. tt)) (found-apart (cell_at book t) places apart));
    })
    (cubes-in book.trees name table parents is_book.trees good.known fits)
