-- Each step of a trail is the whole cube of a cell in a subtable.
use Rattle.std.proofs.Common.{◌≡◌, ℕ, zero, suc, ◌+◌, ◌<◌, ◌≤◌, ◌==◌, ◌&&◌, ◌||◌, nat_le, nat_lt, All, Bool, true, false, not, cond, List, [], ◌∷◌, ◌++◌, length, map, filter, fold, get_or, slice_get, slice_index, slice_index_or, Option, None, Some, if◌then◌else◌, refl, ap, sym, ◌∙◌, subst, arith, append_assoc, length-append}
use Rattle.std.specs.List.{AllByRecursion, Contains, list_all, list_any, range_with_len}
use Rattle.std.specs.Option.{MatchOption, option_map_or}
use Rattle.std.proofs.lemmas.Bool.Decides.{Decides-eqb, nat_tests}
use Rattle.std.proofs.lemmas.List.{length-map}
use Rattle.std.proofs.Math.Seq.{get_or-append_seam}
use Rattle.sdc_base.specs.Trees.{IsCodeTree, Tree, children, is_child}
use Rattle.sdc_base.specs.CutTrees.{CutTree, children_within, goes_below, has_code, is_child_within, is_within}
use Rattle.sdc_base.specs.Records.{Name}
use Rattle.sdc_base.specs.Cells.{cut_tree, trees_of}
use Rattle.sdc_base.specs.HiddenSets.{MayHide, may_hide}
use Rattle.sdc_base.specs.declared.cell.Kind.{Kind}
use Rattle.sdc_base.specs.declared.cell.Kind.TheVariants.{Primary, Free, Fixed}
use Rattle.sdc_base.specs.Kinds.{is_fixed}
use Rattle.sdc_base.specs.Cubes.{bears, choices, corners_of, cubes_at, serve}
use Rattle.sdc_base.specs.CubeOrder.{least_of}
use Rattle.sdc_base.specs.Subtables.{depth_of, inner_among, inner_codes, is_code_in, is_place_below, most_depth, of_depth, ordered_subtables, subtable_at, subtables_from, subtables_in}
use Rattle.sdc_base.specs.Trails.{hidden_after, levels_at, step_of, with_step}
use Rattle.sdc_base.specs.declared.cell.Cell.{Cell}
use Rattle.sdc_base.specs.declared.cube.Corner.{Corner}
use Rattle.sdc_base.specs.declared.cube.Edge.{Edge}
use Rattle.sdc_base.specs.declared.cube.Subtable.{Subtable}
use Rattle.sdc_base.specs.declared.dimension.Dimension.{Dimension}
use Rattle.sdc_base.specs.declared.facts.Levels.{Levels}
use Rattle.sdc_base.specs.declared.trail.PlanStep.{PlanStep}
use Rattle.sdc_base.proofs.GrowingLists.{read-at}
use Rattle.sdc_base.proofs.ListReads.{read-some}
use Rattle.cost_rule.specs.declared.kind.CostKind.{CostKind}
use Rattle.linked_tables.specs.BookViews.{BookView}
use Rattle.linked_tables.specs.BookCells.{IsBook, IsTable, cells, cell_at}
use Rattle.linked_tables.specs.Tables.{has_unknown}
use Rattle.hypercube.specs.CornerLaws.{AreInTrees, AreWhole}
use Rattle.hypercube.specs.LeastCubes.{cubes_in, price_in}
use Rattle.hypercube.specs.LeastLaws.{AreLeast, NoneServes}
use Rattle.hypercube.proofs.AllOf.{all-append, all-flat, all-map, all-more}
use Rattle.hypercube.proofs.LeastLaw.{least_is_first}
use Rattle.hypercube.proofs.WholeCubes.{all-at, child-in, cubes_are_whole}
use Rattle.modular_plan.specs.Plans.{codes_at, hidden_among, hidden_in, in_passes, is_cell_of, with_cell, with_subtable}
use Rattle.modular_plan.specs.StepLaws.{IsWholeStep, StepsAreWhole}

both : (a b : Bool) → (a && b) ≡ true → (a ≡ true) × (b ≡ true)
both true b h = (refl, h)
both false b h = cc

-- ---- subtables

-- a parent for each variable of a table, each a code that the table has
abbrev AreParents : List Tree → List Dimension → List ℕ → Type 0
AreParents trees [] [] = Unit {0}
AreParents trees [] (parent ∷ parents) = ⊥
AreParents trees (dimension ∷ table) [] = ⊥
AreParents trees (dimension ∷ table) (parent ∷ parents) = (has_code (cut_tree trees dimension) parent ≡ true) × AreParents trees table parents

parents-long : (trees : List Tree) (table : List Dimension) (parents : List ℕ) → AreParents trees table parents → length parents ≡ length table
parents-long trees [] [] are = refl
parents-long trees [] (parent ∷ parents) are = absurd are
parents-long trees (dimension ∷ table) [] are = absurd are
parents-long trees (dimension ∷ table) (parent ∷ parents) are = ap suc (parents-long trees table parents are.1)

-- a code that has children in a cut tree is one of it
inner-has : (cut : CutTree) (code : ℕ) → code < length cut.tree → not (length (children_within cut code) == 0) ≡ true → has_code cut code ≡ true
inner-has cut code inside some =
    let goes : goes_below cut code ≡ true = by (goes_below cut code) some in
    let first : nat_lt code (length cut.tree) ≡ true = grind (arith, nat_tests, inside) in
    let second : is_within cut code ≡ true = grind (arith, nat_tests, goes) in
    rw (first, second) refl
  where
    by : (b : Bool) → not (length (if b then children cut.tree code else []) == 0) ≡ true → b ≡ true
    by true h = refl
    by false h = cc

among-inside : (cut : CutTree) (a n : ℕ) → a + n ≤ length cut.tree → AllByRecursion (λ code. has_code cut code ≡ true) (inner_among cut (range_with_len a n))
among-inside cut a zero few = tt
among-inside cut a (suc n) few =
    elim (not (length (children_within cut a) == 0)) as (λ b. not (length (children_within cut a) == 0) ≡ b → AllByRecursion (λ code. has_code cut code ≡ true) (cond b (a ∷ inner_among cut (range_with_len (a + 1) n)) (inner_among cut (range_with_len (a + 1) n)))) [
      | true ↦ λ some. (inner-has cut a (omega (arith, few)) some, among-inside cut (a + 1) n (omega (arith, few)))
      | false ↦ λ _. among-inside cut (a + 1) n (omega (arith, few))
    ] refl

parents-inside : (trees : List Tree) (table : List Dimension) → AllByRecursion (AreParents trees table) (choices (map inner_codes (trees_of trees table)))
parents-inside trees [] = (tt, tt)
parents-inside trees (dimension ∷ table) =
    let cut = cut_tree trees dimension in
    let rest = choices (map inner_codes (trees_of trees table)) in
    all-flat (AreParents trees (dimension ∷ table)) (λ one. map (λ others. one ∷ others) rest) (inner_codes cut)
    (all-more (λ code. has_code cut code ≡ true) (λ code. AllByRecursion (AreParents trees (dimension ∷ table)) (map (λ others. code ∷ others) rest)) (inner_codes cut)
    (λ code here. all-map (AreParents trees (dimension ∷ table)) (λ others. code ∷ others) rest
    (all-more (AreParents trees table) (λ others. AreParents trees (dimension ∷ table) (code ∷ others)) rest (λ others later. (here, later)) (parents-inside trees table)))
    (among-inside cut 0 (length cut.tree) (omega arith)))

-- a subtable of one of the tables
record IsSubtable (trees : List Tree) (tables : List (List Dimension)) (subtable : Subtable) : Type 0 where
  table : List Dimension
  stands : slice_get tables subtable.table ≡ Some table
  parents : AreParents trees table subtable.parents

from-subtables : (trees : List Tree) (tables before rest : List (List Dimension)) → tables ≡ before ++ rest → AllByRecursion (IsSubtable trees tables) (subtables_from trees (length before) rest)
from-subtables trees tables before [] is = tt
from-subtables trees tables before (table ∷ rest) is =
    let at : slice_index_or tables (length before) [] ≡ table = ap (λ all. get_or all (length before) []) is ∙ get_or-append_seam before table rest [] in
    let long : length tables ≡ length before + length (table ∷ rest) = ap (λ all. length all) is ∙ length-append before (table ∷ rest) in
    let stands : slice_get tables (length before) ≡ Some table = read-at tables (length before) [] (omega (arith, long)) ∙ ap Some at in
    let longer : length (before ++ table ∷ []) ≡ length before + 1 = length-append before (table ∷ []) in
    all-append (IsSubtable trees tables) (subtables_in (length before) (trees_of trees table)) (subtables_from trees (length before + 1) rest)
    (all-map (IsSubtable trees tables) (subtable_at (length before)) (choices (map inner_codes (trees_of trees table)))
    (all-more (AreParents trees table) (λ parents. IsSubtable trees tables (subtable_at (length before) parents)) (choices (map inner_codes (trees_of trees table)))
    (λ parents are. record { table = table; stands = stands; parents = are })
    (parents-inside trees table)))
    (subst (λ (t : ℕ). AllByRecursion (IsSubtable trees tables) (subtables_from trees t rest)) longer
    (from-subtables trees tables (before ++ table ∷ []) rest (is ∙ sym (append_assoc before (table ∷ []) rest))))

all-filter : {X : Type 0} (P : X → Type 0) (test : X → Bool) (xs : List X) → AllByRecursion P xs → AllByRecursion P (filter test xs)
all-filter P test [] all = tt
all-filter P test (x ∷ xs) (here, all) = elim (test x) as (λ b. AllByRecursion P (cond b (x ∷ filter test xs) (filter test xs))) [
  | true ↦ (here, all-filter P test xs all)
  | false ↦ all-filter P test xs all
]

all-each : {X : Type 0} (P : X → Type 0) (xs : List X) → ((x : X) → P x) → AllByRecursion P xs
all-each P [] each = tt
all-each P (x ∷ xs) each = (each x, all-each P xs each)

ordered-subtables : (trees : List Tree) (tables : List (List Dimension)) → AllByRecursion (IsSubtable trees tables) (ordered_subtables trees tables)
ordered-subtables trees tables =
    let depths = range_with_len 0 (most_depth + 1) in
    let all = subtables_from trees 0 tables in
    all-flat (IsSubtable trees tables) (λ depth. of_depth trees tables depth all) depths
    (all-each (λ depth. AllByRecursion (IsSubtable trees tables) (of_depth trees tables depth all)) depths
    (λ depth. all-filter (IsSubtable trees tables) (λ subtable. depth_of trees tables subtable == depth) all (from-subtables trees tables [] tables refl)))

-- ---- the cells of a subtable

code-inside : (cut : CutTree) → IsCodeTree cut.tree → (parent code : ℕ) → has_code cut parent ≡ true → is_code_in cut parent code ≡ true → has_code cut code ≡ true
code-inside cut is parent code inside h = by (code == parent) refl h
  where
    by : (same : Bool) → (code == parent) ≡ same → (same || is_child_within cut parent code) ≡ true → has_code cut code ≡ true
    by true is h = let equal : code ≡ parent = (Decides-eqb code parent).0 is in subst (λ (n : ℕ). has_code cut n ≡ true) (sym equal) inside
    by false apart h = let parts = both (goes_below cut parent) (is_child cut.tree parent code) h in child-in cut is parent code parts.0 parts.1

names-inside : (trees : List Tree) (name : Name) (table : List Dimension) (parents : List ℕ) → All IsCodeTree trees → has_unknown (length trees) table ≡ false → AreParents trees table parents
    → is_place_below trees table parents (map (λ (dimension : Dimension). slice_index name dimension.variable) table) ≡ true → AreInTrees trees name table parents
names-inside trees name [] [] good known are h = tt
names-inside trees name [] (parent ∷ parents) good known are h = absurd are
names-inside trees name (dimension ∷ table) [] good known are h = absurd are
names-inside trees name (dimension ∷ table) (parent ∷ parents) good known are h =
    let cut = cut_tree trees dimension in
    let code = slice_index name dimension.variable in
    let spanned = neither (nat_le (length trees) dimension.variable) (has_unknown (length trees) table) known in
    let below : dimension.variable < length trees = grind (arith, nat_tests, spanned.0) in
    let parts = both (is_code_in cut parent code) (is_place_below trees table parents (map (λ (one : Dimension). slice_index name one.variable) table)) h in
    (are.0, code-inside cut (good dimension.variable [] below) parent code are.0 parts.0, names-inside trees name table parents good spanned.1 are.1 parts.1)
  where
    neither : (a b : Bool) → (a || b) ≡ false → (a ≡ false) × (b ≡ false)
    neither true b h = absurd cc
    neither false b h = (refl, h)

-- ---- a cube that serves can be hidden

bears-open : (levels : Levels) (plus : Bool) (cell : Cell) → bears levels plus cell ≡ true → may_hide cell.kind ≡ true
bears-open levels plus cell h = by cell.kind _ h
  where
    by : (kind : Kind) (rest : Bool) → (not (is_fixed kind) && rest) ≡ true → may_hide kind ≡ true
    by Primary rest h = refl
    by Free rest h = refl
    by Fixed rest h = cc

serve-open : (members : List Cell) (levels : Levels) (corners : List Corner) → serve members levels corners ≡ true → AllByRecursion (MayHide members) (map (λ corner. corner.cell) corners)
serve-open members levels [] h = tt
serve-open members levels (corner ∷ corners) h =
    let parts = both (option_map_or (bears levels corner.plus) (slice_get members corner.cell) false) (list_all (λ corner. option_map_or (bears levels corner.plus) (slice_get members corner.cell) false) corners) h in
    (one (slice_get members corner.cell) refl parts.0, serve-open members levels corners parts.1)
  where
    one : (o : Option Cell) → slice_get members corner.cell ≡ o → option_map_or (bears levels corner.plus) o false ≡ true → MayHide members corner.cell
    one None is h = cc
    one (Some cell) is h = record { cell = cell; found = is; may = bears-open levels corner.plus cell h }

contained : {X : Type 0} (P : X → Type 0) (xs : List X) (x : X) → AllByRecursion P xs → Contains xs x → P x
contained {X = X} P xs x all has = by xs has.0 has.1 has.2 all
  where
    by : (ys : List X) (k : ℕ) → k < length ys → slice_index_or ys k x ≡ x → AllByRecursion P ys → P x
    by [] k within is all = absurd (omega (arith, within))
    by (y ∷ ys) zero within is all = subst P is all.0
    by (y ∷ ys) (suc k) within is all = by ys k (omega (arith, within)) is all.1

-- ---- steps

-- a least cube of a cell in a subtable makes a step with all its corners, which can be hidden
least-whole : (book : BookView) (members : List Cell) (subtable : Subtable) (cell : ℕ) (hidden : ℕ → Bool) (price : ℕ → ℕ) (levels : Levels) (corners : List Corner) → IsBook book → IsSubtable book.trees book.tables subtable
    → is_cell_of book subtable cell ≡ true → AreLeast (cell_at book subtable.table) hidden price members levels (cubes_in book subtable cell) corners → IsWholeStep book members (step_of subtable cell corners)
least-whole book members subtable cell hidden price levels corners is_book is_subtable is_cell least =
    let table = is_subtable.table in
    let name = slice_index_or (cells book) cell [] in
    let found : slice_index_or book.tables subtable.table [] ≡ table = read-some book.tables subtable.table table [] (sym is_subtable.stands) in
    let place = codes_at book (slice_index_or book.tables subtable.table []) cell in
    let below = both (is_place_below book.trees (slice_index_or book.tables subtable.table []) subtable.parents place) (option_map_or (λ one. one == cell) (cell_at book subtable.table place) false) is_cell in
    let below_table = subst (λ (variables : List Dimension). is_place_below book.trees variables subtable.parents (codes_at book variables cell) ≡ true) found below.0 in
    let sound : IsTable (length book.trees) table = all-at (IsTable (length book.trees)) book.tables subtable.table table is_book.tables is_subtable.stands in
    let inside : AreInTrees book.trees name table subtable.parents = names-inside book.trees name table subtable.parents is_book.trees sound.known is_subtable.parents below_table in
    let whole = cubes_are_whole book subtable.table table name subtable.parents is_book is_subtable.stands inside in
    let cube = contained (λ (one : List Edge). AreWhole (length table) (corners_of (cell_at book subtable.table) one)) (cubes_at book.trees name table subtable.parents) least.cube whole
    (subst (λ (variables : List Dimension). Contains (cubes_at book.trees name variables subtable.parents) least.cube) found least.one) in
    let mine : AreWhole (length table) corners = subst (λ (all : List Corner). AreWhole (length table) all) (sym least.theirs) cube in
    record {
      variables = table;
      table = is_subtable.stands;
      parents = parents-long book.trees table subtable.parents is_subtable.parents;
      all = length-map corners (λ corner. corner.cell) ∙ mine.all;
      ascending = mine.ascending;
      hideable = serve-open members levels corners least.served;
    }

cell-whole : (book : BookView) (members : List Cell) (cost : CostKind) (subtable : Subtable) (steps : List PlanStep) (cell : ℕ) → IsBook book → IsSubtable book.trees book.tables subtable
    → is_cell_of book subtable cell ≡ true → AllByRecursion (IsWholeStep book members) steps → AllByRecursion (IsWholeStep book members) (with_cell book members cost subtable steps cell)
cell-whole book members cost subtable steps cell is_book is_subtable is_cell all =
    by (least_of (cell_at book subtable.table) (hidden_after members steps) (price_in book members cost) members (levels_at members cell) (cubes_in book subtable cell))
    (least_is_first (cell_at book subtable.table) (hidden_after members steps) (price_in book members cost) members (levels_at members cell) (cubes_in book subtable cell))
  where
    by : (o : Option (List Corner)) → MatchOption o (NoneServes (cell_at book subtable.table) members (levels_at members cell) (cubes_in book subtable cell)) (AreLeast (cell_at book subtable.table) (hidden_after members steps) (price_in book members cost) members (levels_at members cell) (cubes_in book subtable cell))
        → AllByRecursion (IsWholeStep book members) (with_step (hidden_after members steps) subtable cell steps o)
    by None least = all
    by (Some corners) least = elim (list_any (λ corner. not (hidden_after members steps corner.cell)) corners) as (λ b. AllByRecursion (IsWholeStep book members) (if b then steps ++ step_of subtable cell corners ∷ [] else steps)) [
      | true ↦ all-append (IsWholeStep book members) steps (step_of subtable cell corners ∷ []) all
          (least-whole book members subtable cell (hidden_after members steps) (price_in book members cost) (levels_at members cell) corners is_book is_subtable is_cell least, tt)
      | false ↦ all
    ]

cells-whole : (book : BookView) (members : List Cell) (cost : CostKind) (subtable : Subtable) (among : List ℕ) (steps : List PlanStep) → IsBook book → IsSubtable book.trees book.tables subtable
    → AllByRecursion (λ cell. is_cell_of book subtable cell ≡ true) among → AllByRecursion (IsWholeStep book members) steps → AllByRecursion (IsWholeStep book members) (fold (with_cell book members cost subtable) steps among)
cells-whole book members cost subtable [] steps is_book is_subtable are all = all
cells-whole book members cost subtable (cell ∷ among) steps is_book is_subtable are all =
    cells-whole book members cost subtable among (with_cell book members cost subtable steps cell) is_book is_subtable are.1 (cell-whole book members cost subtable steps cell is_book is_subtable are.0 all)

among-are : (book : BookView) (hidden : ℕ → Bool) (subtable : Subtable) (among : List ℕ) → AllByRecursion (λ cell. is_cell_of book subtable cell ≡ true) (hidden_among book hidden subtable among)
among-are book hidden subtable [] = tt
among-are book hidden subtable (cell ∷ among) =
    elim (hidden cell && is_cell_of book subtable cell) as (λ b. (hidden cell && is_cell_of book subtable cell) ≡ b → AllByRecursion (λ one. is_cell_of book subtable one ≡ true) (cond b (cell ∷ hidden_among book hidden subtable among) (hidden_among book hidden subtable among))) [
      | true ↦ λ is. ((both (hidden cell) (is_cell_of book subtable cell) is).1, among-are book hidden subtable among)
      | false ↦ λ is. among-are book hidden subtable among
    ] refl

subtables-whole : (book : BookView) (members : List Cell) (cost : CostKind) (subtables : List Subtable) (steps : List PlanStep) → IsBook book → AllByRecursion (IsSubtable book.trees book.tables) subtables
    → AllByRecursion (IsWholeStep book members) steps → AllByRecursion (IsWholeStep book members) (fold (with_subtable book members cost) steps subtables)
subtables-whole book members cost [] steps is_book are all = all
subtables-whole book members cost (subtable ∷ subtables) steps is_book are all =
    subtables-whole book members cost subtables (with_subtable book members cost steps subtable) is_book are.1
    (cells-whole book members cost subtable (hidden_in book (hidden_after members steps) subtable) steps is_book are.0 (among-are book (hidden_after members steps) subtable (range_with_len 0 (length (cells book)))) all)

pub steps_are_whole : StepsAreWhole
steps_are_whole book members cost passes is_book =
    let subtables = ordered_subtables book.trees book.tables in
    subtables-whole book members cost (in_passes subtables (range_with_len 0 passes)) [] is_book
    (all-flat (IsSubtable book.trees book.tables) (λ pass. subtables) (range_with_len 0 passes)
    (all-each (λ pass. AllByRecursion (IsSubtable book.trees book.tables) subtables) (range_with_len 0 passes) (λ pass. ordered-subtables book.trees book.tables)))
    tt
