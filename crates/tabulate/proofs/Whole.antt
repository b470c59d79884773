-- What the cells of a book are given, table after table.
use Rattle.std.proofs.Common.{◌≡◌, ℕ, ◌+◌, ◌<◌, ◌≤◌, ◌==◌, ◌&&◌, nat_le, nat_lt, Bool, true, false, cond, List, [], ◌∷◌, ◌++◌, length, filter, replicate, slice_get, slice_index, slice_index_or, bytes_eq, if◌then◌else◌, Option, None, Some, is_some, All, refl, ap, sym, ◌∙◌, subst, arith, ◌⊎◌, inl, inr}
use Rattle.std.specs.Prelude.{IsPermutation}
use Rattle.std.specs.Option.{option_map_or}
use Rattle.std.proofs.lemmas.Bool.Decides.{nat_tests, Decides-eqb}
use Rattle.std.proofs.lemmas.List.{append-nil}
use Rattle.std.proofs.lemmas.List.Elements.{All-head, All-tail}
use Rattle.std.proofs.lemmas.List.Sorted.{IsPermutation-refl}
use Rattle.std.proofs.lemmas.Option.{slice_get_within, get_or_from_slice_get}
use Rattle.sdc_base.specs.Trees.{Tree, IsCodeTree, is_under}
use Rattle.sdc_base.specs.Records.{Name, falls_in, row_falls}
use Rattle.sdc_base.specs.Sums.{rows_in}
use Rattle.sdc_base.specs.Places.{count}
use Rattle.sdc_base.specs.CutTrees.{has_code, is_within}
use Rattle.sdc_base.specs.Cells.{cut_tree, is_named, named_by, spans}
use Rattle.sdc_base.specs.declared.dimension.Dimension.{Dimension}
use Rattle.sdc_base.specs.declared.rows.Row.{Row}
use Rattle.sdc_base.proofs.Walks.{count-none, under_is_tested}
use Rattle.sdc_base.proofs.CutTrees.{within-is}
use Rattle.sdc_base.proofs.InEach.{falls_where_under_in_each}
use Rattle.linked_tables.specs.BookViews.{BookView}
use Rattle.linked_tables.specs.Laws.{dimension_of}
use Rattle.linked_tables.specs.Tables.{has_twice}
use Rattle.linked_tables.specs.BookCells.{IsBook, IsTable, cells, cell_at, first_own}
use Rattle.linked_tables.proofs.CellLists.{starts-rise}
use Rattle.linked_tables.proofs.Sharing.{codes_at, dimension-is, dimension-spans, known-below, named-codes}
use Rattle.tabulate.specs.RecordsByPlace.{code_in_table, codes_for, dimensions_of, hits, is_at, rows_for, own_places}
use Rattle.tabulate.specs.UpperCells.{after_variables}
use Rattle.tabulate.proofs.Filters.{filter-same}
use Rattle.tabulate.proofs.Folded.{IsIn}
use Rattle.tabulate.proofs.Gathered.{HaveUnder, here, later, or-parts, same_all, under_all, variables-done, variables-out}
use Rattle.tabulate.proofs.Moving.{IsOwn, own-of}
use Rattle.tabulate.proofs.Standing.{cell-early, stands-once}

-- ---- falling in a cell is being under its code for each variable of a table that has it

under-total : (tree : Tree) → IsCodeTree tree → (code : ℕ) → code < length tree → is_under tree code 0 ≡ true
under-total tree is code within = let up = is.shallow code within in (under_is_tested tree is code 0 within).1 (up.0, up.2)

-- the code of a record that is in its tree is under a code of a table exactly where its code in the table is
in-table-under : (trees : List Tree) (codes : Name) (dimension : Dimension) (above : ℕ) → IsCodeTree (slice_index_or trees dimension.variable []) → is_within (cut_tree trees dimension) above ≡ true
    → is_under (slice_index_or trees dimension.variable []) (slice_index codes dimension.variable) above ≡ is_under (slice_index_or trees dimension.variable []) (code_in_table trees codes dimension) above
in-table-under trees codes dimension above good within = (within-is (cut_tree trees dimension) good (slice_index codes dimension.variable)).under above within

under-each : (trees : List Tree) (codes name : Name) (table : List Dimension) (variable : ℕ) (d : Dimension) → under_all trees codes name table ≡ true → dimension_of table variable ≡ Some d → is_under (slice_index_or trees d.variable []) (code_in_table trees codes d) (slice_index name d.variable) ≡ true
under-each trees codes name [] variable d all h = cc
under-each trees codes name (one ∷ table) variable d all h =
    let parts = both (is_under (slice_index_or trees one.variable []) (code_in_table trees codes one) (slice_index name one.variable)) (under_all trees codes name table) all in
    by (one.variable == variable) (λ rest. under-each trees codes name table variable d parts.1 rest) parts.0 h
  where
    both : (a b : Bool) → (a && b) ≡ true → (a ≡ true) × (b ≡ true)
    both true b h = (refl, h)
    both false b h = cc

    some-same : {x y : Dimension} → Some x ≡ Some y → x ≡ y
    some-same e = cc

    by : (b : Bool) → (dimension_of table variable ≡ Some d → is_under (slice_index_or trees d.variable []) (code_in_table trees codes d) (slice_index name d.variable) ≡ true)
        → is_under (slice_index_or trees one.variable []) (code_in_table trees codes one) (slice_index name one.variable) ≡ true → (if b then Some one else dimension_of table variable) ≡ Some d → is_under (slice_index_or trees d.variable []) (code_in_table trees codes d) (slice_index name d.variable) ≡ true
    by true rest first h = subst (λ (e : Dimension). is_under (slice_index_or trees e.variable []) (code_in_table trees codes e) (slice_index name e.variable) ≡ true) (some-same h) first
    by false rest first h = rest h

each-under : (trees : List Tree) (codes name : Name) (some : List Dimension) → has_twice some ≡ false
    → ((d : Dimension) → dimension_of some d.variable ≡ Some d → is_under (slice_index_or trees d.variable []) (code_in_table trees codes d) (slice_index name d.variable) ≡ true) → under_all trees codes name some ≡ true
each-under trees codes name [] once each = refl
each-under trees codes name (one ∷ some) once each =
    let parts = or-parts (spans some one.variable) (has_twice some) once in
    let first = each one (here one some) in
    let rest = each-under trees codes name some parts.1 (λ d h. each d (later one some parts.0 d h)) in
    rw (first, rest) refl

falls-under : (trees : List Tree) (codes name : Name) (table : List Dimension) → All IsCodeTree trees → IsTable (length trees) table → is_named (named_by trees table) name ≡ true → length name ≡ length trees → length codes ≡ length trees
    → ((variable : ℕ) → variable < length trees → slice_index codes variable < length (slice_index_or trees variable [])) → falls_in trees name codes ≡ under_all trees codes name table
falls-under trees codes name table each sound given long coded inside = by (under_all trees codes name table) refl
  where
    second : (a b : Bool) → (a && b) ≡ true → b ≡ true
    second true b h = h
    second false b h = cc

    -- for a variable that the table spans the record's code is under the name's where its code in the table is
    spanned : (d : Dimension) → d.variable < length trees → has_code (cut_tree trees d) (slice_index name d.variable) ≡ true
        → is_under (slice_index_or trees d.variable []) (slice_index codes d.variable) (slice_index name d.variable) ≡ is_under (slice_index_or trees d.variable []) (code_in_table trees codes d) (slice_index name d.variable)
    spanned d below has = in-table-under trees codes d (slice_index name d.variable) (each d.variable [] below) (second (nat_lt (slice_index name d.variable) (length (slice_index_or trees d.variable []))) (is_within (cut_tree trees d) (slice_index name d.variable)) has)

    whole : under_all trees codes name table ≡ true → (variable : ℕ) → variable < length trees → is_under (slice_index_or trees variable []) (slice_index codes variable) (slice_index name variable) ≡ true
    whole all variable below = split (dimension_of table variable) refl (named-codes trees table name given variable below)
      where
        split : (found : Option Dimension) → dimension_of table variable ≡ found → option_map_or (λ d. has_code (cut_tree trees d) (slice_index name variable)) found (slice_index name variable == 0) ≡ true → is_under (slice_index_or trees variable []) (slice_index codes variable) (slice_index name variable) ≡ true
        split (Some d) at good =
            let same = dimension-is table variable d at in
            let has : has_code (cut_tree trees d) (slice_index name d.variable) ≡ true = ap (λ v. has_code (cut_tree trees d) (slice_index name v)) same ∙ good in
            let under : d.variable < length trees = subst (λ v. v < length trees) (sym same) below in
            subst (λ v. is_under (slice_index_or trees v []) (slice_index codes v) (slice_index name v) ≡ true) same (spanned d under has ∙ under-each trees codes name table variable d all at)
        split None at good =
            let none : slice_index name variable ≡ 0 = (Decides-eqb (slice_index name variable) 0).0 good in
            ap (is_under (slice_index_or trees variable []) (slice_index codes variable)) none ∙ under-total (slice_index_or trees variable []) (each variable [] below) (slice_index codes variable) (inside variable below)

    back : falls_in trees name codes ≡ true → under_all trees codes name table ≡ true
    back falls =
        each-under trees codes name table sound.once (λ d its.
        let below = known-below (length trees) table d.variable sound.known (sym (dimension-spans table d.variable) ∙ ap is_some its) in
        let has : has_code (cut_tree trees d) (slice_index name d.variable) ≡ true = ap (λ (found : Option Dimension). option_map_or (λ one. has_code (cut_tree trees one) (slice_index name d.variable)) found (slice_index name d.variable == 0)) (sym its) ∙ named-codes trees table name given d.variable below in
        sym (spanned d below has) ∙ (falls_where_under_in_each trees name codes long coded).0 falls d.variable below)

    never : (b : Bool) → falls_in trees name codes ≡ b → under_all trees codes name table ≡ false → falls_in trees name codes ≡ false
    never true h apart = let all = back h in cc
    never false h apart = h

    by : (b : Bool) → under_all trees codes name table ≡ b → falls_in trees name codes ≡ under_all trees codes name table
    by true h = (falls_where_under_in_each trees name codes long coded).1 (whole h) ∙ sym h
    by false h = never (falls_in trees name codes) refl h ∙ sym h

-- ---- a record goes once to each cell of its own in which it falls

-- the record is one of these trees
pub record IsOf (trees : List Tree) (row : Row) : Type 0 where
  pub coded : length row.codes ≡ length trees
  pub inside : (variable : ℕ) → variable < length trees → slice_index row.codes variable < length (slice_index_or trees variable [])

pub spanned-is : (book : BookView) (t : ℕ) (table : List Dimension) → slice_get book.tables t ≡ Some table → dimensions_of book t ≡ table
spanned-is book t table at = ap (λ found. option_map_or (λ one. one) found []) at

-- a record is given to the cell that has its codes in the table, and to no other
same-codes : (trees : List Tree) (codes name : Name) (table : List Dimension) → bytes_eq (codes_for trees codes table) (codes_at name table) ≡ same_all trees codes name table
same-codes trees codes name [] = refl
same-codes trees codes name (dimension ∷ table) = ap (λ b. (code_in_table trees codes dimension == slice_index name dimension.variable) && b) (same-codes trees codes name table)

hit-once : (book : BookView) (t first cell : ℕ) (table : List Dimension) (name : Name) (row : Row) → IsTable (length book.trees) table → slice_get book.tables t ≡ Some table → slice_get (cells book) cell ≡ Some name → first ≤ cell
    → is_named (named_by book.trees table) name ≡ true → hits book t first (own_places book t row) cell ≡ (if same_all book.trees row.codes name table then 1 else 0)
hit-once book t first cell table name row sound at named late given =
    ap (λ one. count (λ place. is_at book t first place cell) (codes_for book.trees row.codes one ∷ [])) (spanned-is book t table at)
    ∙ ap (λ b. (if b then 1 else 0) + 0) (stands-once book t first cell table name (codes_for book.trees row.codes table) at sound named late given ∙ same-codes book.trees row.codes name table)
    ∙ whole (same_all book.trees row.codes name table)
  where
    whole : (b : Bool) → (if b then 1 else 0) + 0 ≡ (if b then 1 else 0)
    whole true = omega arith
    whole false = omega arith

-- the rows that a cell is given are those that fall in it
rows-once : (book : BookView) (t first cell : ℕ) (falls : Row → Bool) (rows : List Row) → ((row : Row) → IsOf book.trees row → hits book t first (own_places book t row) cell ≡ (if falls row then 1 else 0)) → All (IsOf book.trees) rows → rows_for book t first rows cell ≡ filter falls rows
rows-once book t first cell falls [] each good = refl
rows-once book t first cell falls (row ∷ rows) each good =
    let here = each row (All-head (IsOf book.trees) row rows good) in
    let rest = rows-once book t first cell falls rows each (All-tail (IsOf book.trees) row rows good) in
    ap (λ n. replicate n row ++ rows_for book t first rows cell) here
    ∙ ap (λ more. replicate (if falls row then 1 else 0) row ++ more) rest
    ∙ elim (falls row) as (λ b. replicate (if b then 1 else 0) row ++ filter falls rows ≡ cond b (row ∷ filter falls rows) (filter falls rows)) [ true ↦ refl | false ↦ refl ]

-- no rows for a cell that stands at no place
rows-never : (book : BookView) (t first cell : ℕ) (rows : List Row) → ((place : List ℕ) → is_at book t first place cell ≡ false) → rows_for book t first rows cell ≡ []
rows-never book t first cell [] none = refl
rows-never book t first cell (row ∷ rows) none =
    ap (λ n. replicate n row ++ rows_for book t first rows cell) (count-none (λ place. is_at book t first place cell) (own_places book t row) none) ∙ rows-never book t first cell rows none

never-early : (book : BookView) (t first cell : ℕ) (place : List ℕ) → cell < first → is_at book t first place cell ≡ false
never-early book t first cell place early = by (cell_at book t place)
  where
    by : (found : Option ℕ) → option_map_or (λ one. one == cell && nat_le first one) found false ≡ false
    by None = refl
    by (Some one) = grind (arith, nat_tests)

never-late : (book : BookView) (t first cell : ℕ) (place : List ℕ) → first_own book (t + 1) ≤ cell → is_at book t first place cell ≡ false
never-late book t first cell place late = by (cell_at book t place) refl
  where
    by : (found : Option ℕ) → cell_at book t place ≡ found → option_map_or (λ one. one == cell && nat_le first one) found false ≡ false
    by None is = refl
    by (Some one) is =
        let early = cell-early book t one place is in
        let test : (one == cell) ≡ false = grind (arith, nat_tests) in
        rw test refl

-- ---- table after table

-- what a cell was given by the first t tables
abbrev pub given_to : BookView → List Row → ℕ → ℕ → List Row
given_to book rows t cell = if nat_lt cell (first_own book t) then rows_in book.trees (slice_index_or (cells book) cell []) rows else []

-- what the cells have, once the records were given to the cells with their very codes
abbrev pub placed_in : BookView → List Row → ℕ → ℕ → List Row
placed_in book rows t cell = given_to book rows t cell ++ rows_for book t (first_own book t) rows cell

pub given-next : (book : BookView) (rows : List Row) (t : ℕ) (table : List Dimension) (cell : ℕ) (name : Name) → IsBook book → All (IsOf book.trees) rows → slice_get book.tables t ≡ Some table → slice_get (cells book) cell ≡ Some name → length name ≡ length book.trees
    → IsPermutation (after_variables book (first_own book t) (first_own book (t + 1)) table (placed_in book rows t) cell) (given_to book rows (t + 1) cell)
given-next book rows t table cell name is good at named long = by (below cell (first_own book t)) (below cell (first_own book (t + 1)))
  where
    below : (a b : ℕ) → (a < b) ⊎ (b ≤ a)
    below a b = grind arith

    rise : first_own book t ≤ first_own book (t + 1)
    rise = starts-rise book.trees book.tables t

    name-at : slice_index_or (cells book) cell [] ≡ name
    name-at = get_or_from_slice_get (cells book) cell name [] named

    sound : IsTable (length book.trees) table
    sound = subst (IsTable (length book.trees)) (get_or_from_slice_get book.tables t table [] at) (is.tables t [] (slice_get_within book.tables t table at))

    inside : (dimension : Dimension) → dimension_of table dimension.variable ≡ Some dimension → All (IsIn book dimension) rows
    inside dimension h = λ k d within. (good k d within).inside dimension.variable (known-below (length book.trees) table dimension.variable sound.known (sym (dimension-spans table dimension.variable) ∙ ap is_some h))

    start : HaveUnder book t rows [] table (placed_in book rows t)
    start own other top =
        let late = top.late in
        let here : nat_lt own (first_own book t) ≡ false = grind (arith, nat_tests, late) in
        let one = own-of book t own table other at top in
        let each = rows-once book t (first_own book t) own (λ row. same_all book.trees row.codes other table) rows (λ row fits. hit-once book t (first_own book t) own table other row sound at top.at top.late one) good in
        let all : placed_in book rows t own ≡ filter (λ row. true && same_all book.trees row.codes other table) rows = ap (λ b. (if b then rows_in book.trees (slice_index_or (cells book) own []) rows else []) ++ rows_for book t (first_own book t) rows own) here ∙ each in
        subst (λ some. IsPermutation some (filter (λ row. true && same_all book.trees row.codes other table) rows)) (sym all) (IsPermutation-refl (filter (λ row. true && same_all book.trees row.codes other table) rows))

    done : IsOwn book t cell name → IsPermutation (after_variables book (first_own book t) (first_own book (t + 1)) table (placed_in book rows t) cell) (filter (row_falls book.trees name) rows)
    done top =
        subst (IsPermutation (after_variables book (first_own book t) (first_own book (t + 1)) table (placed_in book rows t) cell))
        (filter-same (IsOf book.trees) (λ row. under_all book.trees row.codes name table && true) (row_falls book.trees name)
        (λ row fits. whole (under_all book.trees row.codes name table) ∙ sym (falls-under book.trees row.codes name table is.trees sound (own-of book t cell table name at top) long fits.coded fits.inside)) rows good)
        (variables-done book t table is at rows inside table [] (placed_in book rows t) (λ d h. h) sound.once (λ variable h. refl) start cell name top)
      where
        whole : (b : Bool) → (b && true) ≡ b
        whole true = refl
        whole false = refl

    out : (cell < first_own book t) ⊎ (first_own book (t + 1) ≤ cell) → after_variables book (first_own book t) (first_own book (t + 1)) table (placed_in book rows t) cell ≡ placed_in book rows t cell
    out h = variables-out book t table is at rows inside table (placed_in book rows t) cell (λ d h. h) sound.once h

    by : (cell < first_own book t) ⊎ (first_own book t ≤ cell) → (cell < first_own book (t + 1)) ⊎ (first_own book (t + 1) ≤ cell) → IsPermutation (after_variables book (first_own book t) (first_own book (t + 1)) table (placed_in book rows t) cell) (given_to book rows (t + 1) cell)
    by (inl early) other =
        let here : nat_lt cell (first_own book t) ≡ true = grind (arith, nat_tests) in
        let next : nat_lt cell (first_own book (t + 1)) ≡ true = grind (arith, nat_tests, rise) in
        let none = rows-never book t (first_own book t) cell rows (λ place. never-early book t (first_own book t) cell place early) in
        let same : given_to book rows (t + 1) cell ≡ placed_in book rows t cell = rw (here, next, none) (sym (append-nil (rows_in book.trees (slice_index_or (cells book) cell []) rows))) in
        subst (λ some. IsPermutation some (given_to book rows (t + 1) cell)) (same ∙ sym (out (inl early))) (IsPermutation-refl (given_to book rows (t + 1) cell))
    by (inr late) (inl early) =
        let next : nat_lt cell (first_own book (t + 1)) ≡ true = grind (arith, nat_tests) in
        let same : filter (row_falls book.trees name) rows ≡ given_to book rows (t + 1) cell = rw next (ap (λ n. rows_in book.trees n rows) (sym name-at)) in
        subst (IsPermutation (after_variables book (first_own book t) (first_own book (t + 1)) table (placed_in book rows t) cell)) same (done (record { at = named; late = late; early = early }))
    by (inr late) (inr past) =
        let here : nat_lt cell (first_own book t) ≡ false = grind (arith, nat_tests) in
        let next : nat_lt cell (first_own book (t + 1)) ≡ false = grind (arith, nat_tests) in
        let none = rows-never book t (first_own book t) cell rows (λ place. never-late book t (first_own book t) cell place past) in
        let same : given_to book rows (t + 1) cell ≡ placed_in book rows t cell = rw (here, next, none) refl in
        subst (λ some. IsPermutation some (given_to book rows (t + 1) cell)) (same ∙ sym (out (inr past))) (IsPermutation-refl (given_to book rows (t + 1) cell))
