-- What cells have once all passed on what they have, for one variable after another.
use Rattle.std.proofs.Common.{◌≡◌, ℕ, zero, suc, ◌+◌, ◌-◌, ◌<◌, ◌≤◌, ◌==◌, ◌&&◌, ◌||◌, nat_le, Bool, true, false, List, [], ◌∷◌, ◌++◌, filter, length, take, slice_get, slice_set, slice_index, slice_index_or, if◌then◌else◌, Option, None, Some, is_some, All, refl, ap, sym, ◌∙◌, subst, arith, append_assoc, ◌⊎◌, inl, inr}
use Rattle.std.specs.Prelude.{IsPermutation}
use Rattle.std.specs.Option.{option_map_or, option_and_then}
use Rattle.std.proofs.lemmas.Bool.Decides.{nat_tests, Decides-eqb}
use Rattle.std.proofs.lemmas.List.{get_or-set_other, append-nil}
use Rattle.std.proofs.lemmas.List.Folds.{list_any-append}
use Rattle.std.proofs.lemmas.List.Sorted.{IsPermutation-trans, IsPermutation-append}
use Rattle.std.proofs.lemmas.Option.{slice_get_within, get_or_from_slice_get}
use Rattle.std.specs.Str.{bytes_eq}
use Rattle.sdc_base.specs.Trees.{Tree, IsCodeTree, is_under, parent_at}
use Rattle.sdc_base.specs.Records.{Name}
use Rattle.sdc_base.specs.Places.{first_place}
use Rattle.sdc_base.specs.Cells.{cells_of, named_by, is_named, spans}
use Rattle.sdc_base.specs.declared.dimension.Dimension.{Dimension}
use Rattle.sdc_base.specs.declared.rows.Row.{Row}
use Rattle.sdc_base.proofs.FirstNames.{all_named}
use Rattle.linked_tables.specs.BookViews.{BookView}
use Rattle.linked_tables.specs.Laws.{dimension_of}
use Rattle.linked_tables.specs.Tables.{has_twice}
use Rattle.linked_tables.specs.BookCells.{IsBook, IsTable, cells, first_own, number_of}
use Rattle.linked_tables.proofs.CellLists.{starts-within}
use Rattle.linked_tables.proofs.Sharing.{dimension-spans, known-below, named-codes}
use Rattle.linked_tables.proofs.TableSteps.{cells-next}
use Rattle.tabulate.specs.RecordsByPlace.{code_in_table}
use Rattle.tabulate.specs.UpperCells.{after_cells, after_variables, goes_to, after_cell, upper_of}
use Rattle.tabulate.proofs.Filters.{filter-joined, filter-same}
use Rattle.tabulate.proofs.Folded.{HaveCome, IsIn, came, code_of, came-more, came-none, came-same, came-whole, lift}
use Rattle.tabulate.proofs.Moving.{IsOwn, moved-named, own-of, parent-fits}
use Rattle.tabulate.proofs.Standing.{found-early, front-cells}

pub item-at : {X : Type 0} (xs : List X) (k : ℕ) → k < length xs → (x : X) × (slice_get xs k ≡ Some x)
item-at [] k h = absurd (omega (arith, h))
item-at (x ∷ xs) zero h = (x, refl)
item-at (x ∷ xs) (suc k) h = item-at xs k (omega (arith, h))

module _ (book : BookView) (t : ℕ) (table : List Dimension) (dimension : Dimension) (is : IsBook book) (at : slice_get book.tables t ≡ Some table) (its : dimension_of table dimension.variable ≡ Some dimension) where
  sound : IsTable (length book.trees) table
  sound = subst (IsTable (length book.trees)) (get_or_from_slice_get book.tables t table [] at) (is.tables t [] (slice_get_within book.tables t table at))

  known : dimension.variable < length book.trees
  known = known-below (length book.trees) table dimension.variable sound.known (sym (dimension-spans table dimension.variable) ∙ ap is_some its)

  named-cell : (cell : ℕ) → first_own book t ≤ cell → cell < first_own book (t + 1) → (name : Name) × IsOwn book t cell name
  named-cell cell late early =
      let within = starts-within book.trees book.tables (t + 1) in
      let one = item-at (cells book) cell (omega (arith, early, within)) in
      (one.0, record { at = one.1; late = late; early = early })

  -- ---- cells that are not the table's own stay as they are

  number-early : (name : Name) (number : ℕ) → is_named (named_by book.trees table) name ≡ true → number_of book name ≡ Some number → number < first_own book (t + 1)
  number-early name number named found =
      let front = front-cells book (t + 1) in
      let among : is_named (cells_of book.trees (take (t + 1) book.tables)) name ≡ true =
      ap (λ ns. is_named ns name) (cells-next book.trees book.tables t table at)
      ∙ all_named (cells_of book.trees (take t book.tables)) (named_by book.trees table) name
      ∙ ap (λ b. is_named (cells_of book.trees (take t book.tables)) name || b) named
      ∙ either (is_named (cells_of book.trees (take t book.tables)) name)
      in
      found-early (cells_of book.trees (take (t + 1) book.tables)) front.0 name number among (ap (first_place (bytes_eq name)) (sym front.1) ∙ found)
    where
      either : (b : Bool) → (b || true) ≡ true
      either true = refl
      either false = refl

  upper-early : (lower upper : ℕ) (name : Name) → IsOwn book t lower name → upper_of book dimension.variable lower ≡ Some upper → upper < first_own book (t + 1)
  upper-early lower upper name own found =
      by (parent_at (slice_index_or book.trees dimension.variable []) (slice_index name dimension.variable)) refl
      (ap (λ o. option_and_then (λ name. option_and_then (λ parent. number_of book (slice_set name dimension.variable parent)) (parent_at (slice_index_or book.trees dimension.variable []) (slice_index name dimension.variable))) o) (sym own.at) ∙ found)
    where
      good : IsCodeTree (slice_index_or book.trees dimension.variable [])
      good = is.trees dimension.variable [] known

      by : (met : Option ℕ) → parent_at (slice_index_or book.trees dimension.variable []) (slice_index name dimension.variable) ≡ met → option_and_then (λ parent. number_of book (slice_set name dimension.variable parent)) met ≡ Some upper → upper < first_own book (t + 1)
      by None up h = cc
      by (Some parent) up h =
          let fits = parent-fits book.trees table dimension.variable (slice_index name dimension.variable) parent good up (named-codes book.trees table name (own-of book t lower table name at own) dimension.variable known) in
          number-early (slice_set name dimension.variable parent) upper (moved-named book.trees table name dimension.variable parent sound (own-of book t lower table name at own) fits) h

  stays-out : (lower other : ℕ) (name : Name) → IsOwn book t lower name → (other < first_own book t) ⊎ (first_own book (t + 1) ≤ other) → goes_to book dimension.variable (first_own book t) lower other ≡ false
  stays-out lower other name own out = by (upper_of book dimension.variable lower) refl
    where
      by : (found : Option ℕ) → upper_of book dimension.variable lower ≡ found → option_map_or (λ upper. upper == other && nat_le (first_own book t) upper) found false ≡ false
      by None met = refl
      by (Some upper) met = let early = upper-early lower upper name own met in which out early
        where
          which : (other < first_own book t) ⊎ (first_own book (t + 1) ≤ other) → upper < first_own book (t + 1) → (upper == other && nat_le (first_own book t) upper) ≡ false
          which (inl low) early = grind (arith, nat_tests, low)
          which (inr high) early = let test : (upper == other) ≡ false = grind (arith, nat_tests, high, early) in rw test refl

  -- the cell that is the n-th from the last
  turn : (n : ℕ) → n + 1 ≤ first_own book (t + 1) - first_own book t → (name : Name) × IsOwn book t (first_own book (t + 1) - (n + 1)) name
  turn n h = named-cell (first_own book (t + 1) - (n + 1)) (omega (arith, h)) (omega (arith, h))

  pub cells-out : (n : ℕ) (given : ℕ → List Row) (other : ℕ) → n ≤ first_own book (t + 1) - first_own book t → (other < first_own book t) ⊎ (first_own book (t + 1) ≤ other)
      → after_cells book dimension.variable (first_own book t) (first_own book (t + 1)) n given other ≡ given other
  cells-out zero given other h out = refl
  cells-out (suc n) given other h out =
      let one = turn n (omega (arith, h)) in
      let before = after_cells book dimension.variable (first_own book t) (first_own book (t + 1)) n given in
      ap (λ (b : Bool). if b then before other ++ before (first_own book (t + 1) - (n + 1)) else before other) (stays-out (first_own book (t + 1) - (n + 1)) other one.0 one.1 out)
      ∙ cells-out n given other (omega (arith, h)) out

  -- ---- the own cells get what comes to them

  module _ (test : Name → Row → Bool) (free : (name : Name) (code : ℕ) (row : Row) → test (slice_set name dimension.variable code) row ≡ test name row) (rows : List Row) (inside : All (IsIn book dimension) rows) where
    one-more : (lower : ℕ) (name : Name) (given : ℕ → List Row) → IsOwn book t lower name → HaveCome book t dimension test rows (lower + 1) given → HaveCome book t dimension test rows lower (after_cell book dimension.variable (first_own book t) lower given)
    one-more lower name given own have upper other top = by (goes_to book dimension.variable (first_own book t) lower upper) refl
      where
        join : (a b c d : Bool) → d ≡ (b || c) → (a && d) ≡ ((a && b) || (a && c))
        join true b c d e = e
        join false b c d e = refl

        apart : (a b c : Bool) → (b && c) ≡ false → ((a && b) && (a && c)) ≡ false
        apart true b c e = e
        apart false b c e = refl

        by : (b : Bool) → goes_to book dimension.variable (first_own book t) lower upper ≡ b → IsPermutation (if b then given upper ++ given lower else given upper) (filter (λ row. test other row && came book dimension lower other row) rows)
        by true goes =
            let lifted = lift book t table dimension is at its lower upper name other own top goes in
            let same : (row : Row) → test name row ≡ test other row = λ row. sym (ap (λ n. test n row) lifted.raised ∙ free name (slice_index other dimension.variable) row) in
            IsPermutation-trans (given upper ++ given lower) (filter (λ row. test other row && came book dimension (lower + 1) other row) rows ++ filter (λ row. test name row && came book dimension (lower + 1) name row) rows) _
            (IsPermutation-append (given upper) (filter (λ row. test other row && came book dimension (lower + 1) other row) rows) (given lower) (filter (λ row. test name row && came book dimension (lower + 1) name row) rows) (have upper other top) (have lower name own))
            (filter-joined (IsIn book dimension) (λ row. test other row && came book dimension (lower + 1) other row) (λ row. test name row && came book dimension (lower + 1) name row) (λ row. test other row && came book dimension lower other row)
            (λ row within. join (test other row) (came book dimension (lower + 1) other row) (came book dimension (lower + 1) name row) (came book dimension lower other row) (came-more book t table dimension is at its lower upper name other row own top lifted within).0
            ∙ ap (λ b. (test other row && came book dimension (lower + 1) other row) || (b && came book dimension (lower + 1) name row)) (sym (same row)))
            (λ row within. ap (λ b. (test other row && came book dimension (lower + 1) other row) && (b && came book dimension (lower + 1) name row)) (same row)
            ∙ apart (test other row) (came book dimension (lower + 1) other row) (came book dimension (lower + 1) name row) (came-more book t table dimension is at its lower upper name other row own top lifted within).1)
            rows inside)
        by false goes =
            subst (IsPermutation (given upper)) (filter-same (IsIn book dimension) (λ row. test other row && came book dimension (lower + 1) other row) (λ row. test other row && came book dimension lower other row)
            (λ row within. ap (λ b. test other row && b) (sym (came-same book t table dimension is at its lower upper name other row own top goes))) rows inside) (have upper other top)

    all-cells : (n : ℕ) (given : ℕ → List Row) → n ≤ first_own book (t + 1) - first_own book t → HaveCome book t dimension test rows (first_own book (t + 1)) given
        → HaveCome book t dimension test rows (first_own book (t + 1) - n) (after_cells book dimension.variable (first_own book t) (first_own book (t + 1)) n given)
    all-cells zero given h have = let none : first_own book (t + 1) ≡ first_own book (t + 1) - 0 = omega arith in subst (λ c. HaveCome book t dimension test rows c given) none have
    all-cells (suc n) given h have =
        let one = turn n (omega (arith, h)) in
        let next : first_own book (t + 1) - n ≡ (first_own book (t + 1) - (n + 1)) + 1 = omega (arith, h) in
        let before : HaveCome book t dimension test rows ((first_own book (t + 1) - (n + 1)) + 1) (after_cells book dimension.variable (first_own book t) (first_own book (t + 1)) n given) =
        subst (λ c. HaveCome book t dimension test rows c (after_cells book dimension.variable (first_own book t) (first_own book (t + 1)) n given)) next (all-cells n given (omega (arith, h)) have)
        in
        let whole : first_own book (t + 1) - (n + 1) ≡ first_own book (t + 1) - suc n = omega arith in
        subst (λ c. HaveCome book t dimension test rows c (after_cell book dimension.variable (first_own book t) (first_own book (t + 1) - (n + 1)) (after_cells book dimension.variable (first_own book t) (first_own book (t + 1)) n given))) whole
        (one-more (first_own book (t + 1) - (n + 1)) one.0 (after_cells book dimension.variable (first_own book t) (first_own book (t + 1)) n given) one.1 before)

    -- for one variable: from the records with the very code to those with a code under it
    pub variable-done : (given : ℕ → List Row) → ((own : ℕ) (name : Name) → IsOwn book t own name → IsPermutation (given own) (filter (λ row. test name row && (code_of book dimension row == slice_index name dimension.variable)) rows))
        → (own : ℕ) (name : Name) → IsOwn book t own name
        → IsPermutation (after_cells book dimension.variable (first_own book t) (first_own book (t + 1)) (first_own book (t + 1) - first_own book t) given own) (filter (λ row. test name row && is_under (slice_index_or book.trees dimension.variable []) (code_of book dimension row) (slice_index name dimension.variable)) rows)
    variable-done given start own name top =
        let first : HaveCome book t dimension test rows (first_own book (t + 1)) given = λ cell other here.
        subst (IsPermutation (given cell)) (filter-same (IsIn book dimension) (λ row. test other row && (code_of book dimension row == slice_index other dimension.variable)) (λ row. test other row && came book dimension (first_own book (t + 1)) other row)
        (λ row within. ap (λ b. test other row && b) (sym (came-none book t table dimension is at its cell other row here))) rows inside) (start cell other here)
        in
        let last = all-cells (first_own book (t + 1) - first_own book t) given (omega arith) first own name top in
        let late = top.late in
        let early = top.early in
        subst (IsPermutation (after_cells book dimension.variable (first_own book t) (first_own book (t + 1)) (first_own book (t + 1) - first_own book t) given own))
        (filter-same (IsIn book dimension) (λ row. test name row && came book dimension (first_own book (t + 1) - (first_own book (t + 1) - first_own book t)) name row) (λ row. test name row && is_under (slice_index_or book.trees dimension.variable []) (code_of book dimension row) (slice_index name dimension.variable))
        (λ row within. ap (λ b. test name row && b) (came-whole book t table dimension is at its (first_own book (t + 1) - (first_own book (t + 1) - first_own book t)) own name row top (λ number h. omega (arith, h, late, early)) within)) rows inside)
        last

-- ---- variable after variable

-- each of the record's codes in a table is under the name's, for these variables of the table
abbrev pub under_all : List Tree → Name → Name → List Dimension → Bool
under_all trees codes name [] = true
under_all trees codes name (dimension ∷ table) =
    is_under (slice_index_or trees dimension.variable []) (code_in_table trees codes dimension) (slice_index name dimension.variable) && under_all trees codes name table

-- each of them is the name's
abbrev pub same_all : List Tree → Name → Name → List Dimension → Bool
same_all trees codes name [] = true
same_all trees codes name (dimension ∷ table) = (code_in_table trees codes dimension == slice_index name dimension.variable) && same_all trees codes name table

pub or-parts : (a b : Bool) → (a || b) ≡ false → (a ≡ false) × (b ≡ false)
or-parts true b h = cc
or-parts false b h = (refl, h)

read-other : (name : Name) (variable one code : ℕ) → (one == variable) ≡ false → slice_index (slice_set name variable code) one ≡ slice_index name one
read-other name variable one code apart = get_or-set_other name variable one code 0 (λ same. let met : (one == variable) ≡ true = (Decides-eqb one variable).1 same in cc)

under-free : (trees : List Tree) (codes name : Name) (variable code : ℕ) (table : List Dimension) → spans table variable ≡ false → under_all trees codes (slice_set name variable code) table ≡ under_all trees codes name table
under-free trees codes name variable code [] h = refl
under-free trees codes name variable code (one ∷ table) h =
    let parts = or-parts (one.variable == variable) (spans table variable) h in
    ap (λ c. is_under (slice_index_or trees one.variable []) (code_in_table trees codes one) c && under_all trees codes (slice_set name variable code) table) (read-other name variable one.variable code parts.0)
    ∙ ap (λ b. is_under (slice_index_or trees one.variable []) (code_in_table trees codes one) (slice_index name one.variable) && b) (under-free trees codes name variable code table parts.1)

same-free : (trees : List Tree) (codes name : Name) (variable code : ℕ) (table : List Dimension) → spans table variable ≡ false → same_all trees codes (slice_set name variable code) table ≡ same_all trees codes name table
same-free trees codes name variable code [] h = refl
same-free trees codes name variable code (one ∷ table) h =
    let parts = or-parts (one.variable == variable) (spans table variable) h in
    ap (λ c. (code_in_table trees codes one == c) && same_all trees codes (slice_set name variable code) table) (read-other name variable one.variable code parts.0)
    ∙ ap (λ b. (code_in_table trees codes one == slice_index name one.variable) && b) (same-free trees codes name variable code table parts.1)

under-more : (trees : List Tree) (codes name : Name) (done : List Dimension) (dimension : Dimension)
    → under_all trees codes name (done ++ dimension ∷ []) ≡ (under_all trees codes name done && is_under (slice_index_or trees dimension.variable []) (code_in_table trees codes dimension) (slice_index name dimension.variable))
under-more trees codes name [] dimension = last (is_under (slice_index_or trees dimension.variable []) (code_in_table trees codes dimension) (slice_index name dimension.variable))
  where
    last : (b : Bool) → (b && true) ≡ b
    last true = refl
    last false = refl
under-more trees codes name (one ∷ done) dimension =
    ap (λ b. is_under (slice_index_or trees one.variable []) (code_in_table trees codes one) (slice_index name one.variable) && b) (under-more trees codes name done dimension)
    ∙ joined (is_under (slice_index_or trees one.variable []) (code_in_table trees codes one) (slice_index name one.variable)) (under_all trees codes name done) (is_under (slice_index_or trees dimension.variable []) (code_in_table trees codes dimension) (slice_index name dimension.variable))
  where
    joined : (a b c : Bool) → (a && (b && c)) ≡ ((a && b) && c)
    joined true b c = refl
    joined false b c = refl

-- what the own cells have, where these variables are done and those are left
abbrev pub HaveUnder : BookView → ℕ → List Row → List Dimension → List Dimension → (ℕ → List Row) → Type 0
HaveUnder book t rows done left given = (own : ℕ) (name : Name) → IsOwn book t own name → IsPermutation (given own) (filter (λ row. under_all book.trees row.codes name done && same_all book.trees row.codes name left) rows)

-- these are dimensions of the table
abbrev pub AreOf : List Dimension → List Dimension → Type 0
AreOf table left = (d : Dimension) → dimension_of left d.variable ≡ Some d → dimension_of table d.variable ≡ Some d

pub here : (dimension : Dimension) (left : List Dimension) → dimension_of (dimension ∷ left) dimension.variable ≡ Some dimension
here dimension left = let same : (dimension.variable == dimension.variable) ≡ true = (Decides-eqb dimension.variable dimension.variable).1 refl in ap (λ b. if b then Some dimension else dimension_of left dimension.variable) same

pub later : (dimension : Dimension) (left : List Dimension) → spans left dimension.variable ≡ false → (d : Dimension) → dimension_of left d.variable ≡ Some d → dimension_of (dimension ∷ left) d.variable ≡ Some d
later dimension left none d h = by (dimension.variable == d.variable) refl
  where
    by : (b : Bool) → (dimension.variable == d.variable) ≡ b → (if dimension.variable == d.variable then Some dimension else dimension_of left d.variable) ≡ Some d
    by true is =
        let again : true ≡ false = sym (ap is_some h) ∙ dimension-spans left d.variable ∙ ap (spans left) (sym ((Decides-eqb dimension.variable d.variable).0 is)) ∙ none in
        cc
    by false is = ap (λ b. if b then Some dimension else dimension_of left d.variable) is ∙ h

module _ (book : BookView) (t : ℕ) (table : List Dimension) (is : IsBook book) (at : slice_get book.tables t ≡ Some table) (rows : List Row) (inside : (dimension : Dimension) → dimension_of table dimension.variable ≡ Some dimension → All (IsIn book dimension) rows) where
  pub variables-done : (left done : List Dimension) (given : ℕ → List Row) → AreOf table left → has_twice left ≡ false → ((variable : ℕ) → spans left variable ≡ true → spans done variable ≡ false)
      → HaveUnder book t rows done left given → HaveUnder book t rows (done ++ left) [] (after_variables book (first_own book t) (first_own book (t + 1)) left given)
  variables-done [] done given of once apart have = subst (λ some. HaveUnder book t rows some [] given) (sym (append-nil done)) have
  variables-done (dimension ∷ left) done given of once apart have =
      let parts = or-parts (spans left dimension.variable) (has_twice left) once in
      let its = of dimension (here dimension left) in
      let first : spans (dimension ∷ left) dimension.variable ≡ true = sym (dimension-spans (dimension ∷ left) dimension.variable) ∙ ap is_some (here dimension left) in
      let free_done = apart dimension.variable first in
      let test : Name → Row → Bool = λ name row. under_all book.trees row.codes name done && same_all book.trees row.codes name left in
      let free : (name : Name) (code : ℕ) (row : Row) → test (slice_set name dimension.variable code) row ≡ test name row = λ name code row.
      ap (λ b. b && same_all book.trees row.codes (slice_set name dimension.variable code) left) (under-free book.trees row.codes name dimension.variable code done free_done)
      ∙ ap (λ b. under_all book.trees row.codes name done && b) (same-free book.trees row.codes name dimension.variable code left parts.0)
      in
      let all = inside dimension its in
      let start : (own : ℕ) (name : Name) → IsOwn book t own name → IsPermutation (given own) (filter (λ row. test name row && (code_of book dimension row == slice_index name dimension.variable)) rows) = λ own name top.
      subst (IsPermutation (given own)) (filter-same (IsIn book dimension) (λ row. under_all book.trees row.codes name done && ((code_of book dimension row == slice_index name dimension.variable) && same_all book.trees row.codes name left)) (λ row. test name row && (code_of book dimension row == slice_index name dimension.variable))
      (λ row within. turned (under_all book.trees row.codes name done) (code_of book dimension row == slice_index name dimension.variable) (same_all book.trees row.codes name left)) rows all) (have own name top)
      in
      let next = after_cells book dimension.variable (first_own book t) (first_own book (t + 1)) (first_own book (t + 1) - first_own book t) given in
      let have_next : HaveUnder book t rows (done ++ dimension ∷ []) left next = λ own name top.
      subst (IsPermutation (next own)) (filter-same (IsIn book dimension) (λ row. test name row && is_under (slice_index_or book.trees dimension.variable []) (code_of book dimension row) (slice_index name dimension.variable)) (λ row. under_all book.trees row.codes name (done ++ dimension ∷ []) && same_all book.trees row.codes name left)
      (λ row within. behind (under_all book.trees row.codes name done) (same_all book.trees row.codes name left) (is_under (slice_index_or book.trees dimension.variable []) (code_of book dimension row) (slice_index name dimension.variable))
      ∙ ap (λ b. b && same_all book.trees row.codes name left) (sym (under-more book.trees row.codes name done dimension))) rows all)
      (variable-done book t table dimension is at its test free rows all given start own name top)
      in
      subst (λ some. HaveUnder book t rows some [] (after_variables book (first_own book t) (first_own book (t + 1)) left next)) (append_assoc done (dimension ∷ []) left)
      (variables-done left (done ++ dimension ∷ []) next (λ d h. of d (later dimension left parts.0 d h)) parts.1
      (λ one h. list_any-append (λ (d : Dimension). d.variable == one) done (dimension ∷ []) ∙ ap (λ b. b || spans (dimension ∷ []) one) (apart one (either (dimension.variable == one) (spans left one) h)) ∙ new dimension one left h parts.0) have_next)
    where
      either : (a b : Bool) → b ≡ true → (a || b) ≡ true
      either true b h = refl
      either false b h = h

      turned : (a b c : Bool) → (a && (b && c)) ≡ ((a && c) && b)
      turned true true true = refl
      turned true true false = refl
      turned true false true = refl
      turned true false false = refl
      turned false b c = refl

      behind : (a b c : Bool) → ((a && b) && c) ≡ ((a && c) && b)
      behind true true true = refl
      behind true true false = refl
      behind true false true = refl
      behind true false false = refl
      behind false b c = refl

      new : (dimension : Dimension) (one : ℕ) (left : List Dimension) → spans left one ≡ true → spans left dimension.variable ≡ false → ((dimension.variable == one) || false) ≡ false
      new dimension one left h none = by (dimension.variable == one) refl
        where
          by : (b : Bool) → (dimension.variable == one) ≡ b → (b || false) ≡ false
          by true same = let met : spans left dimension.variable ≡ true = ap (spans left) ((Decides-eqb dimension.variable one).0 same) ∙ h in cc
          by false same = refl

  -- the other cells stay as they are
  pub variables-out : (left : List Dimension) (given : ℕ → List Row) (other : ℕ) → AreOf table left → has_twice left ≡ false → (other < first_own book t) ⊎ (first_own book (t + 1) ≤ other)
      → after_variables book (first_own book t) (first_own book (t + 1)) left given other ≡ given other
  variables-out [] given other of once out = refl
  variables-out (dimension ∷ left) given other of once out =
      let parts = or-parts (spans left dimension.variable) (has_twice left) once in
      variables-out left (after_cells book dimension.variable (first_own book t) (first_own book (t + 1)) (first_own book (t + 1) - first_own book t) given) other (λ d h. of d (later dimension left parts.0 d h)) parts.1 out
      ∙ cells-out book t table dimension is at (of dimension (here dimension left)) (first_own book (t + 1) - first_own book t) given other (omega arith) out
