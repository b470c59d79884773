-- What cells have once each passed on what it has, for one variable.
use Rattle.std.proofs.Common.{◌≡◌, ℕ, ◌+◌, ◌-◌, ◌<◌, ◌≤◌, ◌==◌, ◌&&◌, ◌||◌, nat_le, nat_lt, Bool, true, false, List, [], filter, length, slice_get, slice_set, slice_index, slice_index_or, Option, None, Some, is_some, refl, ap, sym, ◌∙◌, subst, arith}
use Rattle.std.specs.Prelude.{IsPermutation}
use Rattle.std.specs.Option.{option_map_or, option_and_then}
use Rattle.std.proofs.lemmas.Bool.Decides.{nat_tests, Decides-eqb}
use Rattle.std.proofs.lemmas.List.{get_or-set_same}
use Rattle.std.proofs.lemmas.Option.{slice_get_within, get_or_from_slice_get}
use Rattle.sdc_base.specs.Trees.{IsCodeTree, is_under, parent_at}
use Rattle.sdc_base.specs.Records.{Name}
use Rattle.sdc_base.specs.CutTrees.{has_code, is_within}
use Rattle.sdc_base.specs.Cells.{cut_tree}
use Rattle.sdc_base.specs.declared.dimension.Dimension.{Dimension}
use Rattle.sdc_base.specs.declared.rows.Row.{Row}
use Rattle.sdc_base.proofs.CutTrees.{inside-tree, within-is}
use Rattle.linked_tables.specs.BookViews.{BookView}
use Rattle.linked_tables.specs.Laws.{dimension_of, is_code}
use Rattle.linked_tables.specs.BookCells.{IsBook, IsTable, cells, first_own, number_of}
use Rattle.linked_tables.proofs.Finding.{found-name}
use Rattle.linked_tables.proofs.Sharing.{dimension-spans, known-below, name-long}
use Rattle.tabulate.specs.RecordsByPlace.{code_in_table}
use Rattle.tabulate.specs.UpperCells.{goes_to, upper_of}
use Rattle.tabulate.proofs.Climbing.{is_met, step_below, step-apart, step-parent, step-within, under-is-step, under-or-step}
use Rattle.tabulate.proofs.Moving.{IsOwn, HasChild, child, own-number, own-of, set-back}

-- a number from `cell` on
abbrev pub from : ℕ → Option ℕ → Bool
from cell found = option_map_or (λ number. nat_le cell number) found false

-- the code of the table under which the record's stands, for a variable of the table
abbrev pub code_of : BookView → Dimension → Row → ℕ
code_of book dimension row = code_in_table book.trees row.codes dimension

-- The record came to the cell with this name, when the cells from `cell` on have passed on what they have: its code is the
-- name's, or below a child of it whose cell is one of them.
abbrev pub came : BookView → Dimension → ℕ → Name → Row → Bool
came book dimension cell name row =
    (code_of book dimension row == slice_index name dimension.variable)
    || option_map_or (λ code. from cell (number_of book (slice_set name dimension.variable code))) (step_below (slice_index_or book.trees dimension.variable []) (slice_index name dimension.variable) (code_of book dimension row)) false

-- the record's code is one of the variable
abbrev pub IsIn : BookView → Dimension → Row → Type 0
IsIn book dimension row = slice_index row.codes dimension.variable < length (slice_index_or book.trees dimension.variable [])

-- each own cell has the records that pass the test and came to it
abbrev pub HaveCome : BookView → ℕ → Dimension → (Name → Row → Bool) → List Row → ℕ → (ℕ → List Row) → Type 0
HaveCome book t dimension test rows cell given =
    (own : ℕ) (name : Name) → IsOwn book t own name → IsPermutation (given own) (filter (λ row. test name row && came book dimension cell name row) rows)

some-same : {A : Type 0} {x y : A} → Some x ≡ Some y → x ≡ y
some-same e = cc

module _ (book : BookView) (t : ℕ) (table : List Dimension) (dimension : Dimension) (is : IsBook book) (at : slice_get book.tables t ≡ Some table) (its : dimension_of table dimension.variable ≡ Some dimension) where
  sound : IsTable (length book.trees) table
  sound = subst (IsTable (length book.trees)) (get_or_from_slice_get book.tables t table [] at) (is.tables t [] (slice_get_within book.tables t table at))

  known : dimension.variable < length book.trees
  known = known-below (length book.trees) table dimension.variable sound.known (sym (dimension-spans table dimension.variable) ∙ ap is_some its)

  good : IsCodeTree (slice_index_or book.trees dimension.variable [])
  good = is.trees dimension.variable [] known

  -- the record's code in the table is one of the tree where its own is, and one that the table has
  code-inside : (row : Row) → IsIn book dimension row → code_of book dimension row < length (slice_index_or book.trees dimension.variable [])
  code-inside row inside = (within-is (cut_tree book.trees dimension) good (slice_index row.codes dimension.variable)).inside inside

  code-within : (row : Row) → is_within (cut_tree book.trees dimension) (code_of book dimension row) ≡ true
  code-within row = (within-is (cut_tree book.trees dimension) good (slice_index row.codes dimension.variable)).one

  -- the step below a code of the table to such a code is one of the table, and leads to the cell of a child
  kid : (cell : ℕ) (name : Name) (code : ℕ) (row : Row) → IsOwn book t cell name → step_below (slice_index_or book.trees dimension.variable []) (slice_index name dimension.variable) (code_of book dimension row) ≡ Some code → HasChild book t cell name dimension.variable code
  kid cell name code row own step =
      let up = step-parent (slice_index_or book.trees dimension.variable []) good (code_of book dimension row) (slice_index name dimension.variable) code step in
      let within : is_within (cut_tree book.trees dimension) code ≡ true = step-within (cut_tree book.trees dimension) good (length (slice_index_or book.trees dimension.variable [])) (code_of book dimension row) (slice_index name dimension.variable) code (code-within row) step in
      let inside = inside-tree (slice_index_or book.trees dimension.variable []) code (slice_index name dimension.variable) up in
      let first : nat_lt code (length (slice_index_or book.trees dimension.variable [])) ≡ true = grind (arith, nat_tests, inside) in
      let fits : is_code book.trees table dimension.variable code ≡ true = ap (λ (found : Option Dimension). option_map_or (λ d. has_code (cut_tree book.trees d) code) found (code == 0)) its ∙ rw (first, within) refl in
      child book t cell table name dimension.variable code is at own (sym (dimension-spans table dimension.variable) ∙ ap is_some its) fits up

  long : (cell : ℕ) (name : Name) → IsOwn book t cell name → dimension.variable < length name
  long cell name own = let same = name-long book.trees table name (own-of book t cell table name at own) in omega (arith, same, known)

  -- where all children have passed on what they have, all records below have come
  pub came-whole : (cell own : ℕ) (name : Name) (row : Row) → IsOwn book t own name → ((number : ℕ) → own < number → cell ≤ number) → IsIn book dimension row
      → came book dimension cell name row ≡ is_under (slice_index_or book.trees dimension.variable []) (code_of book dimension row) (slice_index name dimension.variable)
  came-whole cell own name row here all inside =
      ap (λ b. (code_of book dimension row == slice_index name dimension.variable) || b) (by (step_below (slice_index_or book.trees dimension.variable []) (slice_index name dimension.variable) (code_of book dimension row)) refl)
      ∙ sym (under-or-step (slice_index_or book.trees dimension.variable []) good (code_of book dimension row) (slice_index name dimension.variable) (code-inside row inside))
    where
      by : (found : Option ℕ) → step_below (slice_index_or book.trees dimension.variable []) (slice_index name dimension.variable) (code_of book dimension row) ≡ found
          → option_map_or (λ code. from cell (number_of book (slice_set name dimension.variable code))) found false ≡ is_some found
      by None step = refl
      by (Some code) step =
          let one = kid own name code row here step in
          let late = all one.number one.later in
          let test : nat_le cell one.number ≡ true = grind (arith, nat_tests, late) in
          ap (from cell) one.is ∙ test

  -- and where none has, those that have the very code
  pub came-none : (own : ℕ) (name : Name) (row : Row) → IsOwn book t own name → came book dimension (first_own book (t + 1)) name row ≡ (code_of book dimension row == slice_index name dimension.variable)
  came-none own name row here =
      ap (λ b. (code_of book dimension row == slice_index name dimension.variable) || b) (by (step_below (slice_index_or book.trees dimension.variable []) (slice_index name dimension.variable) (code_of book dimension row)) refl)
      ∙ or-false (code_of book dimension row == slice_index name dimension.variable)
    where
      or-false : (b : Bool) → (b || false) ≡ b
      or-false true = refl
      or-false false = refl

      by : (found : Option ℕ) → step_below (slice_index_or book.trees dimension.variable []) (slice_index name dimension.variable) (code_of book dimension row) ≡ found
          → option_map_or (λ code. from (first_own book (t + 1)) (number_of book (slice_set name dimension.variable code))) found false ≡ false
      by None step = refl
      by (Some code) step =
          let one = kid own name code row here step in
          let early = one.early in
          let test : nat_le (first_own book (t + 1)) one.number ≡ false = grind (arith, nat_tests, early) in
          ap (from (first_own book (t + 1))) one.is ∙ test

  -- ---- one cell passes on what it has

  -- what is known where cell `lower` goes to cell `upper`
  pub record IsLift (lower upper : ℕ) (name other : Name) : Type 0 where
    pub up : parent_at (slice_index_or book.trees dimension.variable []) (slice_index name dimension.variable) ≡ Some (slice_index other dimension.variable)
    pub raised : other ≡ slice_set name dimension.variable (slice_index other dimension.variable)
    pub lowered : slice_set other dimension.variable (slice_index name dimension.variable) ≡ name

  goes-found : (found : Option ℕ) (first other : ℕ) → option_map_or (λ upper. upper == other && nat_le first upper) found false ≡ true → found ≡ Some other
  goes-found None first other h = cc
  goes-found (Some upper) first other h = ap Some ((Decides-eqb upper other).0 (front (upper == other) (nat_le first upper) h))
    where
      front : (a b : Bool) → (a && b) ≡ true → a ≡ true
      front true b h = refl
      front false b h = cc

  pub lift : (lower upper : ℕ) (name other : Name) → IsOwn book t lower name → IsOwn book t upper other → goes_to book dimension.variable (first_own book t) lower upper ≡ true → IsLift lower upper name other
  lift lower upper name other own top goes =
      by (parent_at (slice_index_or book.trees dimension.variable []) (slice_index name dimension.variable)) refl
      (ap (λ o. option_and_then (λ name. option_and_then (λ parent. number_of book (slice_set name dimension.variable parent)) (parent_at (slice_index_or book.trees dimension.variable []) (slice_index name dimension.variable))) o) (sym own.at) ∙ goes-found (upper_of book dimension.variable lower) (first_own book t) upper goes)
    where
      read-set : (xs : Name) (k code : ℕ) → k < length xs → slice_index (slice_set xs k code) k ≡ code
      read-set xs k code h = get_or-set_same xs k code 0 h

      back : (xs : Name) (k code : ℕ) → slice_set (slice_set xs k code) k (slice_index xs k) ≡ xs
      back xs k code = set-back xs k code

      by : (found : Option ℕ) → parent_at (slice_index_or book.trees dimension.variable []) (slice_index name dimension.variable) ≡ found → option_and_then (λ parent. number_of book (slice_set name dimension.variable parent)) found ≡ Some upper → IsLift lower upper name other
      by None up h = cc
      by (Some parent) up h =
          let same : slice_set name dimension.variable parent ≡ other = some-same (sym (found-name (cells book) (slice_set name dimension.variable parent) upper h) ∙ top.at) in
          let code : slice_index other dimension.variable ≡ parent = ap (λ n. slice_index n dimension.variable) (sym same) ∙ read-set name dimension.variable parent (long lower name own) in
          record {
            up = up ∙ ap Some (sym code);
            raised = sym same ∙ ap (slice_set name dimension.variable) (sym code);
            lowered = ap (λ n. slice_set n dimension.variable (slice_index name dimension.variable)) (sym same) ∙ back name dimension.variable parent;
          }

  -- the child's cell is this one exactly where the child's code is this one's
  child-is : (lower upper : ℕ) (name other : Name) (code number : ℕ) → IsOwn book t lower name → IsOwn book t upper other → IsLift lower upper name other → number_of book (slice_set other dimension.variable code) ≡ Some number → (number == lower) ≡ (code == slice_index name dimension.variable)
  child-is lower upper name other code number own top lifted found = by (code == slice_index name dimension.variable) refl
    where
      first : (code == slice_index name dimension.variable) ≡ true → number ≡ lower
      first h =
          let same : code ≡ slice_index name dimension.variable = (Decides-eqb code (slice_index name dimension.variable)).0 h in
          some-same (sym found ∙ ap (λ c. number_of book (slice_set other dimension.variable c)) same ∙ ap (number_of book) lifted.lowered ∙ own-number book t lower name own)

      second : number ≡ lower → code ≡ slice_index name dimension.variable
      second h =
          let there : slice_get (cells book) lower ≡ Some (slice_set other dimension.variable code) = ap (slice_get (cells book)) (sym h) ∙ found-name (cells book) (slice_set other dimension.variable code) number found in
          let same : slice_set other dimension.variable code ≡ name = some-same (sym there ∙ own.at) in
          sym (get_or-set_same other dimension.variable code 0 (long upper other top)) ∙ ap (λ n. slice_index n dimension.variable) same

      by : (b : Bool) → (code == slice_index name dimension.variable) ≡ b → (number == lower) ≡ b
      by true h = (Decides-eqb number lower).1 (first h)
      by false h = never (number == lower) refl
        where
          never : (b : Bool) → (number == lower) ≡ b → b ≡ false
          never true k = let met : (code == slice_index name dimension.variable) ≡ true = (Decides-eqb code (slice_index name dimension.variable)).1 (second ((Decides-eqb number lower).0 k)) in cc
          never false k = refl

  -- those that have come, with those of one cell more
  pub came-more : (lower upper : ℕ) (name other : Name) (row : Row) → IsOwn book t lower name → IsOwn book t upper other → IsLift lower upper name other → IsIn book dimension row
      → (came book dimension lower other row ≡ (came book dimension (lower + 1) other row || came book dimension (lower + 1) name row)) × ((came book dimension (lower + 1) other row && came book dimension (lower + 1) name row) ≡ false)
  came-more lower upper name other row own top lifted inside =
      let whole = came-whole (lower + 1) lower name row own (λ number h. omega (arith, h)) inside in
      let under = under-is-step (slice_index_or book.trees dimension.variable []) good (code_of book dimension row) (slice_index name dimension.variable) (slice_index other dimension.variable) lifted.up in
      let both = by (step_below (slice_index_or book.trees dimension.variable []) (slice_index other dimension.variable) (code_of book dimension row)) refl in
      rw (whole, under) both
    where
      split : (a : Bool) (code : ℕ) (found : Option ℕ) → number_of book (slice_set other dimension.variable code) ≡ found → a ≡ false → (number : ℕ) → found ≡ Some number
          → ((a || from lower found) ≡ ((a || from (lower + 1) found) || (code == slice_index name dimension.variable))) × (((a || from (lower + 1) found) && (code == slice_index name dimension.variable)) ≡ false)
      split a code None at apart number there = cc
      split a code (Some one) at apart number there =
          let same = child-is lower upper name other code one own top lifted at in
          let first : nat_le lower one ≡ (nat_le (lower + 1) one || (one == lower)) = grind (arith, nat_tests) in
          let second : (nat_le (lower + 1) one && (one == lower)) ≡ false = grind (arith, nat_tests) in
          rw (apart, sym same) (first, second)

      by : (found : Option ℕ) → step_below (slice_index_or book.trees dimension.variable []) (slice_index other dimension.variable) (code_of book dimension row) ≡ found
          → (((code_of book dimension row == slice_index other dimension.variable) || option_map_or (λ code. from lower (number_of book (slice_set other dimension.variable code))) found false)
          ≡ (((code_of book dimension row == slice_index other dimension.variable) || option_map_or (λ code. from (lower + 1) (number_of book (slice_set other dimension.variable code))) found false) || is_met found (slice_index name dimension.variable)))
          × ((((code_of book dimension row == slice_index other dimension.variable) || option_map_or (λ code. from (lower + 1) (number_of book (slice_set other dimension.variable code))) found false) && is_met found (slice_index name dimension.variable)) ≡ false)
      by None step = (never (code_of book dimension row == slice_index other dimension.variable), none (code_of book dimension row == slice_index other dimension.variable))
        where
          never : (b : Bool) → (b || false) ≡ ((b || false) || false)
          never true = refl
          never false = refl

          none : (b : Bool) → ((b || false) && false) ≡ false
          none true = refl
          none false = refl
      by (Some code) step =
          let one = kid upper other code row top step in
          split (code_of book dimension row == slice_index other dimension.variable) code (number_of book (slice_set other dimension.variable code)) refl
          (step-apart (slice_index_or book.trees dimension.variable []) good (code_of book dimension row) (slice_index other dimension.variable) code step) one.number one.is

  -- those that have come, where the cell goes elsewhere
  pub came-same : (lower upper : ℕ) (name other : Name) (row : Row) → IsOwn book t lower name → IsOwn book t upper other → goes_to book dimension.variable (first_own book t) lower upper ≡ false → came book dimension lower other row ≡ came book dimension (lower + 1) other row
  came-same lower upper name other row own top apart = ap (λ b. (code_of book dimension row == slice_index other dimension.variable) || b) (by (step_below (slice_index_or book.trees dimension.variable []) (slice_index other dimension.variable) (code_of book dimension row)) refl)
    where
      goes : (code : ℕ) → parent_at (slice_index_or book.trees dimension.variable []) code ≡ Some (slice_index other dimension.variable) → slice_set other dimension.variable code ≡ name → goes_to book dimension.variable (first_own book t) lower upper ≡ true
      goes code up same =
          let read : slice_index name dimension.variable ≡ code = ap (λ n. slice_index n dimension.variable) (sym same) ∙ get_or-set_same other dimension.variable code 0 (long upper other top) in
          let raised : slice_set name dimension.variable (slice_index other dimension.variable) ≡ other = ap (λ n. slice_set n dimension.variable (slice_index other dimension.variable)) (sym same) ∙ set-back other dimension.variable code in
          let found : upper_of book dimension.variable lower ≡ Some upper =
          ap (λ o. option_and_then (λ name. option_and_then (λ parent. number_of book (slice_set name dimension.variable parent)) (parent_at (slice_index_or book.trees dimension.variable []) (slice_index name dimension.variable))) o) own.at
          ∙ ap (λ c. option_and_then (λ parent. number_of book (slice_set name dimension.variable parent)) (parent_at (slice_index_or book.trees dimension.variable []) c)) read
          ∙ ap (λ o. option_and_then (λ parent. number_of book (slice_set name dimension.variable parent)) o) up
          ∙ ap (number_of book) raised
          ∙ own-number book t upper other top
          in
          let late = top.late in
          let first : (upper == upper) ≡ true = grind (arith, nat_tests) in
          let second : nat_le (first_own book t) upper ≡ true = grind (arith, nat_tests, late) in
          ap (λ o. option_map_or (λ one. one == upper && nat_le (first_own book t) one) o false) found ∙ ap (λ b. b && nat_le (first_own book t) upper) first ∙ second

      other-cell : (number : ℕ) (code : ℕ) → parent_at (slice_index_or book.trees dimension.variable []) code ≡ Some (slice_index other dimension.variable) → number_of book (slice_set other dimension.variable code) ≡ Some number → (b : Bool) → (number == lower) ≡ b → b ≡ false
      other-cell number code up found true h =
          let there : slice_get (cells book) lower ≡ Some (slice_set other dimension.variable code) = ap (slice_get (cells book)) (sym ((Decides-eqb number lower).0 h)) ∙ found-name (cells book) (slice_set other dimension.variable code) number found in
          let same : slice_set other dimension.variable code ≡ name = some-same (sym there ∙ own.at) in
          let met = goes code up same in
          cc
      other-cell number code up found false h = refl

      by : (found : Option ℕ) → step_below (slice_index_or book.trees dimension.variable []) (slice_index other dimension.variable) (code_of book dimension row) ≡ found
          → option_map_or (λ code. from lower (number_of book (slice_set other dimension.variable code))) found false ≡ option_map_or (λ code. from (lower + 1) (number_of book (slice_set other dimension.variable code))) found false
      by None step = refl
      by (Some code) step =
          let up = step-parent (slice_index_or book.trees dimension.variable []) good (code_of book dimension row) (slice_index other dimension.variable) code step in
          let one = kid upper other code row top step in
          let apart = other-cell one.number code up one.is (one.number == lower) refl in
          let same : nat_le lower one.number ≡ nat_le (lower + 1) one.number = grind (arith, nat_tests, apart) in
          ap (from lower) one.is ∙ same ∙ sym (ap (from (lower + 1)) one.is)
