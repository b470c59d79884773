-- The relations of a book hold on the truths of its marks.
use Rattle.std.proofs.Common.{◌≡◌, ◌≢◌, ℕ, zero, suc, ◌+◌, ◌-◌, ◌<◌, ◌≤◌, ◌==◌, ◌&&◌, not, Bool, true, false, cond, List, [], ◌∷◌, length, map, filter, slice_get, slice_index, slice_index_or, slice_set, is_some, bytes_eq, ◌||◌, if◌then◌else◌, All, Option, None, Some, arith, refl, ap, sym, ◌∙◌, subst, ℤ, pos, ◌+ℤ◌, ◌-ℤ◌}
use Rattle.std.specs.List.{list_any, cons_option, filter_map, flat_map, range_with_len}
use Rattle.std.specs.Option.{option_map_or}
use Rattle.std.proofs.lemmas.Int.{ints}
use Rattle.std.proofs.lemmas.List.Elements.{All-append, All-cons, All-head, All-tail}
use Rattle.std.proofs.lemmas.Slice.Eq.{bytes_eq-Decides}
use Rattle.std.proofs.lemmas.Option.{slice_get_within, get_or_from_slice_get}
use Rattle.sdc_base.specs.Trees.{is_child}
use Rattle.sdc_base.specs.Records.{Name}
use Rattle.sdc_base.specs.Cells.{is_named, named_by}
use Rattle.sdc_base.specs.Relations.{Sum, codes_below, is_spanned, number_among, parts_among, relation_for, relations_for, relations_among}
use Rattle.sdc_base.specs.Sums.{truth}
use Rattle.sdc_base.specs.Systems.{HoldOn}
use Rattle.sdc_base.specs.Totals.{sum_of}
use Rattle.sdc_base.specs.AddingUp.{IsCoded}
use Rattle.sdc_base.specs.declared.dimension.Dimension.{Dimension}
use Rattle.sdc_base.specs.declared.relation.Relation.{Relation}
use Rattle.sdc_base.specs.declared.rows.Row.{Row}
use Rattle.sdc_base.proofs.AddingUp.{tables_add_up}
use Rattle.sdc_base.proofs.FirstNames.{names_are_first}
use Rattle.sdc_base.proofs.TotalLemmas.{sum_of-cons}
use Rattle.linked_tables.specs.declared.mark.Mark.{Mark}
use Rattle.linked_tables.specs.BookViews.{BookView}
use Rattle.linked_tables.specs.BookCells.{cells, IsBook, IsTable}
use Rattle.linked_tables.proofs.Finding.{named-found, found-name}
use Rattle.relations.specs.Having.{has_spanned}
use Rattle.relations.specs.Holding.{AreTruths, HaveNoChildren, sum_in, truth_at}
use Rattle.sdc_base.proofs.GrowingLists.{all-nothing, read-at}
use Rattle.relations.proofs.Tables.{cell-of_trees, spanned-other}

-- ---- what holds of all of a list

-- what is kept passes the test
all-kept : (test : ℕ → Bool) (list : List ℕ) → All (λ k. test k ≡ true) (filter test list)
all-kept test [] = all-nothing (λ k. test k ≡ true)
all-kept test (k ∷ list) =
    elim (test k) as (λ b. test k ≡ b → All (λ one. test one ≡ true) (cond b (k ∷ filter test list) (filter test list))) [
      | true ↦ λ is. All-cons (λ one. test one ≡ true) k (filter test list) is (all-kept test list)
      | false ↦ λ _. all-kept test list
    ] refl

all-found : {X : Type 0} (P : X → Type 0) (f : ℕ → Option X) (start n bound : ℕ) → start + n ≤ bound → ((k : ℕ) (x : X) → k < bound → f k ≡ Some x → P x) → All P (filter_map f (range_with_len start n))
all-found P f start zero bound h each = all-nothing P
all-found {X = X} P f start (suc n) bound h each = by (all-found P f (start + 1) n bound (omega (arith, h)) each) (f start) refl
  where
    by : All P (filter_map f (range_with_len (start + 1) n)) → (here : Option X) → f start ≡ here → All P (cons_option here (filter_map f (range_with_len (start + 1) n)))
    by rest None is = rest
    by rest (Some x) is = All-cons P x (filter_map f (range_with_len (start + 1) n)) (each start x (omega (arith, h)) is) rest

all-joined : {X : Type 0} (P : X → Type 0) (f : ℕ → List X) (start n bound : ℕ) → start + n ≤ bound → ((k : ℕ) → k < bound → All P (f k)) → All P (flat_map f (range_with_len start n))
all-joined P f start zero bound h each = all-nothing P
all-joined P f start (suc n) bound h each = All-append P (f start) (flat_map f (range_with_len (start + 1) n)) (each start (omega (arith, h))) (all-joined P f (start + 1) n bound (omega (arith, h)) each)

all-back : (P : Sum → Type 0) (relations : List Relation) → All P (map sum_in relations) → All (λ r. P (sum_in r)) relations
all-back P [] all = all-nothing (λ (r : Relation). P (sum_in r))
all-back P (r ∷ relations) all =
    All-cons (λ (r : Relation). P (sum_in r)) r relations (All-head P (sum_in r) (map sum_in relations) all) (all-back P relations (All-tail P (sum_in r) (map sum_in relations) all))

-- ---- cells

some-of : {X : Type 0} (found : Option X) → is_some found ≡ true → (x : X) × (found ≡ Some x)
some-of None h = cc
some-of (Some x) h = (x, refl)

same-of : {X : Type 0} {a b : X} → Some a ≡ Some b → a ≡ b
same-of h = cc

-- what is found at a place of a list is among it
pub at-named : (names : List Name) (k : ℕ) (name : Name) → slice_get names k ≡ Some name → is_named names name ≡ true
at-named names k name at = among names k at
  where
    among : (names : List Name) (k : ℕ) → slice_get names k ≡ Some name → is_named names name ≡ true
    among [] k at = cc
    among (other ∷ names) zero at = rw (same-of at) (rw (self name) refl)
      where
        self : (name : Name) → bytes_eq name name ≡ true
        self name = (bytes_eq-Decides name name).1 refl
    among (other ∷ names) (suc k) at = rw (among names k at) (either (bytes_eq name other))
      where
        either : (b : Bool) → (b || true) ≡ true
        either true = refl
        either false = refl

pub tables-of : (book : BookView) → IsBook book → (t : ℕ) (table : List Dimension) → slice_get book.tables t ≡ Some table → IsTable (length book.trees) table
tables-of book is t table at = subst (IsTable (length book.trees)) (get_or_from_slice_get book.tables t table table at) (is.tables t table (slice_get_within book.tables t table at))

-- the number of a cell leads to its truth
truth-is : (book : BookView) (rows : List Row) (cell : ℕ) (name : Name) → IsBook book → AreTruths book rows → slice_get (cells book) cell ≡ Some name → truth_at book.marks cell ≡ truth book.trees name rows
truth-is book rows cell name is true_ at =
    let inside : cell < length book.marks = omega (arith, slice_get_within (cells book) cell name at, is.one_each) in
    by (slice_get book.marks cell) refl (λ none. absurd (no-mark book.marks cell none inside))
  where
    no-mark : (marks : List Mark) (k : ℕ) → slice_get marks k ≡ None → k < length marks → ⊥
    no-mark [] k none h = omega (arith, h)
    no-mark (mark ∷ marks) zero none h = absurd cc
    no-mark (mark ∷ marks) (suc k) none h = no-mark marks k none (omega (arith, h))

    by : (found : Option Mark) → slice_get book.marks cell ≡ found → (slice_get book.marks cell ≡ None → ⊥) → option_map_or (λ mark. mark.facts.truth) found (pos 0) ≡ truth book.trees name rows
    by None is none = absurd (none is)
    by (Some mark) is none = true_ cell name mark at is

-- ---- one relation

parts-sum : (book : BookView) (rows : List Row) (name : Name) (variable : ℕ) (codes : List ℕ) → IsBook book → AreTruths book rows → list_any (has_spanned book.trees name variable) book.tables ≡ true
    → All (λ code. is_child (slice_index_or book.trees variable []) (slice_index name variable) code ≡ true) codes
    → sum_of (truth_at book.marks) (parts_among (cells book) name variable codes) ≡ sum_of (λ code. truth book.trees (slice_set name variable code) rows) codes
parts-sum book rows name variable [] is told spanned inside = refl
parts-sum book rows name variable (code ∷ codes) is told spanned inside =
    let IsBelow : ℕ → Type 0 = λ (code : ℕ). is_child (slice_index_or book.trees variable []) (slice_index name variable) code ≡ true in
    let here : IsBelow code = All-head IsBelow code codes inside in
    let rest = parts-sum book rows name variable codes is told spanned (All-tail IsBelow code codes inside) in
    let other = slice_set name variable code in
    let among : is_named (cells book) other ≡ true = names_are_first.all (flat_map (named_by book.trees) book.tables) other ∙ spanned-other book.trees book.tables name variable code is.trees (tables-of book is) spanned here in
    let part = some-of (number_among (cells book) other) (named-found (cells book) other ∙ among) in
    let its : truth_at book.marks part.0 ≡ truth book.trees other rows = truth-is book rows part.0 other is told (found-name (cells book) other part.0 part.1) in
    ap (λ found. sum_of (truth_at book.marks) (cons_option found (parts_among (cells book) name variable codes))) part.1
    ∙ sum_of-cons (truth_at book.marks) part.0 (parts_among (cells book) name variable codes)
    ∙ ap (λ v. v +ℤ sum_of (truth_at book.marks) (parts_among (cells book) name variable codes)) its
    ∙ ap (λ s. truth book.trees other rows +ℤ s) rest
    ∙ sym (sum_of-cons (λ code. truth book.trees (slice_set name variable code) rows) code codes)

-- a total and its parts as a form that is 0
abbrev Adds : List Mark → Sum → Type 0
Adds marks sum = (truth_at marks sum.0 -ℤ sum_of (truth_at marks) sum.1) ≡ pos 0

one-holds : (book : BookView) (rows : List Row) (cell : ℕ) (name : Name) (variable : ℕ) (sum : Sum) → IsBook book → All (IsCoded book.trees) rows → HaveNoChildren book.trees rows → AreTruths book rows
    → slice_get (cells book) cell ≡ Some name → variable < length book.trees → relation_for book.trees book.tables cell name variable ≡ Some sum → Adds book.marks sum
one-holds book rows cell name variable sum is coded bare told at known = by (is_spanned book.trees book.tables name variable) (not (length codes == 0)) refl refl
  where
    codes : List ℕ
    codes = codes_below book.trees name variable

    some : not (length codes == 0) ≡ true → codes ≢ []
    some h none = let zero : not (length codes == 0) ≡ false = ap (λ (list : List ℕ). not (length list == 0)) none in absurd cc

    adds : is_spanned book.trees book.tables name variable ≡ true → codes ≢ [] → Adds book.marks (cell, parts_among (cells book) name variable codes)
    adds spanned any =
        let of = cell-of_trees book.trees book.tables name is.trees (tables-of book is) (at-named (cells book) cell name at) in
        let up : truth book.trees name rows ≡ sum_of (λ code. truth book.trees (slice_set name variable code) rows) codes =
        tables_add_up book.trees rows name variable is.trees coded of.long known (λ k d h. bare k d h variable known) any
        in
        let inside : All (λ code. is_child (slice_index_or book.trees variable []) (slice_index name variable) code ≡ true) codes = all-kept (is_child (slice_index_or book.trees variable []) (slice_index name variable)) (range_with_len 0 (length (slice_index_or book.trees variable []))) in
        let parts = parts-sum book rows name variable codes is told spanned inside in
        let total : truth_at book.marks cell ≡ truth book.trees name rows = truth-is book rows cell name is told at in
        omega (arith, ints, up, parts, total)

    by : (a b : Bool) → is_spanned book.trees book.tables name variable ≡ a → not (length codes == 0) ≡ b → (if a && b then Some (cell, parts_among (cells book) name variable codes) else None) ≡ Some sum → Adds book.marks sum
    by true true spanned any h = subst (Adds book.marks) (same-of h) (adds spanned (some any))
    by true false spanned any h = cc
    by false b spanned any h = cc

-- ---- all relations

pub relations-hold : (book : BookView) (rows : List Row) (relations : List Relation) → IsBook book → All (IsCoded book.trees) rows → HaveNoChildren book.trees rows → AreTruths book rows
    → map sum_in relations ≡ relations_among book.trees book.tables → HoldOn (truth_at book.marks) relations
relations-hold book rows relations is coded bare told made =
    all-back (Adds book.marks) relations
    (subst (All (Adds book.marks)) (sym made)
    (all-joined (Adds book.marks) (λ cell. relations_for book.trees book.tables cell (slice_index_or (cells book) cell [])) 0 (length (cells book)) (length (cells book)) (omega arith)
    (λ cell inside. all-found (Adds book.marks) (relation_for book.trees book.tables cell (slice_index_or (cells book) cell [])) 0 (length book.trees) (length book.trees) (omega arith)
    (λ variable sum known made. one-holds book rows cell (slice_index_or (cells book) cell []) variable sum is coded bare told (at-cell cell inside) known made))))
  where
    at-cell : (cell : ℕ) → cell < length (cells book) → slice_get (cells book) cell ≡ Some (slice_index_or (cells book) cell [])
    at-cell cell inside = read-at (cells book) cell [] inside
