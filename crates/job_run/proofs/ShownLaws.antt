-- What readers of a rounded release find: cells next to their truths, and margins that add up.
use Rattle.std.proofs.Common.{◌≡◌, ◌≢◌, ℕ, zero, suc, ◌+◌, ◌<◌, ◌==◌, ◌&&◌, not, Bool, true, false, List, [], ◌∷◌, ◌++◌, length, map, slice_get, slice_index_or, slice_set, is_some, All, Option, None, Some, if◌then◌else◌, arith, refl, ap, sym, subst, ◌∙◌, ℤ, pos, ◌-ℤ◌}
use Rattle.std.specs.List.{cons_option, filter_map, flat_map, range_with_len}
use Rattle.std.specs.Option.{option_and_then, unwrap_or}
use Rattle.std.proofs.lemmas.Int.{ints}
use Rattle.std.proofs.lemmas.List.Elements.{All-nil, All-cons, All-head, All-tail}
use Rattle.std.proofs.lemmas.Option.{slice_get_within, get_or_from_slice_get}
use Rattle.linked_tables.proofs.Finding.{named-found, found-name}
use Rattle.sdc_base.proofs.GrowingLists.{read-at}
use Rattle.sdc_base.proofs.TotalLemmas.{sum_of-cons}
use Rattle.sdc_base.specs.Cells.{cells_of, is_named}
use Rattle.sdc_base.specs.Records.{Name}
use Rattle.sdc_base.specs.Relations.{Sum, codes_below, is_spanned, number_among, parts_among, relation_for, relations_among, relations_for}
use Rattle.sdc_base.specs.Roundings.{IsAdjacent, IsRounding}
use Rattle.sdc_base.specs.Systems.{Numbers, number_at}
use Rattle.sdc_base.specs.Totals.{sum_of}
use Rattle.sdc_base.specs.Trees.{Tree}
use Rattle.sdc_base.specs.declared.dimension.Dimension.{Dimension}
use Rattle.sdc_base.specs.declared.relation.Relation.{Relation}
use Rattle.sdc_base.specs.declared.system.System.{System}
use Rattle.relations.specs.Holding.{sum_in}
use Rattle.job_inputs.specs.Cells.{cells, truth_in}
use Rattle.job_run.specs.Laws.{CellsShowAdjacent, ShownMarginsAddUp}
use Rattle.job_run.specs.Roundings.{truths_in}
use Rattle.job_run.proofs.SameSystem.{as-many-cells, its-relations}

-- what is shown for the cell with this name, by the names of cells and their values
abbrev value_by : List Name → List ℤ → Name → Option ℤ
value_by names values name = option_and_then (slice_get values) (number_among names name)

-- its number, 0 where there is no such cell
abbrev number_by : List Name → List ℤ → Name → ℤ
number_by names values name = unwrap_or (value_by names values name) (pos 0)

some-of : (found : Option ℕ) → is_some found ≡ true → (k : ℕ) × (found ≡ Some k)
some-of None h = absurd cc
some-of (Some k) h = (k, refl)

-- ---- what one cell shows

-- the cell with this number shows its value
shown-at : (names : List Name) (values : List ℤ) (name : Name) (k : ℕ) → length values ≡ length names → number_among names name ≡ Some k → value_by names values name ≡ Some (number_at values k)
shown-at names values name k many found =
    let at = found-name names name k found in
    ap (option_and_then (slice_get values)) found ∙ read-at values k (pos 0) (omega (arith, many, slice_get_within names k name at))

pub truth-at : (truth_in : Name → ℤ) (names : List Name) (k : ℕ) (name : Name) → slice_get names k ≡ Some name → number_at (map truth_in names) k ≡ truth_in name
truth-at truth_in [] k name at = absurd cc
truth-at truth_in (other ∷ names) zero name at = let same : other ≡ name = cc in ap truth_in same
truth-at truth_in (other ∷ names) (suc k) name at = truth-at truth_in names k name at

pub shows-adjacent : (truth_in : Name → ℤ) (names : List Name) (system : System) (base : ℤ) (values : List ℤ) (name : Name) → system.cells ≡ length names → IsRounding system (map truth_in names) base values → is_named names name ≡ true
    → (value : ℤ) × (value_by names values name ≡ Some value) × IsAdjacent base (truth_in name) value
shows-adjacent truth_in names system base values name cells is there =
    let found = some-of (number_among names name) (named-found names name ∙ there) in
    let at = found-name names name found.0 found.1 in
    let inside : found.0 < system.cells = omega (arith, cells, slice_get_within names found.0 name at) in (
      number_at values found.0,
      shown-at names values name found.0 (is.each ∙ cells) found.1,
      subst (λ (truth : ℤ). IsAdjacent base truth (number_at values found.0)) (truth-at truth_in names found.0 name at) (is.adjacent found.0 inside),
    )

-- ---- parts

parts-shown : (names : List Name) (values : List ℤ) (name : Name) (variable : ℕ) (codes : List ℕ) → length values ≡ length names
    → sum_of (number_at values) (parts_among names name variable codes) ≡ sum_of (λ code. number_by names values (slice_set name variable code)) codes
parts-shown names values name variable [] many = refl
parts-shown names values name variable (code ∷ codes) many = by (number_among names other) refl (parts-shown names values name variable codes many)
  where
    other : Name
    other = slice_set name variable code

    by : (found : Option ℕ) → number_among names other ≡ found → sum_of (number_at values) (parts_among names name variable codes) ≡ sum_of (λ code. number_by names values (slice_set name variable code)) codes
        → sum_of (number_at values) (cons_option (number_among names other) (parts_among names name variable codes)) ≡ sum_of (λ code. number_by names values (slice_set name variable code)) (code ∷ codes)
    by None is rest =
        let none : number_by names values other ≡ pos 0 = ap (λ (o : Option ℕ). unwrap_or (option_and_then (slice_get values) o) (pos 0)) is in
        ap (λ (o : Option ℕ). sum_of (number_at values) (cons_option o (parts_among names name variable codes))) is
        ∙ omega (arith, ints, none, rest, sum_of-cons (λ code. number_by names values (slice_set name variable code)) code codes)
    by (Some k) is rest =
        let some : number_by names values other ≡ number_at values k = ap (λ (o : Option ℤ). unwrap_or o (pos 0)) (shown-at names values other k many is) in
        ap (λ (o : Option ℕ). sum_of (number_at values) (cons_option o (parts_among names name variable codes))) is
        ∙ omega (arith, ints, some, rest, sum_of-cons (number_at values) k (parts_among names name variable codes), sum_of-cons (λ code. number_by names values (slice_set name variable code)) code codes)

-- ---- relations

all-front : {X : Type 0} (P : X → Type 0) (xs ys : List X) → All P (xs ++ ys) → All P xs
all-front P [] ys all = All-nil P
all-front P (x ∷ xs) ys all = All-cons P x xs (All-head P x (xs ++ ys) all) (all-front P xs ys (All-tail P x (xs ++ ys) all))

all-behind : {X : Type 0} (P : X → Type 0) (xs ys : List X) → All P (xs ++ ys) → All P ys
all-behind P [] ys all = all
all-behind P (x ∷ xs) ys all = all-behind P xs ys (All-tail P x (xs ++ ys) all)

-- what holds of all that numbers give holds of what one of them gives
of-one : {X : Type 0} (P : X → Type 0) (f : ℕ → List X) (start n k : ℕ) → k < n → All P (flat_map f (range_with_len start n)) → All P (f (start + k))
of-one P f start zero k inside all = absurd (omega (arith, inside))
of-one P f start (suc n) zero inside all =
    let here : start ≡ start + 0 = omega arith in
    subst (λ (c : ℕ). All P (f c)) here (all-front P (f start) (flat_map f (range_with_len (start + 1) n)) all)
of-one P f start (suc n) (suc k) inside all =
    let there : (start + 1) + k ≡ start + suc k = omega arith in
    subst (λ (c : ℕ). All P (f c)) there (of-one P f (start + 1) n k (omega (arith, inside)) (all-behind P (f start) (flat_map f (range_with_len (start + 1) n)) all))

first-of : {X : Type 0} (P : X → Type 0) (here : Option X) (x : X) (xs : List X) → here ≡ Some x → All P (cons_option here xs) → P x
first-of P None x xs is all = absurd cc
first-of P (Some y) x xs is all = let same : y ≡ x = cc in subst P same (All-head P y xs all)

rest-of : {X : Type 0} (P : X → Type 0) (here : Option X) (xs : List X) → All P (cons_option here xs) → All P xs
rest-of P None xs all = all
rest-of P (Some y) xs all = All-tail P y xs all

-- what holds of all that numbers may give holds of what one of them gives
of-some : {X : Type 0} (P : X → Type 0) (f : ℕ → Option X) (start n k : ℕ) (x : X) → k < n → f (start + k) ≡ Some x → All P (filter_map f (range_with_len start n)) → P x
of-some P f start zero k x inside is all = absurd (omega (arith, inside))
of-some P f start (suc n) zero x inside is all =
    let here : start ≡ start + 0 = omega arith in
    first-of P (f start) x (filter_map f (range_with_len (start + 1) n)) (ap f here ∙ is) all
of-some P f start (suc n) (suc k) x inside is all =
    let there : (start + 1) + k ≡ start + suc k = omega arith in
    of-some P f (start + 1) n k x (omega (arith, inside)) (ap f there ∙ is) (rest-of P (f start) (filter_map f (range_with_len (start + 1) n)) all)

-- what holds of all relations holds of that of a cell for a variable
pub of-relation : (P : Sum → Type 0) (trees : List Tree) (tables : List (List Dimension)) (cell : ℕ) (name : Name) (variable : ℕ) (sum : Sum) → slice_get (cells_of trees tables) cell ≡ Some name → variable < length trees
    → relation_for trees tables cell name variable ≡ Some sum → All P (relations_among trees tables) → P sum
of-relation P trees tables cell name variable sum at known is all =
    let names : List Name = cells_of trees tables in
    let named : slice_index_or names cell [] ≡ name = get_or_from_slice_get names cell name [] at in
    let its = of-one P (λ (c : ℕ). relations_for trees tables c (slice_index_or names c [])) 0 (length names) cell (slice_get_within names cell name at) all in
    let cell_more : 0 + cell ≡ cell = omega arith in
    let zero_more : variable ≡ 0 + variable = omega arith in
    of-some P (relation_for trees tables cell name) 0 (length trees) variable sum known (ap (relation_for trees tables cell name) (sym zero_more) ∙ is) (subst (λ (n : Name). All P (relations_for trees tables cell n)) named (subst (λ (c : ℕ). All P (relations_for trees tables c (slice_index_or names c []))) cell_more its))

-- a form is 0 on numbers, for a total with its parts
abbrev Adds : Numbers → Sum → Type 0
Adds numbers sum = (numbers sum.0 -ℤ sum_of numbers sum.1) ≡ pos 0

all-sums : (P : Sum → Type 0) (relations : List Relation) → All (λ (r : Relation). P (sum_in r)) relations → All P (map sum_in relations)
all-sums P [] all = All-nil P
all-sums P (r ∷ relations) all =
    All-cons P (sum_in r) (map sum_in relations) (All-head (λ (one : Relation). P (sum_in one)) r relations all) (all-sums P relations (All-tail (λ (one : Relation). P (sum_in one)) r relations all))

some-codes : (codes : List ℕ) → codes ≢ [] → not (length codes == 0) ≡ true
some-codes [] some = absurd (some refl)
some-codes (code ∷ codes) some = let more : (suc (length codes) == 0) ≡ false = grind arith in ap not more

pub has-relation : (trees : List Tree) (tables : List (List Dimension)) (cell : ℕ) (name : Name) (variable : ℕ) → is_spanned trees tables name variable ≡ true → codes_below trees name variable ≢ []
    → relation_for trees tables cell name variable ≡ Some (cell, parts_among (cells_of trees tables) name variable (codes_below trees name variable))
has-relation trees tables cell name variable spanned some = by (is_spanned trees tables name variable) (not (length codes == 0)) spanned (some-codes codes some)
  where
    codes : List ℕ
    codes = codes_below trees name variable

    its : Sum
    its = (cell, parts_among (cells_of trees tables) name variable codes)

    by : (a b : Bool) → a ≡ true → b ≡ true → (if a && b then Some its else None) ≡ Some its
    by true true spanned any = refl
    by true false spanned any = absurd cc
    by false b spanned any = absurd cc

pub shows-sums : (trees : List Tree) (tables : List (List Dimension)) (truths : List ℤ) (system : System) (base : ℤ) (values : List ℤ) (name : Name) (variable : ℕ) → system.cells ≡ length (cells_of trees tables)
    → map sum_in system.relations ≡ relations_among trees tables → IsRounding system truths base values
    → is_named (cells_of trees tables) name ≡ true → variable < length trees → is_spanned trees tables name variable ≡ true
    → codes_below trees name variable ≢ []
    → number_by (cells_of trees tables) values name ≡ sum_of (λ code. number_by (cells_of trees tables) values (slice_set name variable code)) (codes_below trees name variable)
shows-sums trees tables truths system base values name variable cells relations is there known spanned some =
    let names : List Name = cells_of trees tables in
    let codes : List ℕ = codes_below trees name variable in
    let many : length values ≡ length names = is.each ∙ cells in
    let found = some-of (number_among names name) (named-found names name ∙ there) in
    let adds = of-relation (Adds (number_at values)) trees tables found.0 name variable (found.0, parts_among names name variable codes) (found-name names name found.0 found.1) known
    (has-relation trees tables found.0 name variable spanned some)
    (subst (All (Adds (number_at values))) relations (all-sums (Adds (number_at values)) system.relations is.hold)) in
    let here : number_by names values name ≡ number_at values found.0 = ap (λ (o : Option ℤ). unwrap_or o (pos 0)) (shown-at names values name found.0 many found.1) in
    let parts = parts-shown names values name variable codes many in
    omega (arith, ints, adds, here, parts)

-- ---- the laws

pub show_adjacent : CellsShowAdjacent
show_adjacent inputs base values name is there = shows-adjacent (truth_in inputs) (cells inputs) is.system base values name (as-many-cells inputs is.system is.system_is) is.rounding there

pub margins_add_up : ShownMarginsAddUp
margins_add_up inputs base values name variable is there known spanned some =
    shows-sums inputs.records.trees inputs.described.bound.tables (truths_in inputs) is.system base values name variable
    (as-many-cells inputs is.system is.system_is) (its-relations inputs is.system is.system_is) is.rounding there known spanned some
