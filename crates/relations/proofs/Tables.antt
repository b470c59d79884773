-- Which table has a cell.
use Rattle.std.proofs.Common.{◌≡◌, ◌≢◌, ℕ, suc, zero, ◌+◌, ◌<◌, ◌==◌, ◌&&◌, ◌||◌, nat_lt, Bool, true, false, List, [], ◌∷◌, length, slice_get, slice_set, slice_index, slice_index_or, if◌then◌else◌, bytes_eq, All, Option, None, Some, is_some, arith, refl, ap, sym, ◌∙◌, subst}
use Rattle.std.specs.List.{flat_map, list_any}
use Rattle.std.specs.Option.{option_map_or}
use Rattle.std.proofs.lemmas.Bool.Decides.{nat_tests, Decides-eqb}
use Rattle.std.proofs.lemmas.List.{get_or-set_same, get_or-set_other, length-set}
use Rattle.std.proofs.lemmas.List.Folds.{list_any-append}
use Rattle.sdc_base.specs.Trees.{Tree, IsCodeTree, is_child, parent_at}
use Rattle.sdc_base.specs.CutTrees.{goes_below, has_code, is_within}
use Rattle.sdc_base.specs.Records.{Name}
use Rattle.sdc_base.specs.Cells.{cells_of, cut_tree, is_named, named_by, spans}
use Rattle.sdc_base.specs.Relations.{spans_below}
use Rattle.sdc_base.specs.declared.dimension.Dimension.{Dimension}
use Rattle.sdc_base.proofs.CutTrees.{child-within, inside-tree}
use Rattle.sdc_base.proofs.FirstNames.{names_are_first}
use Rattle.linked_tables.specs.Laws.{dimension_of, is_code}
use Rattle.linked_tables.specs.Tables.{has_twice}
use Rattle.linked_tables.specs.BookCells.{IsTable}
use Rattle.linked_tables.proofs.Sharing.{cells_by_code, dimension-is, dimension-spans, known-below, name-long}
use Rattle.relations.specs.Having.{has_codes, has_spanned}

-- ---- the codes of a cell are in their trees

-- each code of the name is one of its tree
abbrev pub AreInside : List Tree → Name → Type 0
AreInside trees name = (variable : ℕ) → variable < length trees → slice_index name variable < length (slice_index_or trees variable [])

pub record IsOfTrees (trees : List Tree) (name : Name) : Type 0 where
  pub long : length name ≡ length trees
  pub inside : AreInside trees name

of-table : (trees : List Tree) (table : List Dimension) (name : Name) → All IsCodeTree trees → IsTable (length trees) table → is_named (named_by trees table) name ≡ true → IsOfTrees trees name
of-table trees table name good sound h =
    let long = name-long trees table name h in
    record { long = long; inside = λ variable below. inside variable below (dimension_of table variable) refl (((cells_by_code trees table name sound long).0 h) variable below) }
  where
    first : (a b : Bool) → (a && b) ≡ true → a ≡ true
    first true b h = refl
    first false b h = cc

    inside : (variable : ℕ) → variable < length trees → (found : Option Dimension) → dimension_of table variable ≡ found → option_map_or (λ d. has_code (cut_tree trees d) (slice_index name variable)) found (slice_index name variable == 0) ≡ true
        → slice_index name variable < length (slice_index_or trees variable [])
    inside variable below (Some d) at h =
        let fits : nat_lt (slice_index name variable) (length (slice_index_or trees d.variable [])) ≡ true = first (nat_lt (slice_index name variable) (length (slice_index_or trees d.variable []))) (is_within (cut_tree trees d) (slice_index name variable)) h in
        let less : slice_index name variable < length (slice_index_or trees d.variable []) = grind (arith, nat_tests, fits) in
        subst (λ v. slice_index name variable < length (slice_index_or trees v [])) (dimension-is table variable d at) less
    inside variable below None at h = let some = (good variable [] below).has_total in let zero : slice_index name variable ≡ 0 = (Decides-eqb (slice_index name variable) 0).0 h in omega (arith, some, zero)

of-tables : (trees : List Tree) (tables : List (List Dimension)) (name : Name) → All IsCodeTree trees → ((t : ℕ) (table : List Dimension) → slice_get tables t ≡ Some table → IsTable (length trees) table)
    → is_named (flat_map (named_by trees) tables) name ≡ true → IsOfTrees trees name
of-tables trees [] name good sound h = cc
of-tables trees (table ∷ tables) name good sound h =
    elim (is_named (named_by trees table) name) as (λ b. is_named (named_by trees table) name ≡ b → (b || is_named (flat_map (named_by trees) tables) name) ≡ true → IsOfTrees trees name) [
      | true ↦ λ is all. of-table trees table name good (sound 0 table refl) is
      | false ↦ λ is rest. of-tables trees tables name good (λ t one at. sound (suc t) one at) rest
    ] refl (sym (list_any-append (bytes_eq name) (named_by trees table) (flat_map (named_by trees) tables)) ∙ h)

-- the name of a cell has a code for each variable, each in its tree
pub cell-of_trees : (trees : List Tree) (tables : List (List Dimension)) (name : Name) → All IsCodeTree trees → ((t : ℕ) (table : List Dimension) → slice_get tables t ≡ Some table → IsTable (length trees) table)
    → is_named (cells_of trees tables) name ≡ true → IsOfTrees trees name
cell-of_trees trees tables name good sound h = of-tables trees tables name good sound (sym (names_are_first.all (flat_map (named_by trees) tables) name) ∙ h)

-- ---- a table has the cells of its codes

codes-each : (trees : List Tree) (table : List Dimension) (start : ℕ) (name : Name) → has_codes trees table start name ≡ true → (k : ℕ) → k < length name → is_code trees table (start + k) (slice_index name k) ≡ true
codes-each trees table start [] h k inside = absurd (omega (arith, inside))
codes-each trees table start (code ∷ name) h zero inside = let at : start + zero ≡ start = omega arith in ap (λ v. is_code trees table v code) at ∙ first (is_code trees table start code) (has_codes trees table (start + 1) name) h
  where
    first : (a b : Bool) → (a && b) ≡ true → a ≡ true
    first true b h = refl
    first false b h = cc
codes-each trees table start (code ∷ name) h (suc k) inside =
    let at : start + suc k ≡ (start + 1) + k = omega arith in
    ap (λ v. is_code trees table v (slice_index name k)) at
    ∙ codes-each trees table (start + 1) name (second (is_code trees table start code) (has_codes trees table (start + 1) name) h) k (omega (arith, inside))
  where
    second : (a b : Bool) → (a && b) ≡ true → b ≡ true
    second true b h = h
    second false b h = cc

each-codes : (trees : List Tree) (table : List Dimension) (start : ℕ) (name : Name) → ((k : ℕ) → k < length name → is_code trees table (start + k) (slice_index name k) ≡ true) → has_codes trees table start name ≡ true
each-codes trees table start [] each = refl
each-codes trees table start (code ∷ name) each =
    let at : start ≡ start + 0 = omega arith in
    let here : is_code trees table start code ≡ true = ap (λ v. is_code trees table v code) at ∙ each 0 (omega arith) in
    let rest : has_codes trees table (start + 1) name ≡ true =
    each-codes trees table (start + 1) name (λ k inside. let on : (start + 1) + k ≡ start + suc k = omega arith in ap (λ v. is_code trees table v (slice_index name k)) on ∙ each (suc k) (omega (arith, inside)))
    in
    rw (here, rest) refl

-- a table has the cell of a name exactly where it has each of its codes
pub has-by-codes : (trees : List Tree) (table : List Dimension) (name : Name) → IsTable (length trees) table → length name ≡ length trees → is_named (named_by trees table) name ≡ has_codes trees table 0 name
has-by-codes trees table name sound long = both (is_named (named_by trees table) name) (has_codes trees table 0 name) to from
  where
    both : (a b : Bool) → (a ≡ true → b ≡ true) → (b ≡ true → a ≡ true) → a ≡ b
    both true b to from = sym (to refl)
    both false true to from = from refl
    both false false to from = refl

    to : is_named (named_by trees table) name ≡ true → has_codes trees table 0 name ≡ true
    to h = each-codes trees table 0 name (λ k inside. let at : 0 + k ≡ k = omega arith in ap (λ v. is_code trees table v (slice_index name k)) at ∙ (cells_by_code trees table name sound long).0 h k (omega (arith, inside, long)))

    from : has_codes trees table 0 name ≡ true → is_named (named_by trees table) name ≡ true
    from h =
        (cells_by_code trees table name sound long).1
        (λ variable below. let at : variable ≡ 0 + variable = omega arith in ap (λ v. is_code trees table v (slice_index name variable)) at ∙ codes-each trees table 0 name h variable (omega (arith, below, long)))

-- ---- the cells that have the code of a child in place of its parent

pub is-parent : (tree : Tree) (above code : ℕ) → is_child tree above code ≡ true → parent_at tree code ≡ Some above
is-parent tree above code h = by (parent_at tree code) h
  where
    by : (found : Option ℕ) → option_map_or (λ parent. parent == above) found false ≡ true → found ≡ Some above
    by None h = cc
    by (Some parent) h = ap Some ((Decides-eqb parent above).0 h)

-- a table that goes below a code of a variable spans the variable
below-spans : (trees : List Tree) (variable code : ℕ) (table : List Dimension) → spans_below trees variable code table ≡ true → spans table variable ≡ true
below-spans trees variable code [] h = cc
below-spans trees variable code (one ∷ some) h = either (one.variable == variable) (goes_below (cut_tree trees one) code) (below-spans trees variable code some) h
  where
    either : (a b : Bool) → (spans_below trees variable code some ≡ true → spans some variable ≡ true) → ((a && b) || spans_below trees variable code some) ≡ true → (a || spans some variable) ≡ true
    either true b rest h = refl
    either false b rest h = rest h

-- and its dimension of the variable goes below the code
pub below-dimension : (trees : List Tree) (variable code : ℕ) (table : List Dimension) → spans_below trees variable code table ≡ true → has_twice table ≡ false → (d : Dimension) × (dimension_of table variable ≡ Some d) × (goes_below (cut_tree trees d) code ≡ true)
below-dimension trees variable code [] h once = cc
below-dimension trees variable code (dimension ∷ table) h once =
    let parts = neither (spans table dimension.variable) (has_twice table) once in
    by (dimension.variable == variable) refl (goes_below (cut_tree trees dimension) code) refl h parts.0 (λ rest. below-dimension trees variable code table rest parts.1)
  where
    neither : (a b : Bool) → (a || b) ≡ false → (a ≡ false) × (b ≡ false)
    neither true b h = cc
    neither false b h = (refl, h)

    by : (a : Bool) → (dimension.variable == variable) ≡ a → (b : Bool) → goes_below (cut_tree trees dimension) code ≡ b → ((a && b) || spans_below trees variable code table) ≡ true → spans table dimension.variable ≡ false
        → (spans_below trees variable code table ≡ true → (d : Dimension) × (dimension_of table variable ≡ Some d) × (goes_below (cut_tree trees d) code ≡ true))
        → (d : Dimension) × ((if dimension.variable == variable then Some dimension else dimension_of table variable) ≡ Some d) × (goes_below (cut_tree trees d) code ≡ true)
    by true is true goes h none rest = (dimension, ap (λ b. if b then Some dimension else dimension_of table variable) is, goes)
    by true is false goes h none rest =
        let again : spans table dimension.variable ≡ true = ap (spans table) ((Decides-eqb dimension.variable variable).0 is) ∙ below-spans trees variable code table h in
        let clash : true ≡ false = sym again ∙ none in
        cc
    by false is b goes h none rest = let found = rest h in (found.0, ap (λ b. if b then Some dimension else dimension_of table variable) is ∙ found.1, found.2)

other-code : (name : Name) (variable child k : ℕ) → k ≢ variable → slice_index (slice_set name variable child) k ≡ slice_index name k
other-code name variable child k apart = get_or-set_other name variable k child 0 apart

-- a table that has a cell and goes below its code has also the one with the code of a child
pub has-other : (trees : List Tree) (table : List Dimension) (name : Name) (variable child : ℕ) → All IsCodeTree trees → IsTable (length trees) table → is_named (named_by trees table) name ≡ true
    → spans_below trees variable (slice_index name variable) table ≡ true → is_child (slice_index_or trees variable []) (slice_index name variable) child ≡ true → is_named (named_by trees table) (slice_set name variable child) ≡ true
has-other trees table name variable child good sound h goes is =
    let long = name-long trees table name h in
    let found = below-dimension trees variable (slice_index name variable) table goes sound.once in
    let spanned : spans table variable ≡ true = sym (dimension-spans table variable) ∙ ap is_some found.1 in
    let known : variable < length trees = known-below (length trees) table variable sound.known spanned in
    (cells_by_code trees table (slice_set name variable child) sound (length-set name variable child ∙ long)).1
    (λ k below. elim (k == variable) as (λ b. (k == variable) ≡ b → is_code trees table k (slice_index (slice_set name variable child) k) ≡ true) [
      | true ↦ λ is.
          let same : k ≡ variable = (Decides-eqb k variable).0 is in
          let code : slice_index (slice_set name variable child) variable ≡ child = get_or-set_same name variable child 0 (omega (arith, known, long)) in
          subst (λ v. is_code trees table v (slice_index (slice_set name variable child) v) ≡ true) (sym same)
          (ap (is_code trees table variable) code ∙ ap (λ (one : Option Dimension). option_map_or (λ d. has_code (cut_tree trees d) child) one (child == 0)) found.1 ∙ fits found.0 (dimension-is table variable found.0 found.1) known found.2)
      | false ↦ λ is.
          let apart : k ≢ variable = λ same. absurd (differ is ((Decides-eqb k variable).1 same)) in
          ap (is_code trees table k) (other-code name variable child k apart) ∙ (cells_by_code trees table name sound long).0 h k below
    ] refl)
  where
    differ : {b : Bool} → b ≡ false → b ≡ true → ⊥
    differ one other = absurd cc

    fits : (d : Dimension) → d.variable ≡ variable → variable < length trees → goes_below (cut_tree trees d) (slice_index name variable) ≡ true → has_code (cut_tree trees d) child ≡ true
    fits d same known goes =
        let tree : IsCodeTree (cut_tree trees d).tree = subst (λ v. IsCodeTree (slice_index_or trees v [])) (sym same) (good variable [] known) in
        let up : parent_at (cut_tree trees d).tree child ≡ Some (slice_index name variable) = subst (λ v. parent_at (slice_index_or trees v []) child ≡ Some (slice_index name variable)) (sym same) (is-parent (slice_index_or trees variable []) (slice_index name variable) child is) in
        let inside = inside-tree (cut_tree trees d).tree child (slice_index name variable) up in
        let first : nat_lt child (length (cut_tree trees d).tree) ≡ true = grind (arith, nat_tests, inside) in
        let second : is_within (cut_tree trees d) child ≡ true = sym (child-within (cut_tree trees d) tree child (slice_index name variable) up) ∙ goes in
        rw (first, second) refl

-- so where a table has it and goes below its code, some table has the other one
pub spanned-other : (trees : List Tree) (tables : List (List Dimension)) (name : Name) (variable child : ℕ) → All IsCodeTree trees → ((t : ℕ) (table : List Dimension) → slice_get tables t ≡ Some table → IsTable (length trees) table)
    → list_any (has_spanned trees name variable) tables ≡ true → is_child (slice_index_or trees variable []) (slice_index name variable) child ≡ true → is_named (flat_map (named_by trees) tables) (slice_set name variable child) ≡ true
spanned-other trees [] name variable child good sound h inside = cc
spanned-other trees (table ∷ tables) name variable child good sound h inside =
    list_any-append (bytes_eq (slice_set name variable child)) (named_by trees table) (flat_map (named_by trees) tables)
    ∙ elim (has_spanned trees name variable table) as (λ b. has_spanned trees name variable table ≡ b → (b || list_any (has_spanned trees name variable) tables) ≡ true
    → (is_named (named_by trees table) (slice_set name variable child) || is_named (flat_map (named_by trees) tables) (slice_set name variable child)) ≡ true) [
      | true ↦ λ is all. let two = parts (spans_below trees variable (slice_index name variable) table) (is_named (named_by trees table) name) is in rw (has-other trees table name variable child good (sound 0 table refl) two.1 two.0 inside) refl
      | false ↦ λ is rest. rw (spanned-other trees tables name variable child good (λ t one at. sound (suc t) one at) rest inside) (either (is_named (named_by trees table) (slice_set name variable child)))
    ] refl h
  where
    parts : (a b : Bool) → (a && b) ≡ true → (a ≡ true) × (b ≡ true)
    parts true true h = (refl, refl)
    parts true false h = cc
    parts false b h = cc

    either : (b : Bool) → (b || true) ≡ true
    either true = refl
    either false = refl
