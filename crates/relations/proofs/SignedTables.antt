-- Signs for the relations of one table of one variable, and of two that it has flat.
use Rattle.std.proofs.Common.{◌≡◌, ◌≢◌, ◌⊎◌, inl, inr, ℕ, ◌<◌, ◌==◌, ◌&&◌, ◌||◌, not, Bool, true, false, List, [], ◌∷◌, length, map, slice_get, slice_index, slice_index_or, slice_set, bytes_eq, if◌then◌else◌, Option, None, Some, option_map, ℤ, pos, negsuc, arith, refl, ap, sym, ◌∙◌, subst}
use Rattle.std.specs.List.{flat_map, IsDistinct}
use Rattle.std.specs.Option.{option_map_or}
use Rattle.std.proofs.lemmas.Bool.{eq-eqb, ne_eqb, eqb-true}
use Rattle.std.proofs.lemmas.Int.{ints}
use Rattle.std.proofs.lemmas.List.{get_or-set_same, get_or-set_other, length-map}
use Rattle.std.proofs.lemmas.Option.{slice_get-map}
use Rattle.sdc_base.specs.Trees.{Tree, IsCodeTree, parent_at}
use Rattle.sdc_base.specs.CutTrees.{goes_below}
use Rattle.sdc_base.specs.Records.{Name}
use Rattle.sdc_base.specs.Cells.{cut_tree, is_named, named_by}
use Rattle.sdc_base.specs.Relations.{Sum, is_spanned, relation_for, spans_below}
use Rattle.sdc_base.specs.Forms.{count_of}
use Rattle.sdc_base.specs.Signs.{sign_of, number_with_sign, signed_count}
use Rattle.sdc_base.specs.declared.dimension.Dimension.{Dimension}
use Rattle.sdc_base.specs.declared.relation.Relation.{Relation}
use Rattle.sdc_base.specs.declared.system.System.{System}
use Rattle.sdc_base.proofs.CutTrees.{child-within}
use Rattle.sdc_base.proofs.GrowingLists.{read-at}
use Rattle.sdc_base.proofs.ListReads.{read-some}
use Rattle.sdc_base.proofs.Walks.{parent_is_earlier}
use Rattle.sdc_base.proofs.FirstNames.{names_are_first}
use Rattle.linked_tables.specs.BookViews.{BookView}
use Rattle.linked_tables.specs.BookCells.{cells, tree_of, IsBook}
use Rattle.linked_tables.specs.Tables.{has_twice}
use Rattle.relations.specs.Holding.{IsSystemOf, sum_in}
use Rattle.relations.specs.TableSigns.{HaveSigns, IsFlat, IsOneOrTwoWay, OneOrTwoWayHasSigns, OneVariableHasSigns, TwoFlatVariablesHaveSigns}
use Rattle.relations.proofs.Holding.{at-named, tables-of}
use Rattle.relations.proofs.Tables.{cell-of_trees}
use Rattle.relations.proofs.Keyed.{keyed, keyed-at, map-keyed, item_place}
use Rattle.relations.proofs.CellCounts.{Counts, IsMade, IsPart, IsRelationFor, counts, made, one-number, set-back, set-itself}

some-same : {X : Type 0} {a b : X} → Some a ≡ Some b → a ≡ b
some-same h = cc

-- the name of a cell; none where there is no such cell
abbrev name_in : BookView → ℕ → Name
name_in book cell = slice_index_or (cells book) cell []

-- ---- what is known of one relation and one cell

record IsKnown (book : BookView) (number variable cell : ℕ) (r : Relation) : Type 0 where
  pub inside : variable < length (name_in book number)
  pub at : slice_get (cells book) number ≡ Some (name_in book number)
  pub is_made : IsMade book.trees book.tables number variable (name_in book number) r
  pub good : IsCodeTree (tree_of book variable)
  pub each : Counts (cells book) (tree_of book variable) (name_in book number) number variable cell (count_of r cell)

known : (book : BookView) (number variable cell : ℕ) (r : Relation) → IsBook book → IsRelationFor book.trees book.tables number variable r → IsKnown book number variable cell r
known book number variable cell r is one =
    let name = name_in book number in
    let at : slice_get (cells book) number ≡ Some name = read-at (cells book) number [] one.cell_known in
    let of = cell-of_trees book.trees book.tables name is.trees (tables-of book is) (at-named (cells book) number name at) in
    let inside : variable < length name = omega (arith, one.variable_known, of.long) in
    let good : IsCodeTree (tree_of book variable) = is.trees variable [] one.variable_known in
    let its = made book.trees book.tables number variable name r one.is in
    record { inside = inside; at = at; is_made = its; good = good; each = counts book.trees book.tables number variable cell name r good inside at its }

once-cells : (book : BookView) → IsDistinct bytes_eq (cells book)
once-cells book = names_are_first.once (flat_map (named_by book.trees) book.tables)

-- ---- signs by cell and variable

-- two relations that count a cell alike, each with its sign, are that of one cell for one variable
abbrev AreAlone : BookView → (ℕ → ℕ → Bool) → Type 0
AreAlone book plus =
    (cell one first other second : ℕ) (r s : Relation) (z : ℤ) → IsRelationFor book.trees book.tables one first r → IsRelationFor book.trees book.tables other second s → z ≢ pos 0
    → number_with_sign (plus one first) (count_of r cell) ≡ z → number_with_sign (plus other second) (count_of s cell) ≡ z → (one ≡ other) × (first ≡ second)

abbrev relation_at : BookView → ℕ → ℕ → Option Sum
relation_at book number variable = relation_for book.trees book.tables number (name_in book number) variable

abbrev keys_of : BookView → List (Sum × (ℕ × ℕ))
keys_of book = keyed (relation_at book) (length (cells book)) (length book.trees)

abbrev signs_by : BookView → (ℕ → ℕ → Bool) → List Bool
signs_by book plus = map (λ (key : Sum × (ℕ × ℕ)). plus key.1.0 key.1.1) (keys_of book)

keys-are : (book : BookView) (system : System) → IsSystemOf book system → map sum_in system.relations ≡ map (λ (key : Sum × (ℕ × ℕ)). key.0) (keys_of book)
keys-are book system is = is.relations ∙ sym (map-keyed (relation_at book) (length (cells book)) (length book.trees))

-- the relation with a number, with its cell, its variable and its sign
record IsKeyed (book : BookView) (relations : List Relation) (plus : ℕ → ℕ → Bool) (k number variable : ℕ) (r : Relation) : Type 0 where
  pub at : slice_get relations k ≡ Some r
  pub is_for : IsRelationFor book.trees book.tables number variable r
  pub sign : sign_of (signs_by book plus) k ≡ plus number variable
  pub place : k ≡ item_place (relation_at book) (length book.trees) number variable

keyed-by : (book : BookView) (system : System) (plus : ℕ → ℕ → Bool) (k : ℕ) (r : Relation) → IsSystemOf book system → slice_get system.relations k ≡ Some r → (number : ℕ) × (variable : ℕ) × IsKeyed book system.relations plus k number variable r
keyed-by book system plus k r is at = by (slice_get (keys_of book) k) refl (sym same ∙ slice_get-map sum_in system.relations k ∙ ap (option_map sum_in) at)
  where
    same : slice_get (map sum_in system.relations) k ≡ option_map (λ (key : Sum × (ℕ × ℕ)). key.0) (slice_get (keys_of book) k)
    same = ap (λ (list : List Sum). slice_get list k) (keys-are book system is) ∙ slice_get-map (λ (key : Sum × (ℕ × ℕ)). key.0) (keys_of book) k

    by : (found : Option (Sum × (ℕ × ℕ))) → slice_get (keys_of book) k ≡ found → option_map (λ (key : Sum × (ℕ × ℕ)). key.0) found ≡ Some (sum_in r) → (number : ℕ) × (variable : ℕ) × IsKeyed book system.relations plus k number variable r
    by None found h = absurd cc
    by (Some key) found h =
        let its = keyed-at (relation_at book) (length (cells book)) (length book.trees) k key found in
        let sum : key.0 ≡ sum_in r = some-same h in
        let read : slice_get (signs_by book plus) k ≡ Some (plus key.1.0 key.1.1) =
        slice_get-map (λ (one : Sum × (ℕ × ℕ)). plus one.1.0 one.1.1) (keys_of book) k ∙ ap (option_map (λ (one : Sum × (ℕ × ℕ)). plus one.1.0 one.1.1)) found
        in (
          key.1.0,
          key.1.1,
          record {
            at = at;
            is_for = record { cell_known = its.0; variable_known = its.1; is = its.2 ∙ ap Some sum };
            sign = read-some (signs_by book plus) k (plus key.1.0 key.1.1) true (sym read);
            place = its.3;
          },
        )

abbrev IsOnce : ℤ → Type 0
IsOnce z = (z ≡ pos 0) ⊎ ((z ≡ pos 1) ⊎ (z ≡ negsuc 0))

signed-once : (sign : Bool) (z : ℤ) → IsOnce z → IsOnce (number_with_sign sign z)
signed-once true z h = h
signed-once false z (inl h) = inl (omega (arith, ints, h))
signed-once false z (inr (inl h)) = inr (inr (omega (arith, ints, h)))
signed-once false z (inr (inr h)) = inr (inl (omega (arith, ints, h)))

counts-once : (cells : List Name) (tree : Tree) (name : Name) (number variable cell : ℕ) (z : ℤ) → Counts cells tree name number variable cell z → IsOnce z
counts-once cells tree name number variable cell z (inl none) = inl none
counts-once cells tree name number variable cell z (inr (inl total)) = inr (inl total.0)
counts-once cells tree name number variable cell z (inr (inr part)) = inr (inr part.0)

-- a relation with its sign counts as its cell and variable say
counted-by : (book : BookView) (relations : List Relation) (plus : ℕ → ℕ → Bool) (k number variable cell : ℕ) (r : Relation) → IsKeyed book relations plus k number variable r → signed_count relations (signs_by book plus) k cell ≡ number_with_sign (plus number variable) (count_of r cell)
counted-by book relations plus k number variable cell r is =
    ap (λ (found : Option Relation). number_with_sign (sign_of (signs_by book plus) k) (option_map_or (λ one. count_of one cell) found (pos 0))) is.at
    ∙ ap (λ (sign : Bool). number_with_sign sign (count_of r cell)) is.sign

signed-by : (book : BookView) (system : System) (plus : ℕ → ℕ → Bool) → IsBook book → IsSystemOf book system → AreAlone book plus → HaveSigns system.relations
signed-by book system plus is of alone = (
  signs_by book plus,
  record {
    each = length-map (keys_of book) (λ (key : Sum × (ℕ × ℕ)). plus key.1.0 key.1.1)
        ∙ sym (length-map (keys_of book) (λ (key : Sum × (ℕ × ℕ)). key.0))
        ∙ ap (λ (list : List Sum). length list) (sym (keys-are book system of))
        ∙ length-map system.relations sum_in;
    once = λ k cell. once k cell (slice_get system.relations k) refl;
    one_plus = λ one other cell first second. alike one other cell (pos 1) (λ h. absurd (omega (arith, ints, h))) first second;
    one_minus = λ one other cell first second. alike one other cell (negsuc 0) (λ h. absurd (omega (arith, ints, h))) first second;
  },
)
  where
    signs : List Bool
    signs = signs_by book plus

    none-is : (k cell : ℕ) → slice_get system.relations k ≡ None → signed_count system.relations signs k cell ≡ pos 0
    none-is k cell found = ap (λ (one : Option Relation). number_with_sign (sign_of signs k) (option_map_or (λ r. count_of r cell) one (pos 0))) found ∙ zero (sign_of signs k)
      where
        zero : (sign : Bool) → number_with_sign sign (pos 0) ≡ pos 0
        zero true = refl
        zero false = refl

    once : (k cell : ℕ) (found : Option Relation) → slice_get system.relations k ≡ found → IsOnce (signed_count system.relations signs k cell)
    once k cell None at = inl (none-is k cell at)
    once k cell (Some r) at =
        let key = keyed-by book system plus k r of at in
        let its = known book key.0 key.1 cell r is key.2.is_for in
        subst IsOnce (sym (counted-by book system.relations plus k key.0 key.1 cell r key.2))
        (signed-once (plus key.0 key.1) (count_of r cell) (counts-once (cells book) (tree_of book key.1) (name_in book key.0) key.0 key.1 cell (count_of r cell) its.each))

    both : (one other cell : ℕ) (z : ℤ) → z ≢ pos 0 → signed_count system.relations signs one cell ≡ z → signed_count system.relations signs other cell ≡ z → (a b : Option Relation) → slice_get system.relations one ≡ a → slice_get system.relations other ≡ b → one ≡ other
    both one other cell z some first second None b at also = absurd (some (sym first ∙ none-is one cell at))
    both one other cell z some first second (Some r) None at also = absurd (some (sym second ∙ none-is other cell also))
    both one other cell z some first second (Some r) (Some s) at also =
        let a = keyed-by book system plus one r of at in
        let b = keyed-by book system plus other s of also in
        let same = alone cell a.0 a.1 b.0 b.1 r s z a.2.is_for b.2.is_for some
        (sym (counted-by book system.relations plus one a.0 a.1 cell r a.2) ∙ first)
        (sym (counted-by book system.relations plus other b.0 b.1 cell s b.2) ∙ second)
        in
        a.2.place
        ∙ ap (λ (c : ℕ). item_place (relation_at book) (length book.trees) c a.1) same.0
        ∙ ap (λ (v : ℕ). item_place (relation_at book) (length book.trees) b.0 v) same.1
        ∙ sym b.2.place

    alike : (one other cell : ℕ) (z : ℤ) → z ≢ pos 0 → signed_count system.relations signs one cell ≡ z → signed_count system.relations signs other cell ≡ z → one ≡ other
    alike one other cell z some first second = both one other cell z some first second (slice_get system.relations one) (slice_get system.relations other) refl refl

-- ---- one variable

spanned-one : (below named : Bool) → ((below && named) || false) ≡ true → below ≡ true
spanned-one true named h = refl
spanned-one false named h = cc

-- the table of a book with one table goes below the code of each cell and variable that there is a relation for
spans-it : (book : BookView) (table : List Dimension) (number variable cell : ℕ) (r : Relation) → book.tables ≡ table ∷ [] → IsKnown book number variable cell r → spans_below book.trees variable (slice_index (name_in book number) variable) table ≡ true
spans-it book table number variable cell r one is =
    spanned-one (spans_below book.trees variable (slice_index (name_in book number) variable) table) (is_named (named_by book.trees table) (name_in book number))
    (subst (λ (tables : List (List Dimension)). is_spanned book.trees tables (name_in book number) variable ≡ true) one is.is_made.spanned)

-- two cells with children of which a cell is one have one name
same-above : (cells : List Name) (tree : Tree) (one other : Name) (variable cell : ℕ) → variable < length one → variable < length other → IsPart cells tree one variable cell → IsPart cells tree other variable cell → one ≡ other
same-above cells tree one other variable cell inside within first second =
    let both : slice_set one variable first.code ≡ slice_set other variable second.code = some-same (sym first.at ∙ second.at) in
    let code : first.code ≡ second.code = sym (get_or-set_same one variable first.code 0 inside) ∙ ap (λ (m : Name). slice_index m variable) both ∙ get_or-set_same other variable second.code 0 within in
    let above : slice_index one variable ≡ slice_index other variable = some-same (sym first.child ∙ ap (parent_at tree) code ∙ second.child) in
    sym (set-back one variable first.code (slice_index one variable) refl inside)
    ∙ ap (λ (m : Name). slice_set m variable (slice_index one variable)) both
    ∙ set-back other variable second.code (slice_index one variable) (sym above) within

-- two relations for one variable that count a cell alike are one cell's
same-total : (book : BookView) (one other variable cell : ℕ) (r s : Relation) (z : ℤ) → IsKnown book one variable cell r → IsKnown book other variable cell s → z ≢ pos 0 → count_of r cell ≡ z → count_of s cell ≡ z → one ≡ other
same-total book one other variable cell r s z first second some is also = by first.each second.each
  where
    by : Counts (cells book) (tree_of book variable) (name_in book one) one variable cell (count_of r cell) → Counts (cells book) (tree_of book variable) (name_in book other) other variable cell (count_of s cell) → one ≡ other
    by (inl none) b = absurd (some (sym is ∙ none))
    by (inr a) (inl none) = absurd (some (sym also ∙ none))
    by (inr (inl a)) (inr (inl b)) = sym a.1 ∙ b.1
    by (inr (inl a)) (inr (inr b)) = absurd (omega (arith, ints, is, also, a.0, b.0))
    by (inr (inr a)) (inr (inl b)) = absurd (omega (arith, ints, is, also, a.0, b.0))
    by (inr (inr a)) (inr (inr b)) =
        let name = same-above (cells book) (tree_of book variable) (name_in book one) (name_in book other) variable cell first.inside second.inside a.1 b.1 in
        one-number (cells book) one other (name_in book one) (once-cells book) first.at (second.at ∙ ap Some (sym name))

only : (trees : List Tree) (dimension : Dimension) (one code : ℕ) → spans_below trees one code (dimension ∷ []) ≡ true → dimension.variable ≡ one
only trees dimension one code h = eqb-true dimension.variable one (by (dimension.variable == one) (goes_below (cut_tree trees dimension) code) h)
  where
    by : (a b : Bool) → ((a && b) || false) ≡ true → a ≡ true
    by true b h = refl
    by false b h = cc

pub one_variable_has_signs : OneVariableHasSigns
one_variable_has_signs book dimension system is one of =
    signed-by book system (λ _ _. true) is of
    (λ cell c v d w r s z first second some a b.
    let here = known book c v cell r is first in
    let there = known book d w cell s is second in
    let same : v ≡ w =
    sym (only book.trees dimension v (slice_index (name_in book c) v) (spans-it book (dimension ∷ []) c v cell r one here))
    ∙ only book.trees dimension w (slice_index (name_in book d) w) (spans-it book (dimension ∷ []) d w cell s one there)
    in
    (same-total book c d v cell r s z here (subst (λ (u : ℕ). IsKnown book d u cell s) (sym same) there) some a b, same))

-- ---- two flat variables

abbrev differ : Bool → Bool → Bool
differ true b = not b
differ false b = b

-- The sign of the relation of a cell for a variable: of the lines along the first variable plus, but minus for the line of totals;
-- of those along the second one minus, but plus for the line of totals.
abbrev plus_in : BookView → ℕ → ℕ → ℕ → ℕ → Bool
plus_in book a b number variable = if variable == a then not (slice_index (name_in book number) b == 0) else (slice_index (name_in book number) a == 0)

-- the sign with which a line along the variable counts the cell of a name
abbrev sign_along : Name → ℕ → ℕ → ℕ → Bool
sign_along name a b variable = if variable == a then differ (slice_index name a == 0) (slice_index name b == 0) else not (differ (slice_index name a == 0) (slice_index name b == 0))

-- a cell that a line along a variable counts: the line's own name has the total's code in place of the cell's
record IsOnLine (book : BookView) (a b number variable cell : ℕ) (r : Relation) : Type 0 where
  pub name : Name
  pub at : slice_get (cells book) cell ≡ Some name
  pub line : name_in book number ≡ slice_set name variable 0
  pub sign : number_with_sign (plus_in book a b number variable) (count_of r cell) ≡ number_with_sign (sign_along name a b variable) (pos 1)

total-second : (x : Bool) → number_with_sign x (pos 1) ≡ number_with_sign (not (differ x true)) (pos 1)
total-second true = refl
total-second false = refl

part-first : (x : Bool) → number_with_sign (not x) (negsuc 0) ≡ number_with_sign (differ false x) (pos 1)
part-first true = refl
part-first false = refl

part-second : (x : Bool) → number_with_sign x (negsuc 0) ≡ number_with_sign (not (differ x false)) (pos 1)
part-second true = refl
part-second false = refl

-- the total of a line
total-sign : (book : BookView) (a b number variable : ℕ) → a ≢ b → (variable ≡ a) ⊎ (variable ≡ b) → slice_index (name_in book number) variable ≡ 0 → number_with_sign (plus_in book a b number variable) (pos 1) ≡ number_with_sign (sign_along (name_in book number) a b variable) (pos 1)
total-sign book a b number variable apart (inl is) none =
    let along : (variable == a) ≡ true = eq-eqb variable a is in
    let test : (slice_index (name_in book number) a == 0) ≡ true = eq-eqb (slice_index (name_in book number) a) 0 (subst (λ (v : ℕ). slice_index (name_in book number) v ≡ 0) is none) in
    rw (along, test) refl
total-sign book a b number variable apart (inr is) none =
    let along : (variable == a) ≡ false = ne_eqb variable a (λ same. apart (sym same ∙ is)) in
    let test : (slice_index (name_in book number) b == 0) ≡ true = eq-eqb (slice_index (name_in book number) b) 0 (subst (λ (v : ℕ). slice_index (name_in book number) v ≡ 0) is none) in
    rw (along, test) (total-second (slice_index (name_in book number) a == 0))

-- a part of a line
part-sign : (book : BookView) (a b number variable code : ℕ) → a ≢ b → (variable ≡ a) ⊎ (variable ≡ b) → variable < length (name_in book number) → code ≢ 0
    → number_with_sign (plus_in book a b number variable) (negsuc 0) ≡ number_with_sign (sign_along (slice_set (name_in book number) variable code) a b variable) (pos 1)
part-sign book a b number variable code apart (inl is) inside some =
    let name = name_in book number in
    let along : (variable == a) ≡ true = eq-eqb variable a is in
    let here : slice_index (slice_set name variable code) a ≡ code = subst (λ (v : ℕ). slice_index (slice_set name variable code) v ≡ code) is (get_or-set_same name variable code 0 inside) in
    let test : (slice_index (slice_set name variable code) a == 0) ≡ false = ne_eqb (slice_index (slice_set name variable code) a) 0 (λ none. some (sym here ∙ none)) in
    let there : slice_index (slice_set name variable code) b ≡ slice_index name b = get_or-set_other name variable b code 0 (λ same. apart (sym is ∙ sym same)) in
    rw (along, test, there) (part-first (slice_index name b == 0))
part-sign book a b number variable code apart (inr is) inside some =
    let name = name_in book number in
    let along : (variable == a) ≡ false = ne_eqb variable a (λ same. apart (sym same ∙ is)) in
    let here : slice_index (slice_set name variable code) b ≡ code = subst (λ (v : ℕ). slice_index (slice_set name variable code) v ≡ code) is (get_or-set_same name variable code 0 inside) in
    let test : (slice_index (slice_set name variable code) b == 0) ≡ false = ne_eqb (slice_index (slice_set name variable code) b) 0 (λ none. some (sym here ∙ none)) in
    let there : slice_index (slice_set name variable code) a ≡ slice_index name a = get_or-set_other name variable a code 0 (λ same. apart (same ∙ is)) in
    rw (along, test, there) (part-second (slice_index name a == 0))

on-line : (book : BookView) (a b number variable cell : ℕ) (r : Relation) → a ≢ b → (variable ≡ a) ⊎ (variable ≡ b) → slice_index (name_in book number) variable ≡ 0 → IsKnown book number variable cell r → count_of r cell ≢ pos 0 → IsOnLine book a b number variable cell r
on-line book a b number variable cell r apart two none is some = by is.each
  where
    name : Name
    name = name_in book number

    by : Counts (cells book) (tree_of book variable) name number variable cell (count_of r cell) → IsOnLine book a b number variable cell r
    by (inl zero) = absurd (some zero)
    by (inr (inl total)) = record {
      name = name;
      at = ap (slice_get (cells book)) total.1 ∙ is.at;
      line = sym (set-itself name variable 0 none is.inside);
      sign = ap (number_with_sign (plus_in book a b number variable)) total.0 ∙ total-sign book a b number variable apart two none;
    }
    by (inr (inr part)) =
        let later : slice_index name variable < part.1.code = parent_is_earlier (tree_of book variable) is.good part.1.code (slice_index name variable) part.1.child in
        record {
          name = slice_set name variable part.1.code;
          at = part.1.at;
          line = sym (set-back name variable part.1.code 0 none is.inside);
          sign = ap (number_with_sign (plus_in book a b number variable)) part.0 ∙ part-sign book a b number variable part.1.code apart two is.inside (λ zero. absurd (omega (arith, zero, later)));
        }

signed-alike : (x y : Bool) → number_with_sign x (pos 1) ≡ number_with_sign y (pos 1) → x ≡ y
signed-alike true true h = refl
signed-alike true false h = absurd (omega (arith, ints, h))
signed-alike false true h = absurd (omega (arith, ints, h))
signed-alike false false h = refl

not-other : (x : Bool) → x ≡ not x → ⊥
not-other true h = absurd cc
not-other false h = absurd cc

-- lines along both variables count a cell with opposite signs
along-one : (name : Name) (a b first second : ℕ) → a ≢ b → (first ≡ a) ⊎ (first ≡ b) → (second ≡ a) ⊎ (second ≡ b) → sign_along name a b first ≡ sign_along name a b second → first ≡ second
along-one name a b first second apart (inl is) (inl also) same = is ∙ sym also
along-one name a b first second apart (inl is) (inr also) same =
    let one : (first == a) ≡ true = eq-eqb first a is in
    let two : (second == a) ≡ false = ne_eqb second a (λ too. apart (sym too ∙ also)) in
    absurd (not-other (differ (slice_index name a == 0) (slice_index name b == 0)) (rw (one, two) at same))
along-one name a b first second apart (inr is) (inl also) same =
    let one : (first == a) ≡ false = ne_eqb first a (λ too. apart (sym too ∙ is)) in
    let two : (second == a) ≡ true = eq-eqb second a also in
    absurd (not-other (differ (slice_index name a == 0) (slice_index name b == 0)) (sym (rw (one, two) at same)))
along-one name a b first second apart (inr is) (inr also) same = is ∙ sym also

signed-zero : (sign : Bool) (z : ℤ) → z ≡ pos 0 → number_with_sign sign z ≡ pos 0
signed-zero true z h = h
signed-zero false z h = omega (arith, ints, h)

-- one of two dimensions is of the variable, and goes below the code
of-two : (trees : List Tree) (a b : Dimension) (variable code : ℕ) → spans_below trees variable code (a ∷ b ∷ []) ≡ true
    → ((variable ≡ a.variable) × (goes_below (cut_tree trees a) code ≡ true)) ⊎ ((variable ≡ b.variable) × (goes_below (cut_tree trees b) code ≡ true))
of-two trees a b variable code h = by (a.variable == variable) (goes_below (cut_tree trees a) code) (b.variable == variable) (goes_below (cut_tree trees b) code) refl refl refl refl h
  where
    by : (x u y v : Bool) → (a.variable == variable) ≡ x → goes_below (cut_tree trees a) code ≡ u → (b.variable == variable) ≡ y → goes_below (cut_tree trees b) code ≡ v → ((x && u) || ((y && v) || false)) ≡ true
        → ((variable ≡ a.variable) × (goes_below (cut_tree trees a) code ≡ true)) ⊎ ((variable ≡ b.variable) × (goes_below (cut_tree trees b) code ≡ true))
    by true true y v is goes also too h = inl (sym (eqb-true a.variable variable is), goes)
    by true false true true is goes also too h = inr (sym (eqb-true b.variable variable also), too)
    by true false true false is goes also too h = cc
    by true false false v is goes also too h = cc
    by false u true true is goes also too h = inr (sym (eqb-true b.variable variable also), too)
    by false u true false is goes also too h = cc
    by false u false v is goes also too h = cc

-- a code above which a flat tree has codes is the total's
flat-total : (book : BookView) (a : Dimension) (variable child above : ℕ) → IsFlat (cut_tree book.trees a) → IsCodeTree (tree_of book variable) → variable ≡ a.variable → goes_below (cut_tree book.trees a) above ≡ true → parent_at (tree_of book variable) child ≡ Some above → above ≡ 0
flat-total book a variable child above flat good same goes up =
    let tree : IsCodeTree (cut_tree book.trees a).tree = subst (λ (v : ℕ). IsCodeTree (tree_of book v)) same good in
    let parent : parent_at (cut_tree book.trees a).tree child ≡ Some above = subst (λ (v : ℕ). parent_at (tree_of book v) child ≡ Some above) same up in
    flat child above (sym (child-within (cut_tree book.trees a) tree child above parent) ∙ goes) parent

-- a table has two variables only where they differ
two-apart : (a b : Dimension) → has_twice (a ∷ b ∷ []) ≡ false → a.variable ≢ b.variable
two-apart a b h same = let test : (b.variable == a.variable) ≡ true = eq-eqb b.variable a.variable (sym same) in clash (rw test at h)
  where
    clash : true ≡ false → ⊥
    clash h = absurd cc

pub two_flat_variables_have_signs : TwoFlatVariablesHaveSigns
two_flat_variables_have_signs book a b system is one flat_first flat_second of =
    signed-by book system (plus_in book a.variable b.variable) is of
    (λ cell c v d w r s z first second some left right.
    let here = known book c v cell r is first in
    let there = known book d w cell s is second in
    let v_is = which c v cell r here in
    let w_is = which d w cell s there in
    let up = on-line book a.variable b.variable c v cell r apart v_is.0 v_is.1 here (λ none. some (sym left ∙ signed-zero (plus_in book a.variable b.variable c v) (count_of r cell) none)) in
    let down = on-line book a.variable b.variable d w cell s apart w_is.0 w_is.1 there (λ none. some (sym right ∙ signed-zero (plus_in book a.variable b.variable d w) (count_of s cell) none)) in
    let name : up.name ≡ down.name = some-same (sym up.at ∙ down.at) in
    let alike : sign_along up.name a.variable b.variable v ≡ sign_along up.name a.variable b.variable w =
    signed-alike (sign_along up.name a.variable b.variable v) (sign_along up.name a.variable b.variable w)
    (sym up.sign ∙ left ∙ sym right ∙ down.sign ∙ ap (λ (n : Name). number_with_sign (sign_along n a.variable b.variable w) (pos 1)) (sym name))
    in
    let same : v ≡ w = along-one up.name a.variable b.variable v w apart v_is.0 w_is.0 alike in
    let line : name_in book c ≡ name_in book d = up.line ∙ ap (λ (u : ℕ). slice_set up.name u 0) same ∙ ap (λ (n : Name). slice_set n w 0) name ∙ sym down.line in
    (one-number (cells book) c d (name_in book c) (once-cells book) here.at (there.at ∙ ap Some (sym line)), same))
  where
    apart : a.variable ≢ b.variable
    apart = two-apart a b (tables-of book is 0 (a ∷ b ∷ []) (ap (λ (list : List (List Dimension)). slice_get list 0) one)).once

    -- the variable is one of the two, and the cell's code for it is the total's
    which : (number variable cell : ℕ) (r : Relation) → IsKnown book number variable cell r → ((variable ≡ a.variable) ⊎ (variable ≡ b.variable)) × (slice_index (name_in book number) variable ≡ 0)
    which number variable cell r its = by (of-two book.trees a b variable (slice_index (name_in book number) variable) (spans-it book (a ∷ b ∷ []) number variable cell r one its))
      where
        by : ((variable ≡ a.variable) × (goes_below (cut_tree book.trees a) (slice_index (name_in book number) variable) ≡ true)) ⊎ ((variable ≡ b.variable) × (goes_below (cut_tree book.trees b) (slice_index (name_in book number) variable) ≡ true))
            → ((variable ≡ a.variable) ⊎ (variable ≡ b.variable)) × (slice_index (name_in book number) variable ≡ 0)
        by (inl two) = (inl two.0, flat-total book a variable its.is_made.child.0 (slice_index (name_in book number) variable) flat_first its.good two.0 two.1 its.is_made.child.1)
        by (inr two) = (inr two.0, flat-total book b variable its.is_made.child.0 (slice_index (name_in book number) variable) flat_second its.good two.0 two.1 its.is_made.child.1)

signs-by : (trees : List Tree) (tables : List (List Dimension)) (book : BookView) (system : System) → IsOneOrTwoWay trees tables → book.trees ≡ trees → book.tables ≡ tables → IsBook book → IsSystemOf book system → HaveSigns system.relations
signs-by trees [] book system shape same_trees same_tables is_book is = absurd shape
signs-by trees ([] ∷ tables) book system shape same_trees same_tables is_book is = absurd shape
signs-by trees ((dimension ∷ []) ∷ []) book system shape same_trees same_tables is_book is = one_variable_has_signs book dimension system is_book same_tables is
signs-by trees ((dimension ∷ []) ∷ (table ∷ tables)) book system shape same_trees same_tables is_book is = absurd shape
signs-by trees ((one ∷ other ∷ []) ∷ []) book system shape same_trees same_tables is_book is =
    two_flat_variables_have_signs book one other system is_book same_tables
    (subst (λ (ts : List Tree). IsFlat (cut_tree ts one)) (sym same_trees) shape.0)
    (subst (λ (ts : List Tree). IsFlat (cut_tree ts other)) (sym same_trees) shape.1) is
signs-by trees ((one ∷ other ∷ []) ∷ (table ∷ tables)) book system shape same_trees same_tables is_book is = absurd shape
signs-by trees ((one ∷ other ∷ third ∷ more) ∷ tables) book system shape same_trees same_tables is_book is = absurd shape

-- the relations of one table of one variable, and of two flat ones, have signs
pub one_or_two_way_has_signs : OneOrTwoWayHasSigns
one_or_two_way_has_signs book system shape is_book is = signs-by book.trees book.tables book system shape refl refl is_book is
