-- How often the relation of a cell for a variable counts a cell: once as its total, less once as a part.
use Rattle.std.proofs.Common.{◌≡◌, ◌⊎◌, inl, inr, ℕ, zero, suc, ◌+◌, ◌<◌, ◌≤◌, ◌==◌, ◌&&◌, not, Bool, true, false, cond, List, [], ◌∷◌, length, filter, slice_get, slice_index, slice_index_or, slice_set, bytes_eq, if◌then◌else◌, Option, None, Some, ℤ, pos, negsuc, neg_ℤ, ◌+ℤ◌, arith, refl, ap, sym, ◌∙◌, subst}
use Rattle.std.specs.List.{cons_option, count_by, range_with_len, IsDistinct}
use Rattle.std.specs.Option.{option_map_or}
use Rattle.std.proofs.lemmas.Bool.{eqb-true}
use Rattle.std.proofs.lemmas.Int.{ints}
use Rattle.std.proofs.lemmas.List.{get_or-set_same}
use Rattle.std.proofs.lemmas.List.Sums.{sum_by-cons}
use Rattle.sdc_base.specs.Trees.{Tree, IsCodeTree, is_child, parent_at}
use Rattle.sdc_base.specs.Records.{Name}
use Rattle.sdc_base.specs.Cells.{cells_of}
use Rattle.sdc_base.specs.Relations.{Sum, codes_below, is_spanned, number_among, parts_among, relation_for}
use Rattle.sdc_base.specs.Forms.{count_of}
use Rattle.sdc_base.specs.declared.dimension.Dimension.{Dimension}
use Rattle.sdc_base.specs.declared.relation.Relation.{Relation}
use Rattle.sdc_base.proofs.Counted.{counted_is}
use Rattle.sdc_base.proofs.Walks.{parent_is_earlier}
use Rattle.linked_tables.proofs.Finding.{found-name}
use Rattle.linked_tables.proofs.Guessing.{found-where}

some-same : {X : Type 0} {a b : X} → Some a ≡ Some b → a ≡ b
some-same h = cc

-- ---- children

pub child-parent : (tree : Tree) (above code : ℕ) → is_child tree above code ≡ true → parent_at tree code ≡ Some above
child-parent tree above code h = by (parent_at tree code) h
  where
    by : (found : Option ℕ) → option_map_or (λ parent. parent == above) found false ≡ true → found ≡ Some above
    by None h = absurd cc
    by (Some parent) h = ap Some (eqb-true parent above h)

-- some code passes where not none is kept
pub some-kept : (test : ℕ → Bool) (list : List ℕ) → not (length (filter test list) == 0) ≡ true → (code : ℕ) × (test code ≡ true)
some-kept test [] h = absurd cc
some-kept test (code ∷ list) h =
    elim (test code) as (λ b. test code ≡ b → not (length (cond b (code ∷ filter test list) (filter test list)) == 0) ≡ true → (one : ℕ) × (test one ≡ true)) [
      | true ↦ λ is _. (code, is)
      | false ↦ λ _ rest. some-kept test list rest
    ] refl h

-- ---- names

-- the cells stand once each
pub one-number : (names : List Name) (one other : ℕ) (name : Name) → IsDistinct bytes_eq names → slice_get names one ≡ Some name → slice_get names other ≡ Some name → one ≡ other
one-number names one other name once first second = some-same (sym (found-where names one name once first) ∙ found-where names other name once second)

pub set-itself : (name : Name) (variable code : ℕ) → slice_index name variable ≡ code → variable < length name → slice_set name variable code ≡ name
set-itself [] variable code is inside = absurd (omega (arith, inside))
set-itself (first ∷ name) zero code is inside = ap (λ (c : ℕ). c ∷ name) (sym is)
set-itself (first ∷ name) (suc variable) code is inside = ap (λ (rest : List ℕ). first ∷ rest) (set-itself name variable code is (omega (arith, inside)))

pub set-twice : (name : Name) (variable code other : ℕ) → slice_set (slice_set name variable code) variable other ≡ slice_set name variable other
set-twice [] variable code other = refl
set-twice (first ∷ name) zero code other = refl
set-twice (first ∷ name) (suc variable) code other = ap (λ (rest : List ℕ). first ∷ rest) (set-twice name variable code other)

-- a name with another code, and its own code again
pub set-back : (name : Name) (variable code above : ℕ) → slice_index name variable ≡ above → variable < length name → slice_set (slice_set name variable code) variable above ≡ name
set-back name variable code above is inside = set-twice name variable code above ∙ set-itself name variable above is inside

-- ---- the parts of a relation, each once

-- the cell's name is that of a child in place of its parent
pub record IsPart (cells : List Name) (tree : Tree) (name : Name) (variable cell : ℕ) : Type 0 where
  pub code : ℕ
  pub child : parent_at tree code ≡ Some (slice_index name variable)
  pub at : slice_get cells cell ≡ Some (slice_set name variable code)

abbrev IsOncePart : List Name → Tree → Name → ℕ → ℕ → ℕ → ℕ → ℕ → Type 0
IsOncePart cells tree name variable above cell start n =
    (n ≡ 0) ⊎ ((n ≡ 1) × ((code : ℕ) × (start ≤ code) × (is_child tree above code ≡ true) × (slice_get cells cell ≡ Some (slice_set name variable code))))

parts-once : (cells : List Name) (tree : Tree) (name : Name) (variable above cell start n : ℕ) → variable < length name → IsOncePart cells tree name variable above cell start (count_by (λ part. part == cell) (parts_among cells name variable (filter (is_child tree above) (range_with_len start n))))
parts-once cells tree name variable above cell start zero inside = inl refl
parts-once cells tree name variable above cell start (suc n) inside =
    let rest = parts-once cells tree name variable above cell (start + 1) n inside in
    elim (is_child tree above start) as (λ b. is_child tree above start ≡ b → IsOncePart cells tree name variable above cell start (count_by (λ part. part == cell) (parts_among cells name variable (cond b (start ∷ filter (is_child tree above) (range_with_len (start + 1) n)) (filter (is_child tree above) (range_with_len (start + 1) n)))))) [
      | true ↦ λ is. here rest is (number_among cells (slice_set name variable start)) refl
      | false ↦ λ _. later rest
    ] refl
  where
    left : List ℕ
    left = parts_among cells name variable (filter (is_child tree above) (range_with_len (start + 1) n))

    zero-plus : (m : ℕ) → m ≡ 0 + m
    zero-plus m = omega arith

    later : {m : ℕ} → IsOncePart cells tree name variable above cell (start + 1) m → IsOncePart cells tree name variable above cell start m
    later (inl none) = inl none
    later (inr one) = inr (one.0, (one.1.0, omega (arith, one.1.1), one.1.2, one.1.3))

    here : IsOncePart cells tree name variable above cell (start + 1) (count_by (λ part. part == cell) left) → is_child tree above start ≡ true → (found : Option ℕ) → number_among cells (slice_set name variable start) ≡ found → IsOncePart cells tree name variable above cell start (count_by (λ part. part == cell) (cons_option found left))
    here rest is None at = later rest
    here rest is (Some number) at =
        subst (IsOncePart cells tree name variable above cell start) (sym (sum_by-cons (λ part. cond (part == cell) 1 0) number left))
        (elim (number == cell) as (λ b. (number == cell) ≡ b → IsOncePart cells tree name variable above cell start (cond b 1 0 + count_by (λ part. part == cell) left)) [
          | true ↦ λ test.
              let stands : slice_get cells cell ≡ Some (slice_set name variable start) = subst (λ (m : ℕ). slice_get cells m ≡ Some (slice_set name variable start)) (eqb-true number cell test) (found-name cells (slice_set name variable start) number at) in
              elim rest as (λ _. IsOncePart cells tree name variable above cell start (1 + count_by (λ part. part == cell) left)) [
                | inl none ↦ inr (omega (arith, none), (start, omega arith, is, stands))
                | inr one ↦
                    absurd (let both : slice_set name variable one.1.0 ≡ slice_set name variable start = some-same (sym one.1.3 ∙ stands) in
                    let codes : one.1.0 ≡ start = sym (get_or-set_same name variable one.1.0 0 inside) ∙ ap (λ (m : Name). slice_index m variable) both ∙ get_or-set_same name variable start 0 inside in
                    omega (arith, codes, one.1.1))
              ]
          | false ↦ λ _. subst (IsOncePart cells tree name variable above cell start) (zero-plus (count_by (λ part. part == cell) left)) (later rest)
        ] refl)

-- ---- what a relation counts

-- the relation of a cell for a variable
pub record IsRelationFor (trees : List Tree) (tables : List (List Dimension)) (number variable : ℕ) (r : Relation) : Type 0 where
  pub cell_known : number < length (cells_of trees tables)
  pub variable_known : variable < length trees
  pub is : relation_for trees tables number (slice_index_or (cells_of trees tables) number []) variable ≡ Some (r.total, r.parts)

-- what there is of it: the table, a child, its total and its parts
pub record IsMade (trees : List Tree) (tables : List (List Dimension)) (number variable : ℕ) (name : Name) (r : Relation) : Type 0 where
  pub spanned : is_spanned trees tables name variable ≡ true
  pub child : (code : ℕ) × (parent_at (slice_index_or trees variable []) code ≡ Some (slice_index name variable))
  pub total_is : r.total ≡ number
  pub parts_are : r.parts ≡ parts_among (cells_of trees tables) name variable (codes_below trees name variable)

pub made : (trees : List Tree) (tables : List (List Dimension)) (number variable : ℕ) (name : Name) (r : Relation) → relation_for trees tables number name variable ≡ Some (r.total, r.parts) → IsMade trees tables number variable name r
made trees tables number variable name r is = by (is_spanned trees tables name variable) (not (length (codes_below trees name variable) == 0)) refl refl is
  where
    tree : Tree
    tree = slice_index_or trees variable []

    parts : List ℕ
    parts = parts_among (cells_of trees tables) name variable (codes_below trees name variable)

    by : (a b : Bool) → is_spanned trees tables name variable ≡ a → not (length (codes_below trees name variable) == 0) ≡ b → if◌then◌else◌ {A = Option Sum} (a && b) (Some (number, parts)) None ≡ Some (r.total, r.parts) → IsMade trees tables number variable name r
    by true true spanned some h =
        let one = some-kept (is_child tree (slice_index name variable)) (range_with_len 0 (length tree)) some in
        let same : (number, parts) ≡ (r.total, r.parts) = some-same h in
        record {
          spanned = spanned;
          child = (one.0, child-parent tree (slice_index name variable) one.0 one.1);
          total_is = sym (ap (λ (s : Sum). s.0) same);
          parts_are = sym (ap (λ (s : Sum). s.1) same);
        }
    by true false spanned some h = absurd cc
    by false b spanned some h = absurd cc

-- the cell isn't counted, or is the total, or is one of the parts, once
abbrev pub Counts : List Name → Tree → Name → ℕ → ℕ → ℕ → ℤ → Type 0
Counts cells tree name number variable cell z = (z ≡ pos 0) ⊎ (((z ≡ pos 1) × (cell ≡ number)) ⊎ ((z ≡ negsuc 0) × IsPart cells tree name variable cell))

pub counts : (trees : List Tree) (tables : List (List Dimension)) (number variable cell : ℕ) (name : Name) (r : Relation) → IsCodeTree (slice_index_or trees variable []) → variable < length name → slice_get (cells_of trees tables) number ≡ Some name → IsMade trees tables number variable name r
    → Counts (cells_of trees tables) (slice_index_or trees variable []) name number variable cell (count_of r cell)
counts trees tables number variable cell name r good inside at is =
    let whole : count_of r cell ≡ (if number == cell then pos 1 else pos 0) +ℤ neg_ℤ (pos (count_by (λ part. part == cell) parts)) =
    counted_is r cell ∙ ap (λ (t : ℕ). (if t == cell then pos 1 else pos 0) +ℤ neg_ℤ (pos (count_by (λ part. part == cell) r.parts))) is.total_is ∙ ap (λ (list : List ℕ). (if number == cell then pos 1 else pos 0) +ℤ neg_ℤ (pos (count_by (λ part. part == cell) list))) is.parts_are
    in
    elim (number == cell) as (λ b. (number == cell) ≡ b → count_of r cell ≡ (if b then pos 1 else pos 0) +ℤ neg_ℤ (pos (count_by (λ part. part == cell) parts)) → Counts cells tree name number variable cell (count_of r cell)) [
      | true ↦ λ test w.
          elim (parts-once cells tree name variable (slice_index name variable) cell 0 (length tree) inside) as (λ _. Counts cells tree name number variable cell (count_of r cell)) [
            | inl none ↦ inr (inl (omega (arith, ints, w, none), sym (eqb-true number cell test)))
            | inr one ↦ absurd (own one.1.0 (child-parent tree (slice_index name variable) one.1.0 one.1.2) (subst (λ (m : ℕ). slice_get cells m ≡ Some (slice_set name variable one.1.0)) (sym (eqb-true number cell test)) one.1.3))
          ]
      | false ↦ λ _ w.
          elim (parts-once cells tree name variable (slice_index name variable) cell 0 (length tree) inside) as (λ _. Counts cells tree name number variable cell (count_of r cell)) [
            | inl none ↦ inl (omega (arith, ints, w, none))
            | inr one ↦ inr (inr (omega (arith, ints, w, one.0), record { code = one.1.0; child = child-parent tree (slice_index name variable) one.1.0 one.1.2; at = one.1.3 }))
          ]
    ] refl whole
  where
    tree : Tree
    tree = slice_index_or trees variable []

    cells : List Name
    cells = cells_of trees tables

    parts : List ℕ
    parts = parts_among cells name variable (codes_below trees name variable)

    -- no cell is a part of its own
    own : (code : ℕ) → parent_at tree code ≡ Some (slice_index name variable) → slice_get cells number ≡ Some (slice_set name variable code) → ⊥
    own code child stands =
        let same : name ≡ slice_set name variable code = some-same (sym at ∙ stands) in
        let codes : slice_index name variable ≡ code = ap (λ (m : Name). slice_index m variable) same ∙ get_or-set_same name variable code 0 inside in
        omega (arith, codes, parent_is_earlier tree good code (slice_index name variable) child)
