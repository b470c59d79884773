-- The problem of a question where fewer cells are hidden is part of the problem where more are.
use Rattle.std.proofs.Common.{◌≡◌, ℕ, ◌+◌, ◌*◌, ◌/◌, ◌%◌, ◌<◌, ◌==◌, ◌&&◌, ◌||◌, not, nat_lt, Bool, true, false, List, [], ◌∷◌, ◌++◌, length, map, filter, get_or, slice_index, slice_get, None, Some, All, ℤ, pos, negsuc, neg_ℤ, ◌-ℤ◌, ◌*ℤ◌, arith, refl, ap, sym, ◌∙◌, subst, if◌then◌else◌, is_some, length-append}
use Rattle.std.specs.List.{flat_map, list_any, range_with_len}
use Rattle.std.specs.Option.{option_map_or}
use Rattle.std.proofs.Math.IntN.{*ℤ_comm}
use Rattle.std.proofs.lemmas.Int.{ints}
use Rattle.std.proofs.lemmas.Bool.Decides.{Decides-eqb, nat_tests}
use Rattle.std.proofs.lemmas.List.{length-map}
use Rattle.std.proofs.lemmas.List.Elements.{filter-append, All-nil, All-cons, All-head, All-tail, All-weaker}
use Rattle.sdc_base.specs.declared.cell.Cell.{Cell}
use Rattle.sdc_base.specs.declared.relation.Relation.{Relation}
use Rattle.sdc_base.specs.declared.system.System.{System}
use Rattle.sdc_base.specs.Components.{mentions}
use Rattle.sdc_base.specs.Forms.{Term, form_times}
use Rattle.sdc_base.specs.HiddenSets.{is_hidden}
use Rattle.sdc_base.specs.Systems.{Numbers, NamesCells}
use Rattle.sdc_base.proofs.TotalLemmas.{sum_of-cons}
use Rattle.sdc_base.proofs.WeakDual.{value_of}
use Rattle.tableau.specs.declared.problem.LinRow.{LinRow}
use Rattle.tableau.specs.PartProblems.{Selection, amounts_in_whole, amounts_in_part, IsPartOf, SelectsRows}
use Rattle.tableau.specs.Problems as problems
use Rattle.interval_audit.specs.declared.question.Question.{Question}
use Rattle.interval_audit.specs.Groups.{Group, IsGroup, members}
use Rattle.interval_audit.specs.Columns.{rank, up_column, down_column, moves_of, entries_of}
use Rattle.interval_audit.specs.Labels.{Label, CapAbove, CapBelow, Form, Negated, caps_for, forms_for, is_met, met_relations, labels, form_at}
use Rattle.interval_audit.specs.Points.{comes_to}
use Rattle.interval_audit.specs.Problems.{problem_of, row_of, rows_of, asked_move}
use Rattle.interval_audit.proofs.Ranks.{IsAt, member_at, rank-less, rank-same}
use Rattle.interval_audit.proofs.Moves.{form_comes_to, found_inside, terms_inside, moves_in, moves_out, unmet_holds, cap_comes_to}
use Rattle.interval_audit.proofs.Points.{meets}
use Rattle.interval_audit.proofs.Selecting.{passes_at, place_among, place_of, place_ascend, place_passes, place_within, among_within, place_stands, rows_match, rows_out, filter_both, filter_flat}
use Rattle.interval_audit.proofs.Spread.{entries_are_value}
use Rattle.interval_audit.proofs.Weights.{IsLabel, labels_are}

-- the cell of a column
abbrev pub cell_of_column : Group → ℕ → ℕ → ℕ
cell_of_column group n column = slice_index (members group n) (column / 2)

-- it is a column, and its cell isn't among the hidden ones
abbrev pub is_left_out : List Bool → Group → ℕ → ℕ → Bool
is_left_out flags group n column =
    nat_lt column (2 * length (members group n)) && not (is_hidden flags (cell_of_column group n column))

-- ---- the columns of a cell

pub half_up : (r : ℕ) → (2 * r) / 2 ≡ r
half_up r = omega arith

pub half_down : (r : ℕ) → (2 * r + 1) / 2 ≡ r
half_down r = omega arith

pub rest_up : (r : ℕ) → (2 * r) % 2 ≡ 0
rest_up r = omega arith

pub rest_down : (r : ℕ) → (2 * r + 1) % 2 ≡ 1
rest_down r = omega arith

pub member_of : (group : Group) (n c : ℕ) → c < n → group c ≡ true → slice_index (members group n) (rank group c) ≡ c
member_of group n c below own =
    let at : IsAt group n (rank group c) (slice_index (members group n) (rank group c)) = member_at group n (rank group c) 0 (rank-less group c n own below) in
    (Decides-eqb (slice_index (members group n) (rank group c)) c).0 (sym (rank-same group (slice_index (members group n) (rank group c)) c at.inside own) ∙ (Decides-eqb (rank group (slice_index (members group n) (rank group c))) (rank group c)).1 at.ranked)

pub cell_up : (group : Group) (n c : ℕ) → c < n → group c ≡ true → cell_of_column group n (up_column group c) ≡ c
cell_up group n c below own = ap (slice_index (members group n)) (half_up (rank group c)) ∙ member_of group n c below own

pub cell_down : (group : Group) (n c : ℕ) → c < n → group c ≡ true → cell_of_column group n (down_column group c) ≡ c
cell_down group n c below own = ap (slice_index (members group n)) (half_down (rank group c)) ∙ member_of group n c below own

-- the column of the same cell, to the same side, in another group
abbrev pub carried : Group → Group → ℕ → ℕ → ℕ
carried from to n column = 2 * rank to (cell_of_column from n column) + column % 2

carried_up : (from to : Group) (n c : ℕ) → c < n → from c ≡ true → carried from to n (up_column from c) ≡ up_column to c
carried_up from to n c below own =
    let cell : rank to (cell_of_column from n (up_column from c)) ≡ rank to c = ap (rank to) (cell_up from n c below own) in
    omega (arith, cell, rest_up (rank from c))

carried_down : (from to : Group) (n c : ℕ) → c < n → from c ≡ true → carried from to n (down_column from c) ≡ down_column to c
carried_down from to n c below own =
    let cell : rank to (cell_of_column from n (down_column from c)) ≡ rank to c = ap (rank to) (cell_down from n c below own) in
    omega (arith, cell, rest_down (rank from c))

-- ---- what is selected

-- whether the smaller group has what a label names
abbrev pub keeps : Group → List Relation → Label → Bool
keeps group relations (CapAbove cell) = group cell
keeps group relations (CapBelow cell) = group cell
keeps group relations (Form number) = meets group relations number
keeps group relations (Negated number) = meets group relations number

abbrev pub selection : System → List Cell → List Bool → Group → Group → Selection
selection system cells flags group smaller = record {
  has_column = λ column. smaller (cell_of_column group system.cells column);
  column_in_part = carried group smaller system.cells;
  column_in_whole = carried smaller group system.cells;
  has_row = passes_at (keeps smaller system.relations) (labels system.relations cells group system.cells);
  row_in_part = place_among (keeps smaller system.relations) (labels system.relations cells group system.cells);
  row_in_whole = place_of (keeps smaller system.relations) (labels system.relations cells group system.cells);
  leaves_out = is_left_out flags group system.cells;
}

-- a group for fewer hidden cells, within one for more
pub record AreGroups (system : System) (flags : List Bool) (group smaller : Group) (asked : ℕ) : Type 0 where
  pub is_group : IsGroup system flags smaller asked
  pub within : (cell : ℕ) → smaller cell ≡ true → group cell ≡ true

-- ---- labels

caps_kept : (smaller : Group) (relations : List Relation) (cells : List Cell) (c : ℕ) → filter (keeps smaller relations) (caps_for cells c) ≡ (if smaller c then caps_for cells c else [])
caps_kept smaller relations cells c =
    elim (option_map_or (λ (cell : Cell). is_some cell.high) (slice_get cells c) false) as (λ b. filter (keeps smaller relations) (if b then CapAbove c ∷ CapBelow c ∷ [] else CapBelow c ∷ []) ≡ (if smaller c then (if b then CapAbove c ∷ CapBelow c ∷ [] else CapBelow c ∷ []) else [])) [
      | true ↦ elim (smaller c) as (λ b. (if b then CapAbove c ∷ (if b then CapBelow c ∷ [] else []) else (if b then CapBelow c ∷ [] else [])) ≡ (if b then CapAbove c ∷ CapBelow c ∷ [] else [])) [ true ↦ refl | false ↦ refl ]
      | false ↦ refl
    ]

forms_kept : (smaller : Group) (relations : List Relation) (k : ℕ) → filter (keeps smaller relations) (forms_for k) ≡ (if meets smaller relations k then forms_for k else [])
forms_kept smaller relations k =
    elim (meets smaller relations k) as (λ b. (if b then Form k ∷ (if b then Negated k ∷ [] else []) else (if b then Negated k ∷ [] else [])) ≡ (if b then Form k ∷ Negated k ∷ [] else [])) [ true ↦ refl | false ↦ refl ]

pub any_more : (p r : ℕ → Bool) (xs : List ℕ) → ((x : ℕ) → p x ≡ true → r x ≡ true) → list_any p xs ≡ true → list_any r xs ≡ true
any_more p r [] each any = any
any_more p r (x ∷ xs) each any =
    elim (p x) as (λ b. p x ≡ b → (b || list_any p xs) ≡ true → (r x || list_any r xs) ≡ true) [
      | true ↦ λ is _. ap (λ b. b || list_any r xs) (each x is)
      | false ↦ λ is rest. elim (r x) as (λ b. (b || list_any r xs) ≡ true) [ true ↦ refl | false ↦ any_more p r xs each rest ]
    ] refl any

pub met_more : (group smaller : Group) (r : Relation) → ((c : ℕ) → smaller c ≡ true → group c ≡ true) → is_met smaller r ≡ true → is_met group r ≡ true
met_more group smaller r each met = any_more smaller group (r.total ∷ r.parts) each met

pub meets_more : (group smaller : Group) (relations : List Relation) (k : ℕ) → ((c : ℕ) → smaller c ≡ true → group c ≡ true) → meets smaller relations k ≡ true → meets group relations k ≡ true
meets_more group smaller relations k each =
    elim (slice_get relations k) as (λ o. option_map_or (is_met smaller) o false ≡ true → option_map_or (is_met group) o false ≡ true) [
      | None ↦ λ is. is
      | Some r ↦ λ is. met_more group smaller r each is
    ]

pub labels_kept : (system : System) (cells : List Cell) (group smaller : Group) → ((c : ℕ) → smaller c ≡ true → group c ≡ true) →
    filter (keeps smaller system.relations) (labels system.relations cells group system.cells) ≡ labels system.relations cells smaller system.cells
labels_kept system cells group smaller each =
    let q : Label → Bool = keeps smaller system.relations in
    let relations : List Relation = system.relations in
    filter-append q (flat_map (caps_for cells) (members group system.cells)) (flat_map forms_for (met_relations group relations))
    ∙ ap (λ ls. ls ++ filter q (flat_map forms_for (met_relations group relations))) (filter_flat q smaller (caps_for cells) (members group system.cells) (caps_kept smaller relations cells) ∙ ap (flat_map (caps_for cells)) (filter_both smaller group (range_with_len 0 system.cells) each))
    ∙ ap (λ ls. flat_map (caps_for cells) (members smaller system.cells) ++ ls) (filter_flat q (meets smaller relations) forms_for (met_relations group relations) (forms_kept smaller relations) ∙ ap (flat_map forms_for) (filter_both (meets smaller relations) (meets group relations) (range_with_len 0 (length relations)) (λ k. meets_more group smaller relations k each)))

-- ---- amounts at the columns of a cell

wide_up : (system : System) (cells : List Cell) (flags : List Bool) (group smaller : Group) (x : Numbers) (c : ℕ) → c < system.cells → group c ≡ true →
    amounts_in_whole (selection system cells flags group smaller) x (up_column group c) ≡ (if smaller c then x (up_column smaller c) else pos 0)
wide_up system cells flags group smaller x c below own =
    ap (λ d. if smaller d then x (carried group smaller system.cells (up_column group c)) else pos 0) (cell_up group system.cells c below own)
    ∙ ap (λ j. if smaller c then x j else pos 0) (carried_up group smaller system.cells c below own)

wide_down : (system : System) (cells : List Cell) (flags : List Bool) (group smaller : Group) (x : Numbers) (c : ℕ) → c < system.cells → group c ≡ true →
    amounts_in_whole (selection system cells flags group smaller) x (down_column group c) ≡ (if smaller c then x (down_column smaller c) else pos 0)
wide_down system cells flags group smaller x c below own =
    ap (λ d. if smaller d then x (carried group smaller system.cells (down_column group c)) else pos 0) (cell_down group system.cells c below own)
    ∙ ap (λ j. if smaller c then x j else pos 0) (carried_down group smaller system.cells c below own)

wide_moves : (system : System) (cells : List Cell) (flags : List Bool) (group smaller : Group) (x : Numbers) (c : ℕ) → ((c : ℕ) → smaller c ≡ true → group c ≡ true) → c < system.cells →
    moves_of group (amounts_in_whole (selection system cells flags group smaller) x) c ≡ moves_of smaller x c
wide_moves system cells flags group smaller x c each below =
    let y : Numbers = amounts_in_whole (selection system cells flags group smaller) x in
    elim (group c) as (λ b. group c ≡ b → (if b then y (up_column group c) -ℤ y (down_column group c) else pos 0) ≡ moves_of smaller x c) [
      | true ↦ λ own.
          ap (λ z. z -ℤ y (down_column group c)) (wide_up system cells flags group smaller x c below own)
          ∙ ap (λ z. (if smaller c then x (up_column smaller c) else pos 0) -ℤ z) (wide_down system cells flags group smaller x c below own)
          ∙ elim (smaller c) as (λ b. (if b then x (up_column smaller c) else pos 0) -ℤ (if b then x (down_column smaller c) else pos 0) ≡ (if b then x (up_column smaller c) -ℤ x (down_column smaller c) else pos 0)) [ true ↦ refl | false ↦ refl ]
      | false ↦ λ out.
          let not_smaller : smaller c ≡ false = elim (smaller c) as (λ b. smaller c ≡ b → b ≡ false) [ true ↦ λ is. absurd (let clash : true ≡ false = sym (each c is) ∙ out in cc) | false ↦ λ is. refl ] refl in
          sym (moves_out smaller x c not_smaller)
    ] refl

-- a cell that isn't hidden is left out
left_out : (flags : List Bool) (group : Group) (n column c : ℕ) → column < 2 * length (members group n) → cell_of_column group n column ≡ c → is_hidden flags c ≡ false → is_left_out flags group n column ≡ true
left_out flags group n column c below is shown =
    let test : nat_lt column (2 * length (members group n)) ≡ true = grind (arith, nat_tests, below) in
    ap (λ b. b && not (is_hidden flags (cell_of_column group n column))) test ∙ ap (λ d. not (is_hidden flags d)) is ∙ ap not shown

narrow_moves : (system : System) (cells : List Cell) (flags : List Bool) (group smaller : Group) (x : Numbers) (c : ℕ) → ((c : ℕ) → smaller c ≡ true → group c ≡ true) → ((column : ℕ) → is_left_out flags group system.cells column ≡ true → x column ≡ pos 0) →
    (is_hidden flags c ≡ true → smaller c ≡ true) → c < system.cells → moves_of smaller (amounts_in_part (selection system cells flags group smaller) x) c ≡ moves_of group x c
narrow_moves system cells flags group smaller x c each none joins below =
    let y : Numbers = amounts_in_part (selection system cells flags group smaller) x in
    elim (smaller c) as (λ b. smaller c ≡ b → (if b then y (up_column smaller c) -ℤ y (down_column smaller c) else pos 0) ≡ moves_of group x c) [
      | true ↦ λ own.
          ap (λ j. x j -ℤ y (down_column smaller c)) (carried_up smaller group system.cells c below own)
          ∙ ap (λ j. x (up_column group c) -ℤ x j) (carried_down smaller group system.cells c below own)
          ∙ sym (moves_in group x c (each c own))
      | false ↦ λ out.
          let shown : is_hidden flags c ≡ false = elim (is_hidden flags c) as (λ b. is_hidden flags c ≡ b → b ≡ false) [ true ↦ λ is. absurd (let clash : true ≡ false = sym (joins is) ∙ out in cc) | false ↦ λ is. refl ] refl in
          elim (group c) as (λ b. group c ≡ b → pos 0 ≡ (if b then x (up_column group c) -ℤ x (down_column group c) else pos 0)) [
            | true ↦ λ own.
                let less : rank group c < rank group system.cells = rank-less group c system.cells own below in
                let up : x (up_column group c) ≡ pos 0 = none (up_column group c) (left_out flags group system.cells (up_column group c) c (omega (arith, less)) (cell_up group system.cells c below own) shown) in
                let down : x (down_column group c) ≡ pos 0 = none (down_column group c) (left_out flags group system.cells (down_column group c) c (omega (arith, less)) (cell_down group system.cells c below own) shown) in
                omega (arith, ints, up, down)
            | false ↦ λ _. refl
          ] refl
    ] refl

-- ---- what entries come to

pub same_on : (x y : Numbers) (terms : List Term) → All (λ (t : Term). x t.0 ≡ y t.0) terms → value_of x terms ≡ value_of y terms
same_on x y [] all = refl
same_on x y (t ∷ terms) all =
    omega (arith, ints, sum_of-cons (λ (t : Term). t.1 *ℤ x t.0) t terms, sum_of-cons (λ (t : Term). t.1 *ℤ y t.0) t terms, ap (λ z. t.1 *ℤ z) (All-head (λ (t : Term). x t.0 ≡ y t.0) t terms all), same_on x y terms (All-tail (λ (t : Term). x t.0 ≡ y t.0) t terms all))

wide_entries : (system : System) (cells : List Cell) (flags : List Bool) (group smaller : Group) (x : Numbers) (terms : List Term) → ((c : ℕ) → smaller c ≡ true → group c ≡ true) → All (λ (t : Term). t.0 < system.cells) terms →
    comes_to (amounts_in_whole (selection system cells flags group smaller) x) (entries_of group system.cells terms) ≡ comes_to x (entries_of smaller system.cells terms)
wide_entries system cells flags group smaller x terms each inside =
    let y : Numbers = amounts_in_whole (selection system cells flags group smaller) x in
    entries_are_value group system.cells y terms inside
    ∙ same_on (moves_of group y) (moves_of smaller x) terms (All-weaker (λ (t : Term). t.0 < system.cells) (λ (t : Term). moves_of group y t.0 ≡ moves_of smaller x t.0) (λ t below. wide_moves system cells flags group smaller x t.0 each below) terms inside)
    ∙ sym (entries_are_value smaller system.cells x terms inside)

-- a term names a cell, and if it is hidden one of the smaller group
abbrev Joins : System → List Bool → Group → Term → Type 0
Joins system flags smaller t = (t.0 < system.cells) × (is_hidden flags t.0 ≡ true → smaller t.0 ≡ true)

narrow_entries : (system : System) (cells : List Cell) (flags : List Bool) (group smaller : Group) (x : Numbers) (terms : List Term) → ((c : ℕ) → smaller c ≡ true → group c ≡ true) → ((column : ℕ) → is_left_out flags group system.cells column ≡ true → x column ≡ pos 0) → All (Joins system flags smaller) terms →
    comes_to (amounts_in_part (selection system cells flags group smaller) x) (entries_of smaller system.cells terms) ≡ comes_to x (entries_of group system.cells terms)
narrow_entries system cells flags group smaller x terms each none joins =
    let y : Numbers = amounts_in_part (selection system cells flags group smaller) x in
    let inside : All (λ (t : Term). t.0 < system.cells) terms = All-weaker (Joins system flags smaller) (λ (t : Term). t.0 < system.cells) (λ t h. h.0) terms joins in
    entries_are_value smaller system.cells y terms inside
    ∙ same_on (moves_of smaller y) (moves_of group x) terms (All-weaker (Joins system flags smaller) (λ (t : Term). moves_of smaller y t.0 ≡ moves_of group x t.0) (λ t h. narrow_moves system cells flags group smaller x t.0 each none h.1 h.0) terms joins)
    ∙ sym (entries_are_value group system.cells x terms inside)

-- ---- the relations that the smaller group meets

pub found_met : (group : Group) (relations : List Relation) (k : ℕ) → meets group relations k ≡ true → (r : Relation) × (slice_get relations k ≡ Some r) × (is_met group r ≡ true)
found_met group relations k =
    elim (slice_get relations k) as (λ o. option_map_or (is_met group) o false ≡ true → (r : Relation) × (o ≡ Some r) × (is_met group r ≡ true)) [
      | None ↦ λ is. absurd cc
      | Some r ↦ λ is. (r, refl, is)
    ]

pub any_found : (p : ℕ → Bool) (xs : List ℕ) → list_any p xs ≡ true → (x : ℕ) × (p x ≡ true) × (list_any (λ y. y == x) xs ≡ true)
any_found p [] any = absurd cc
any_found p (x ∷ xs) any =
    elim (p x) as (λ b. p x ≡ b → (b || list_any p xs) ≡ true → (z : ℕ) × (p z ≡ true) × (list_any (λ y. y == z) (x ∷ xs) ≡ true)) [
      | true ↦ λ is _. (x, is, ap (λ b. b || list_any (λ y. y == x) xs) ((Decides-eqb x x).1 refl))
      | false ↦ λ is rest.
          let found : (z : ℕ) × (p z ≡ true) × (list_any (λ y. y == z) xs ≡ true) = any_found p xs rest in
          (found.0, found.1, elim (x == found.0) as (λ b. (b || list_any (λ y. y == found.0) xs) ≡ true) [ true ↦ refl | false ↦ found.2 ])
    ] refl any

all_named : (P : ℕ → Type 0) (xs : List ℕ) → ((c : ℕ) → list_any (λ y. y == c) xs ≡ true → P c) → All P xs
all_named P [] each = All-nil P
all_named P (x ∷ xs) each =
    All-cons P x xs (each x (ap (λ b. b || list_any (λ y. y == x) xs) ((Decides-eqb x x).1 refl)))
    (all_named P xs (λ c named. each c (elim (x == c) as (λ b. (b || list_any (λ y. y == c) xs) ≡ true) [ true ↦ refl | false ↦ named ])))

both_mapped : (system : System) (flags : List Bool) (smaller : Group) (z : ℤ) (xs : List ℕ) → All (λ c. c < system.cells) xs → All (λ c. is_hidden flags c ≡ true → smaller c ≡ true) xs → All (Joins system flags smaller) (map (λ part. (part, z)) xs)
both_mapped system flags smaller z [] inside joins = All-nil (Joins system flags smaller)
both_mapped system flags smaller z (x ∷ xs) inside joins =
    All-cons (Joins system flags smaller) (x, z) (map (λ part. (part, z)) xs) (All-head (λ c. c < system.cells) x xs inside, All-head (λ c. is_hidden flags c ≡ true → smaller c ≡ true) x xs joins)
    (both_mapped system flags smaller z xs (All-tail (λ c. c < system.cells) x xs inside) (All-tail (λ c. is_hidden flags c ≡ true → smaller c ≡ true) x xs joins))

form_joins : (system : System) (flags : List Bool) (smaller : Group) (asked k : ℕ) (r : Relation) (times : ℤ) → IsGroup system flags smaller asked → slice_get system.relations k ≡ Some r → is_met smaller r ≡ true → All (Joins system flags smaller) (form_times times r)
form_joins system flags smaller asked k r times is found met =
    let J : Term → Type 0 = Joins system flags smaller in
    let one : (c : ℕ) × (smaller c ≡ true) × (list_any (λ y. y == c) (r.total ∷ r.parts) ≡ true) = any_found smaller (r.total ∷ r.parts) met in
    let joins : (c : ℕ) → mentions r c ≡ true → is_hidden flags c ≡ true → smaller c ≡ true = λ c named hides. is.closed k r one.0 c found one.2 named one.1 hides in
    let inside : NamesCells system.cells r = found_inside system k r found in
    let named : All (λ c. is_hidden flags c ≡ true → smaller c ≡ true) (r.total ∷ r.parts) = all_named (λ c. is_hidden flags c ≡ true → smaller c ≡ true) (r.total ∷ r.parts) joins in
    let parts : (xs : List ℕ) → All (λ c. c < system.cells) xs → All (λ c. is_hidden flags c ≡ true → smaller c ≡ true) xs → All J (map (λ part. (part, neg_ℤ times)) xs) = both_mapped system flags smaller (neg_ℤ times) in
    All-cons J (r.total, times) (map (λ part. (part, neg_ℤ times)) r.parts) (inside.total_named, All-head (λ c. is_hidden flags c ≡ true → smaller c ≡ true) r.total r.parts named)
    (parts r.parts inside.parts_named (All-tail (λ c. is_hidden flags c ≡ true → smaller c ≡ true) r.total r.parts named))

-- ---- rows

record AreRows (s : Selection) (whole part : LinRow) : Type 0 where
  bound : part.bound ≡ whole.bound
  wide : (x : Numbers) → comes_to (amounts_in_whole s x) whole.entries ≡ comes_to x part.entries
  narrow : (x : Numbers) → ((column : ℕ) → s.leaves_out column ≡ true → x column ≡ pos 0) → comes_to (amounts_in_part s x) part.entries ≡ comes_to x whole.entries

cap_rows_are : (system : System) (cells : List Cell) (flags : List Bool) (group smaller : Group) (asked c : ℕ) (bound : ℤ) → AreGroups system flags group smaller asked → c < system.cells → smaller c ≡ true →
    AreRows (selection system cells flags group smaller) (record { entries = (up_column group c, pos 1) ∷ []; bound = bound }) (record { entries = (up_column smaller c, pos 1) ∷ []; bound = bound })
cap_rows_are system cells flags group smaller asked c bound are below own =
    let s : Selection = selection system cells flags group smaller in
    record {
      bound = refl;
      wide = λ x. cap_comes_to (amounts_in_whole s x) (up_column group c) ∙ wide_up system cells flags group smaller x c below (are.within c own) ∙ ap (λ b. if b then x (up_column smaller c) else pos 0) own ∙ sym (cap_comes_to x (up_column smaller c));
      narrow = λ x none. cap_comes_to (amounts_in_part s x) (up_column smaller c) ∙ ap x (carried_up smaller group system.cells c below own) ∙ sym (cap_comes_to x (up_column group c));
    }

floor_rows_are : (system : System) (cells : List Cell) (flags : List Bool) (group smaller : Group) (asked c : ℕ) (bound : ℤ) → AreGroups system flags group smaller asked → c < system.cells → smaller c ≡ true →
    AreRows (selection system cells flags group smaller) (record { entries = (down_column group c, pos 1) ∷ []; bound = bound }) (record { entries = (down_column smaller c, pos 1) ∷ []; bound = bound })
floor_rows_are system cells flags group smaller asked c bound are below own =
    let s : Selection = selection system cells flags group smaller in
    record {
      bound = refl;
      wide = λ x. cap_comes_to (amounts_in_whole s x) (down_column group c) ∙ wide_down system cells flags group smaller x c below (are.within c own) ∙ ap (λ b. if b then x (down_column smaller c) else pos 0) own ∙ sym (cap_comes_to x (down_column smaller c));
      narrow = λ x none. cap_comes_to (amounts_in_part s x) (down_column smaller c) ∙ ap x (carried_down smaller group system.cells c below own) ∙ sym (cap_comes_to x (down_column group c));
    }

form_rows_are : (system : System) (cells : List Cell) (flags : List Bool) (group smaller : Group) (asked k : ℕ) (times : ℤ) → AreGroups system flags group smaller asked → meets smaller system.relations k ≡ true →
    AreRows (selection system cells flags group smaller) (record { entries = entries_of group system.cells (form_at system.relations times k); bound = pos 0 }) (record { entries = entries_of smaller system.cells (form_at system.relations times k); bound = pos 0 })
form_rows_are system cells flags group smaller asked k times are met =
    let found : (r : Relation) × (slice_get system.relations k ≡ Some r) × (is_met smaller r ≡ true) = found_met smaller system.relations k met in
    let r : Relation = found.0 in
    let terms_are : form_at system.relations times k ≡ form_times times r = ap (λ o. option_map_or (form_times times) o []) found.1 in
    let joins : All (Joins system flags smaller) (form_at system.relations times k) = subst (All (Joins system flags smaller)) (sym terms_are) (form_joins system flags smaller asked k r times are.is_group found.1 found.2) in
    let inside : All (λ (t : Term). t.0 < system.cells) (form_at system.relations times k) = All-weaker (Joins system flags smaller) (λ (t : Term). t.0 < system.cells) (λ t h. h.0) (form_at system.relations times k) joins in
    record {
      bound = refl;
      wide = λ x. wide_entries system cells flags group smaller x (form_at system.relations times k) are.within inside;
      narrow = λ x none. narrow_entries system cells flags group smaller x (form_at system.relations times k) are.within none joins;
    }

rows_are : (system : System) (cells : List Cell) (flags : List Bool) (group smaller : Group) (asked : ℕ) (label : Label) → AreGroups system flags group smaller asked → IsLabel system cells group label → keeps smaller system.relations label ≡ true →
    AreRows (selection system cells flags group smaller) (row_of system cells group label) (row_of system cells smaller label)
rows_are system cells flags group smaller asked (CapAbove c) are is own = cap_rows_are system cells flags group smaller asked c _ are is.0 own
rows_are system cells flags group smaller asked (CapBelow c) are is own = floor_rows_are system cells flags group smaller asked c _ are is.0 own
rows_are system cells flags group smaller asked (Form k) are is own = form_rows_are system cells flags group smaller asked k (pos 1) are own
rows_are system cells flags group smaller asked (Negated k) are is own = form_rows_are system cells flags group smaller asked k (negsuc 0) are own

unmet_row : (system : System) (cells : List Cell) (flags : List Bool) (group smaller : Group) (asked k : ℕ) (times : ℤ) (x : Numbers) → AreGroups system flags group smaller asked → meets group system.relations k ≡ true → meets smaller system.relations k ≡ false →
    comes_to (amounts_in_whole (selection system cells flags group smaller) x) (entries_of group system.cells (form_at system.relations times k)) ≡ pos 0
unmet_row system cells flags group smaller asked k times x are met none =
    let found : (r : Relation) × (slice_get system.relations k ≡ Some r) × (is_met group r ≡ true) = found_met group system.relations k met in
    let r : Relation = found.0 in
    let terms_are : form_at system.relations times k ≡ form_times times r = ap (λ o. option_map_or (form_times times) o []) found.1 in
    let inside : All (λ (t : Term). t.0 < system.cells) (form_at system.relations times k) = subst (All (λ (t : Term). t.0 < system.cells)) (sym terms_are) (terms_inside system.cells times r (found_inside system k r found.1)) in
    let out : is_met smaller r ≡ false = sym (ap (λ o. option_map_or (is_met smaller) o false) found.1) ∙ none in
    wide_entries system cells flags group smaller x (form_at system.relations times k) are.within inside
    ∙ form_comes_to system smaller x times k r found.1
    ∙ ap (λ z. times *ℤ z) (unmet_holds smaller x r out) ∙ *ℤ_comm times (pos 0) ∙ omega (arith, ints)

rows_not : (system : System) (cells : List Cell) (flags : List Bool) (group smaller : Group) (asked : ℕ) (label : Label) → AreGroups system flags group smaller asked → IsLabel system cells group label → keeps smaller system.relations label ≡ false →
    (x : Numbers) → comes_to (amounts_in_whole (selection system cells flags group smaller) x) (row_of system cells group label).entries ≡ pos 0
rows_not system cells flags group smaller asked (CapAbove c) are is out x =
    cap_comes_to (amounts_in_whole (selection system cells flags group smaller) x) (up_column group c) ∙ wide_up system cells flags group smaller x c is.0 is.1 ∙ ap (λ b. if b then x (up_column smaller c) else pos 0) out
rows_not system cells flags group smaller asked (CapBelow c) are is out x =
    cap_comes_to (amounts_in_whole (selection system cells flags group smaller) x) (down_column group c) ∙ wide_down system cells flags group smaller x c is.0 is.1 ∙ ap (λ b. if b then x (down_column smaller c) else pos 0) out
rows_not system cells flags group smaller asked (Form k) are is out x = unmet_row system cells flags group smaller asked k (pos 1) x are is out
rows_not system cells flags group smaller asked (Negated k) are is out x = unmet_row system cells flags group smaller asked k (negsuc 0) x are is out

-- ---- the objective

pub asked_joins : (system : System) (flags : List Bool) (smaller : Group) (question : Question) → IsGroup system flags smaller question.cell → All (Joins system flags smaller) (asked_move question.cell question.side)
asked_joins system flags smaller question is = All-cons (Joins system flags smaller) _ [] (is.asked_known, λ _. is.asked_inside) (All-nil (Joins system flags smaller))

target_rows_are : (system : System) (cells : List Cell) (flags : List Bool) (group smaller : Group) (question : Question) → AreGroups system flags group smaller question.cell →
    AreRows (selection system cells flags group smaller) (problems.target_row (problem_of system cells group question)) (problems.target_row (problem_of system cells smaller question))
target_rows_are system cells flags group smaller question are =
    let terms : List Term = asked_move question.cell question.side in
    let joins : All (Joins system flags smaller) terms = asked_joins system flags smaller question are.is_group in
    let inside : All (λ (t : Term). t.0 < system.cells) terms = All-weaker (Joins system flags smaller) (λ (t : Term). t.0 < system.cells) (λ t h. h.0) terms joins in
    record {
      bound = refl;
      wide = λ x. wide_entries system cells flags group smaller x terms are.within inside;
      narrow = λ x none. narrow_entries system cells flags group smaller x terms are.within none joins;
    }

-- ---- the problem is a part

rows_selected : (system : System) (cells : List Cell) (flags : List Bool) (group smaller : Group) (question : Question) → AreGroups system flags group smaller question.cell →
    SelectsRows (selection system cells flags group smaller) (length (problems.rows_of (problem_of system cells smaller question))) (length (problems.rows_of (problem_of system cells group question)))
rows_selected system cells flags group smaller question are =
    let q : Label → Bool = keeps smaller system.relations in
    let all : List Label = labels system.relations cells group system.cells in
    let whole_long : length (problems.rows_of (problem_of system cells group question)) ≡ length all + 1 = length-append (rows_of system cells group) _ ∙ ap (λ n. n + 1) (length-map all (row_of system cells group)) in
    let part_long : length (problems.rows_of (problem_of system cells smaller question)) ≡ length (filter q all) + 1 =
    length-append (rows_of system cells smaller) _ ∙ ap (λ n. n + 1) (length-map (labels system.relations cells smaller system.cells) (row_of system cells smaller) ∙ ap length (sym (labels_kept system cells group smaller are.within))) in
    record {
      ascend = λ j k less below. place_ascend q all j k less;
      within = λ k below. omega (arith, whole_long, place_within q all k (omega (arith, part_long)));
      had = λ k below. place_passes q all k;
      in_part = λ k below has. omega (arith, part_long, among_within q all k (omega (arith, whole_long)) has);
      stands = λ k below has. place_stands q all k has;
    }

part_rows : (system : System) (cells : List Cell) (flags : List Bool) (group smaller : Group) (question : Question) (k : ℕ) → AreGroups system flags group smaller question.cell → k < length (problems.rows_of (problem_of system cells smaller question)) →
    AreRows (selection system cells flags group smaller) (problems.row_at (problem_of system cells group question) (place_of (keeps smaller system.relations) (labels system.relations cells group system.cells) k)) (problems.row_at (problem_of system cells smaller question) k)
part_rows system cells flags group smaller question k are below =
    let s : Selection = selection system cells flags group smaller in
    let q : Label → Bool = keeps smaller system.relations in
    let all : List Label = labels system.relations cells group system.cells in
    let kept : filter q all ≡ labels system.relations cells smaller system.cells = labels_kept system cells group smaller are.within in
    let F : Label → LinRow = row_of system cells group in
    let G : Label → LinRow = row_of system cells smaller in
    let last : LinRow = problems.target_row (problem_of system cells group question) in
    let other : LinRow = problems.target_row (problem_of system cells smaller question) in
    let part_long : length (problems.rows_of (problem_of system cells smaller question)) ≡ length (filter q all) + 1 =
    length-append (rows_of system cells smaller) _ ∙ ap (λ n. n + 1) (length-map (labels system.relations cells smaller system.cells) G ∙ ap length (sym kept)) in
    subst (λ (ls : List Label). AreRows s (get_or (map F all ++ last ∷ []) (place_of q all k) problems.no_row) (get_or (map G ls ++ other ∷ []) k problems.no_row)) kept
    (rows_match (AreRows s) F G last other problems.no_row q all
    (All-weaker (IsLabel system cells group) (λ label. q label ≡ true → AreRows s (F label) (G label)) (λ label is own. rows_are system cells flags group smaller question.cell label are is own) all (labels_are system cells group))
    (target_rows_are system cells flags group smaller question are) k (omega (arith, part_long)))

pub question_part : (system : System) (cells : List Cell) (flags : List Bool) (group smaller : Group) (question : Question) → AreGroups system flags group smaller question.cell →
    IsPartOf (selection system cells flags group smaller) (problem_of system cells smaller question) (problem_of system cells group question)
question_part system cells flags group smaller question are =
    let s : Selection = selection system cells flags group smaller in
    let q : Label → Bool = keeps smaller system.relations in
    let all : List Label = labels system.relations cells group system.cells in
    let target : AreRows s (problems.target_row (problem_of system cells group question)) (problems.target_row (problem_of system cells smaller question)) = target_rows_are system cells flags group smaller question are in
    record {
      rows = rows_selected system cells flags group smaller question are;
      bounds = λ k below. (part_rows system cells flags group smaller question k are below).bound;
      target = refl;
      widened_rows = λ x k below. (part_rows system cells flags group smaller question k are below).wide x;
      other_rows = λ x k below out.
          rows_out (λ (r : LinRow). comes_to (amounts_in_whole s x) r.entries ≡ pos 0) (row_of system cells group) (problems.target_row (problem_of system cells group question)) problems.no_row q all
          (All-weaker (IsLabel system cells group) (λ label. q label ≡ false → comes_to (amounts_in_whole s x) (row_of system cells group label).entries ≡ pos 0) (λ label is none. rows_not system cells flags group smaller question.cell label are is none x) all (labels_are system cells group)) k out;
      widened_objective = target.wide;
      narrowed_rows = λ x k none below. (part_rows system cells flags group smaller question k are below).narrow x none;
      narrowed_objective = target.narrow;
    }
