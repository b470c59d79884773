-- The problem of a question is one as it is to be.
use Rattle.std.proofs.Common.{◌≡◌, ℕ, zero, suc, ◌+◌, ◌*◌, ◌<◌, ◌≤◌, ◌^◌, ◌==◌, Bool, true, false, List, [], ◌∷◌, ◌++◌, length, All, Option, None, Some, is_some, slice_get, ℤ, pos, negsuc, neg_ℤ, ◌-ℤ◌, ◌≤ℤ◌, ◌<ℤ◌, arith, ap, sym, ◌∙◌, refl, subst, length-append, if◌then◌else◌}
use Rattle.std.specs.List.{flat_map}
use Rattle.std.specs.Option.{option_map_or}
use Rattle.std.specs.Ordering.{int_eq}
use Rattle.std.proofs.lemmas.Grind.{flat_map-append}
use Rattle.std.proofs.lemmas.Int.{ints}
use Rattle.std.proofs.lemmas.List.{append-nil, length-map}
use Rattle.std.proofs.lemmas.List.Elements.{All-nil, All-cons, All-head, All-tail, All-append, All-map, All-weaker}
use Rattle.sdc_base.specs.declared.cell.Cell.{Cell}
use Rattle.sdc_base.specs.declared.relation.Relation.{Relation}
use Rattle.sdc_base.specs.declared.side.Side.{Side}
use Rattle.sdc_base.specs.declared.side.Side.TheVariants.{Above, Below}
use Rattle.sdc_base.specs.declared.system.System.{System}
use Rattle.sdc_base.specs.Forms.{Term, form_times, coefficient}
use Rattle.sdc_base.specs.Refutations.{rise}
use Rattle.sdc_base.specs.Worlds.{amount_toward}
use Rattle.sdc_base.proofs.TotalLemmas.{sum_of-cons}
use Rattle.tableau.specs.declared.problem.LinRow.{LinRow}
use Rattle.tableau.specs.ProblemForm.{AscendFrom, AreEntries, IsWellFormed}
use Rattle.interval_audit.specs.declared.question.Question.{Question}
use Rattle.interval_audit.specs.Groups.{Group, members, most_members}
use Rattle.interval_audit.specs.Columns.{rank, up_column, down_column, entries_for, entries_of}
use Rattle.interval_audit.specs.Labels.{Label, CapAbove, CapBelow, Form, Negated, caps_for, forms_for, met_relations, labels, form_at, rise_at, fall, fall_at}
use Rattle.interval_audit.specs.FormSigns.{IsFormSign}
use Rattle.interval_audit.specs.Problems.{row_of, rows_of, problem_of, asked_move}
use Rattle.interval_audit.proofs.Ranks.{members-more, rank-less, rank-up}
use Rattle.interval_audit.proofs.Counting.{form_ones, one_if}
use Rattle.interval_audit.proofs.Points.{meets}
use Rattle.interval_audit.proofs.Weights.{IsLabel, labels_are}

-- ---- coefficients are small

pub coefficient_small : (terms : List Term) (c : ℕ) → All (λ (t : Term). IsFormSign t.1) terms → (neg_ℤ (pos (length terms)) ≤ℤ coefficient terms c) × (coefficient terms c ≤ℤ pos (length terms))
coefficient_small [] c all = (omega (arith, ints), omega (arith, ints))
coefficient_small (t ∷ terms) c all =
    let rest = coefficient_small terms c (All-tail (λ (t : Term). IsFormSign t.1) t terms all) in
    let own : IsFormSign (if t.0 == c then t.1 else pos 0) = one_if (t.0 == c) t.1 (All-head (λ (t : Term). IsFormSign t.1) t terms all) in
    let sum = sum_of-cons (λ (t : Term). if t.0 == c then t.1 else pos 0) t terms in
    (omega (arith, ints, rest.0, own.low, sum), omega (arith, ints, rest.1, own.high, sum))

-- ---- entries

ascend_behind : (least : ℕ) (entries more : List Term) (m : ℕ) → AscendFrom least entries → All (λ (e : Term). e.0 < m) entries → least ≤ m → AscendFrom m more → AscendFrom least (entries ++ more)
ascend_behind least [] more m up below low rest = lower least m more low rest
  where
    lower : (least m : ℕ) (more : List Term) → least ≤ m → AscendFrom m more → AscendFrom least more
    lower least m [] low rest = tt
    lower least m (e ∷ more) low rest = (omega (arith, low, rest.0), rest.1)
ascend_behind least (e ∷ entries) more m up below low rest =
    (up.0, ascend_behind (suc e.0) entries more m up.1 (All-tail (λ (e : Term). e.0 < m) e entries below) (let own : e.0 < m = All-head (λ (e : Term). e.0 < m) e entries below in omega (arith, own)) rest)

-- entries at the columns of the members below n
record AreBelow (group : Group) (n : ℕ) (entries : List Term) : Type 0 where
  pub ascending : AscendFrom 0 entries
  pub named : All (λ (e : Term). e.0 < 2 * rank group n) entries
  pub held : All (λ (e : Term). neg_ℤ (pos (2 ^ 127)) <ℤ e.1) entries

entries_below : (group : Group) (terms : List Term) (n : ℕ) → ((c : ℕ) → (neg_ℤ (pos (2 ^ 32)) ≤ℤ coefficient terms c) × (coefficient terms c ≤ℤ pos (2 ^ 32))) → AreBelow group n (entries_of group n terms)
entries_below group terms zero small = record { ascending = tt; named = All-nil (λ (e : Term). e.0 < 0); held = All-nil (λ (e : Term). neg_ℤ (pos (2 ^ 127)) <ℤ e.1) }
entries_below group terms (suc n) small = subst (AreBelow group (suc n)) (sym split) (more (group n) refl (entries_below group terms n small))
  where
    F : ℕ → List Term
    F cell = entries_for group cell (coefficient terms cell)

    before : List Term
    before = entries_of group n terms

    split : entries_of group (suc n) terms ≡ before ++ (if group n then F n else [])
    split =
        ap (flat_map F) (members-more group n) ∙ flat_map-append F (members group n) (if group n then n ∷ [] else [])
        ∙ ap (λ e. before ++ e) (elim (group n) as (λ b. flat_map F (if b then n ∷ [] else []) ≡ (if b then F n else [])) [ true ↦ append-nil (F n) | false ↦ refl ])

    wider : rank group n ≤ rank group (suc n) → AreBelow group n before → AreBelow group (suc n) before
    wider more is = record { ascending = is.ascending; named = All-weaker (λ (e : Term). e.0 < 2 * rank group n) (λ (e : Term). e.0 < 2 * rank group (suc n)) (λ e h. omega (arith, h, more)) before is.named; held = is.held }

    pair : (b : Bool) → int_eq (coefficient terms n) (pos 0) ≡ b → group n ≡ true → AreBelow group n before → AreBelow group (suc n) (before ++ (if b then [] else (up_column group n, coefficient terms n) ∷ (down_column group n, neg_ℤ (coefficient terms n)) ∷ []))
    pair true test own is = subst (AreBelow group (suc n)) (sym (append-nil before)) (wider (rank-up group n (suc n) (omega arith)) is)
    pair false test own is =
        let k : ℤ = coefficient terms n in
        let less : rank group n < rank group (suc n) = rank-less group n (suc n) own (omega arith) in
        let wide : AreBelow group (suc n) before = wider (omega (arith, less)) is in
        let N : Term → Type 0 = λ e. e.0 < 2 * rank group (suc n) in
        let H : Term → Type 0 = λ e. neg_ℤ (pos (2 ^ 127)) <ℤ e.1 in
        let low : neg_ℤ (pos (2 ^ 32)) ≤ℤ k = (small n).0 in
        let high : k ≤ℤ pos (2 ^ 32) = (small n).1 in
        record {
          ascending = ascend_behind 0 before ((up_column group n, k) ∷ (down_column group n, neg_ℤ k) ∷ []) (2 * rank group n) is.ascending is.named (omega arith) (omega arith, (omega arith, tt));
          named = All-append N before ((up_column group n, k) ∷ (down_column group n, neg_ℤ k) ∷ []) wide.named (All-cons N (up_column group n, k) ((down_column group n, neg_ℤ k) ∷ []) (omega (arith, less)) (All-cons N (down_column group n, neg_ℤ k) [] (omega (arith, less)) (All-nil N)));
          held = All-append H before ((up_column group n, k) ∷ (down_column group n, neg_ℤ k) ∷ []) is.held (All-cons H (up_column group n, k) ((down_column group n, neg_ℤ k) ∷ []) (omega (arith, ints, low)) (All-cons H (down_column group n, neg_ℤ k) [] (omega (arith, ints, high)) (All-nil H)));
        }

    more : (b : Bool) → group n ≡ b → AreBelow group n before → AreBelow group (suc n) (before ++ (if b then F n else []))
    more false own is = subst (AreBelow group (suc n)) (sym (append-nil before)) (wider (rank-up group n (suc n) (omega arith)) is)
    more true own is = pair (int_eq (coefficient terms n) (pos 0)) refl own is

entries_are : (group : Group) (terms : List Term) (n : ℕ) → All (λ (t : Term). IsFormSign t.1) terms → length terms ≤ 2 ^ 32 → AreEntries (2 * length (members group n)) (entries_of group n terms)
entries_are group terms n ones few =
    let is : AreBelow group n (entries_of group n terms) =
    entries_below group terms n (λ c. (omega (arith, ints, (coefficient_small terms c ones).0, few), omega (arith, ints, (coefficient_small terms c ones).1, few))) in
    record { ascend = is.ascending; named = is.named; narrow = is.held }

-- ---- rows

form_at_ones : (relations : List Relation) (times : ℤ) (number : ℕ) → IsFormSign times → All (λ (t : Term). IsFormSign t.1) (form_at relations times number)
form_at_ones relations times number one =
    elim (slice_get relations number) as (λ o. All (λ (t : Term). IsFormSign t.1) (option_map_or (form_times times) o [])) [
      | None ↦ All-nil (λ (t : Term). IsFormSign t.1)
      | Some r ↦ form_ones times r one
    ]

form_at_few : (relations : List Relation) (times : ℤ) (number : ℕ) → length (form_at relations times number) ≤ 2 ^ 32
form_at_few relations times number =
    elim (slice_get relations number) as (λ o. length (option_map_or (form_times times) o []) ≤ 2 ^ 32) [
      | None ↦ omega arith
      | Some r ↦ omega (arith, r.fewer_than_2_32, length-map {B = Term} r.parts (λ part. (part, neg_ℤ times)))
    ]

one_entry : (columns column : ℕ) → column < columns → AreEntries columns ((column, pos 1) ∷ [])
one_entry columns column inside = record {
  ascend = (omega arith, tt);
  named = All-cons (λ (e : Term). e.0 < columns) (column, pos 1) [] inside (All-nil (λ (e : Term). e.0 < columns));
  narrow = All-cons (λ (e : Term). neg_ℤ (pos (2 ^ 127)) <ℤ e.1) (column, pos 1) [] (omega (arith, ints)) (All-nil (λ (e : Term). neg_ℤ (pos (2 ^ 127)) <ℤ e.1));
}

rise_from : (cells : List Cell) (c : ℕ) → pos 0 ≤ℤ rise_at cells c
rise_from cells c =
    elim (slice_get cells c) as (λ o. pos 0 ≤ℤ option_map_or rise o (pos 0)) [
      | None ↦ omega (arith, ints)
      | Some cell ↦ by cell cell.high refl
    ]
  where
    by : (cell : Cell) (high : Option ℤ) → cell.high ≡ high → pos 0 ≤ℤ option_map_or (λ bound. bound -ℤ cell.truth) high (pos 0)
    by cell None is = omega (arith, ints)
    by cell (Some bound) is = omega (arith, ints, cell.high_beyond bound is)

fall_from : (cells : List Cell) (c : ℕ) → pos 0 ≤ℤ fall_at cells c
fall_from cells c =
    elim (slice_get cells c) as (λ o. pos 0 ≤ℤ option_map_or fall o (pos 0)) [
      | None ↦ omega (arith, ints)
      | Some cell ↦ omega (arith, ints, cell.low_within)
    ]

entries_of_row : (system : System) (cells : List Cell) (group : Group) (label : Label) → IsLabel system cells group label → AreEntries (2 * length (members group system.cells)) (row_of system cells group label).entries
entries_of_row system cells group (CapAbove c) is = one_entry (2 * length (members group system.cells)) (up_column group c) (omega (arith, rank-less group c system.cells is.1 is.0))
entries_of_row system cells group (CapBelow c) is = one_entry (2 * length (members group system.cells)) (down_column group c) (omega (arith, rank-less group c system.cells is.1 is.0))
entries_of_row system cells group (Form k) is =
    entries_are group (form_at system.relations (pos 1) k) system.cells (form_at_ones system.relations (pos 1) k (record { low = omega (arith, ints); high = omega (arith, ints) })) (form_at_few system.relations (pos 1) k)
entries_of_row system cells group (Negated k) is =
    entries_are group (form_at system.relations (negsuc 0) k) system.cells (form_at_ones system.relations (negsuc 0) k (record { low = omega (arith, ints); high = omega (arith, ints) })) (form_at_few system.relations (negsuc 0) k)

bound_of_row : (system : System) (cells : List Cell) (group : Group) (label : Label) → pos 0 ≤ℤ (row_of system cells group label).bound
bound_of_row system cells group (CapAbove c) = rise_from cells c
bound_of_row system cells group (CapBelow c) = fall_from cells c
bound_of_row system cells group (Form k) = omega (arith, ints)
bound_of_row system cells group (Negated k) = omega (arith, ints)

-- ---- how many rows there are

pub caps_few : (cells : List Cell) (list : List ℕ) → length (flat_map (caps_for cells) list) ≤ 2 * length list
caps_few cells [] = omega arith
caps_few cells (c ∷ list) =
    let own : length (caps_for cells c) ≤ 2 = either (option_map_or (λ (cell : Cell). is_some cell.high) (slice_get cells c) false) in
    omega (arith, own, caps_few cells list, length-append (caps_for cells c) (flat_map (caps_for cells) list))
  where
    either : (b : Bool) → length (if b then CapAbove c ∷ CapBelow c ∷ [] else CapBelow c ∷ []) ≤ 2
    either true = omega arith
    either false = omega arith

forms_few : (list : List ℕ) → length (flat_map forms_for list) ≡ 2 * length list
forms_few [] = refl
forms_few (k ∷ list) = omega (arith, forms_few list)

pub rank-most : (group : Group) (n : ℕ) → rank group n ≤ n
rank-most group zero = omega arith
rank-most group (suc n) =
    let more : rank group (suc n) ≡ rank group n + length (if group n then n ∷ [] else []) = ap length (members-more group n) ∙ length-append (members group n) (if group n then n ∷ [] else []) in
    let one : length (if group n then n ∷ [] else []) ≤ 1 = elim (group n) as (λ b. length (if b then n ∷ [] else []) ≤ 1) [ true ↦ omega arith | false ↦ omega arith ] in
    omega (arith, more, one, rank-most group n)

pub rows_long : (system : System) (cells : List Cell) (group : Group) → length (rows_of system cells group) ≡ length (flat_map (caps_for cells) (members group system.cells)) + 2 * length (met_relations group system.relations)
rows_long system cells group =
    length-map (labels system.relations cells group system.cells) (row_of system cells group)
    ∙ length-append (flat_map (caps_for cells) (members group system.cells)) (flat_map forms_for (met_relations group system.relations))
    ∙ omega (arith, forms_few (met_relations group system.relations))

one_is : (side : Side) → IsFormSign (amount_toward side (pos 1))
one_is Above = record { low = omega (arith, ints); high = omega (arith, ints) }
one_is Below = record { low = omega (arith, ints); high = omega (arith, ints) }

pub problem_is : (system : System) (cells : List Cell) (group : Group) (question : Question) → length (members group system.cells) ≤ most_members → IsWellFormed (problem_of system cells group question)
problem_is system cells group question few = record {
  rows = All-map (λ (row : LinRow). AreEntries (2 * length (members group system.cells)) row.entries) (row_of system cells group) (labels system.relations cells group system.cells)
      (All-weaker (IsLabel system cells group) (λ label. AreEntries (2 * length (members group system.cells)) (row_of system cells group label).entries) (entries_of_row system cells group) (labels system.relations cells group system.cells) (labels_are system cells group));
  bounds = All-map (λ (row : LinRow). pos 0 ≤ℤ row.bound) (row_of system cells group) (labels system.relations cells group system.cells)
      (All-weaker (IsLabel system cells group) (λ label. pos 0 ≤ℤ (row_of system cells group label).bound) (λ label is. bound_of_row system cells group label) (labels system.relations cells group system.cells) (labels_are system cells group));
  objective = entries_are group (asked_move question.cell question.side) system.cells (All-cons (λ (t : Term). IsFormSign t.1) (question.cell, amount_toward question.side (pos 1)) [] (one_is question.side) (All-nil (λ (t : Term). IsFormSign t.1))) (omega arith);
  target = question.target_from_zero;
  fewer_than_2_32 = omega (arith, few, rows_long system cells group, caps_few cells (members group system.cells), rank-most (meets group system.relations) (length system.relations), system.at_most_2_30);
}
