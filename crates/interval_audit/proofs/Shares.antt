-- Dual multipliers bound the bound sum of the multipliers that they count for.
use Rattle.std.proofs.Common.{◌≡◌, ℕ, ◌<◌, ◌==◌, Bool, true, false, List, [], ◌∷◌, ◌++◌, length, Option, None, Some, is_some, IsSome, slice_get, All, ℤ, pos, neg_ℤ, ◌+ℤ◌, ◌-ℤ◌, ◌*ℤ◌, ◌≤ℤ◌, ◌<ℤ◌, int_lt, arith, refl, ap, sym, ◌∙◌, subst, if◌then◌else◌}
use Rattle.std.specs.List.{zip}
use Rattle.std.specs.Option.{option_map_or}
use Rattle.std.proofs.Math.IntN.{*ℤ_comm}
use Rattle.std.proofs.lemmas.Int.{ints, by_lt_z}
use Rattle.std.proofs.lemmas.Bool.Decides.{Decides-eqb}
use Rattle.std.proofs.lemmas.List.Elements.{All-nil, All-cons, All-head, All-tail, All-append}
use Rattle.std.proofs.lemmas.Option.{slice_get_within}
use Rattle.sdc_base.specs.declared.cell.Cell.{Cell}
use Rattle.sdc_base.specs.declared.relation.Relation.{Relation}
use Rattle.sdc_base.specs.declared.system.System.{System}
use Rattle.sdc_base.specs.Totals.{sum_of, sum_below}
use Rattle.sdc_base.specs.Components.{mentions}
use Rattle.sdc_base.specs.Forms.{Term, form_times, coefficient}
use Rattle.sdc_base.specs.HiddenSets.{is_hidden}
use Rattle.sdc_base.specs.Refutations.{rise, share, share_at, bound_sum}
use Rattle.sdc_base.specs.Systems.{Numbers}
use Rattle.sdc_base.proofs.WholeNumbers.{minus_times, times_up}
use Rattle.sdc_base.proofs.TotalLemmas.{sum_of-cons, sum_below-le, sum_below-add}
use Rattle.sdc_base.proofs.WeakDual.{value_of, by_cells, there}
use Rattle.tableau.specs.declared.problem.LinRow.{LinRow}
use Rattle.interval_audit.specs.Points.{AreDualWeights, weighed_at}
use Rattle.interval_audit.specs.declared.question.Question.{Question}
use Rattle.interval_audit.specs.Groups.{Group, IsGroup}
use Rattle.interval_audit.specs.Columns.{rank, up_column, down_column, entries_of}
use Rattle.interval_audit.specs.Labels.{Label, CapAbove, CapBelow, Form, Negated, is_met, labels, rise_at, fall, fall_at, terms_of_label, relation_terms}
use Rattle.interval_audit.specs.Problems.{row_of, rows_of, problem_of, asked_move}
use Rattle.interval_audit.specs.QuestionLaws.{refuting_by, dual_value, DualsBound}
use Rattle.interval_audit.proofs.Ranks.{rank-less}
use Rattle.interval_audit.proofs.Spread.{entries_up, entries_down, times_minus}
use Rattle.interval_audit.proofs.Points.{meets}
use Rattle.interval_audit.proofs.Amounts.{coefficient_from, met_by}
use Rattle.interval_audit.proofs.Forms.{has_at, unnamed, refuting_at, asked_elsewhere}
use Rattle.interval_audit.proofs.Weights.{Weighed, aboves_for, belows_for, aboves, belows, multiples, is_bounded, IsLabel, labels_are, zip_left, zip_right, sum_zip, all_up, all_down, all_bounds}

-- ---- one cell

-- a share is at most what weights from 0, no less than the coefficient upwards and downwards, make of the bounds
share_below : (cell : Cell) (k above below : ℤ) → pos 0 ≤ℤ above → pos 0 ≤ℤ below → pos 0 ≤ℤ rise cell → k ≤ℤ above → neg_ℤ k ≤ℤ below → share true k cell ≤ℤ (above *ℤ rise cell +ℤ below *ℤ fall cell)
share_below cell k above below one other room up down =
    let low : pos 0 ≤ℤ fall cell = omega (arith, ints, cell.low_within) in
    let above_none : pos 0 ≤ℤ (above *ℤ rise cell) = omega (arith, ints, times_up above (pos 0) (rise cell) one room, *ℤ_comm above (pos 0)) in
    let below_none : pos 0 ≤ℤ (below *ℤ fall cell) = omega (arith, ints, times_up below (pos 0) (fall cell) other low, *ℤ_comm below (pos 0)) in
    by_lt_z (pos 0) k
    (λ more.
    let test : int_lt (pos 0) k ≡ true = grind (arith, ints) in
    rw test (omega (arith, ints, times_up (rise cell) k above room up, *ℤ_comm (rise cell) k, *ℤ_comm (rise cell) above, below_none)))
    (λ less.
    let test : int_lt (pos 0) k ≡ false = grind (arith, ints) in
    let turned : k *ℤ (cell.low -ℤ cell.truth) ≡ neg_ℤ k *ℤ fall cell = turn k cell.low cell.truth in
    rw test (omega (arith, ints, turned, times_up (fall cell) (neg_ℤ k) below low down, *ℤ_comm (fall cell) (neg_ℤ k), *ℤ_comm (fall cell) below, above_none)))
  where
    turn : (k low truth : ℤ) → k *ℤ (low -ℤ truth) ≡ neg_ℤ k *ℤ (truth -ℤ low)
    turn k low truth =
        let around : low -ℤ truth ≡ neg_ℤ (truth -ℤ low) = omega (arith, ints) in
        ap (λ z. k *ℤ z) around ∙ times_minus k (truth -ℤ low) ∙ sym (minus_times k (truth -ℤ low))

pub rise_from : (cell : Cell) → pos 0 ≤ℤ rise cell
rise_from cell = by cell.high refl
  where
    by : (high : Option ℤ) → cell.high ≡ high → pos 0 ≤ℤ option_map_or (λ bound. bound -ℤ cell.truth) high (pos 0)
    by None is = omega (arith, ints)
    by (Some bound) is = omega (arith, ints, cell.high_beyond bound is)

-- ---- weights from 0 at caps

aboves_from : (rows : List Weighed) → All (λ (w : Weighed). pos 0 ≤ℤ w.0) rows → All (λ (t : Term). pos 0 ≤ℤ t.1) (aboves rows)
aboves_from [] all = All-nil (λ (t : Term). pos 0 ≤ℤ t.1)
aboves_from (w ∷ rows) all = All-append (λ (t : Term). pos 0 ≤ℤ t.1) (aboves_for w.0 w.1) (aboves rows) (by w.0 w.1 (All-head (λ (w : Weighed). pos 0 ≤ℤ w.0) w rows all)) (aboves_from rows (All-tail (λ (w : Weighed). pos 0 ≤ℤ w.0) w rows all))
  where
    by : (weight : ℤ) (label : Label) → pos 0 ≤ℤ weight → All (λ (t : Term). pos 0 ≤ℤ t.1) (aboves_for weight label)
    by weight (CapAbove c) h = All-cons (λ (t : Term). pos 0 ≤ℤ t.1) (c, weight) [] h (All-nil (λ (t : Term). pos 0 ≤ℤ t.1))
    by weight (CapBelow c) h = All-nil (λ (t : Term). pos 0 ≤ℤ t.1)
    by weight (Form k) h = All-nil (λ (t : Term). pos 0 ≤ℤ t.1)
    by weight (Negated k) h = All-nil (λ (t : Term). pos 0 ≤ℤ t.1)

belows_from : (rows : List Weighed) → All (λ (w : Weighed). pos 0 ≤ℤ w.0) rows → All (λ (t : Term). pos 0 ≤ℤ t.1) (belows rows)
belows_from [] all = All-nil (λ (t : Term). pos 0 ≤ℤ t.1)
belows_from (w ∷ rows) all = All-append (λ (t : Term). pos 0 ≤ℤ t.1) (belows_for w.0 w.1) (belows rows) (by w.0 w.1 (All-head (λ (w : Weighed). pos 0 ≤ℤ w.0) w rows all)) (belows_from rows (All-tail (λ (w : Weighed). pos 0 ≤ℤ w.0) w rows all))
  where
    by : (weight : ℤ) (label : Label) → pos 0 ≤ℤ weight → All (λ (t : Term). pos 0 ≤ℤ t.1) (belows_for weight label)
    by weight (CapBelow c) h = All-cons (λ (t : Term). pos 0 ≤ℤ t.1) (c, weight) [] h (All-nil (λ (t : Term). pos 0 ≤ℤ t.1))
    by weight (CapAbove c) h = All-nil (λ (t : Term). pos 0 ≤ℤ t.1)
    by weight (Form k) h = All-nil (λ (t : Term). pos 0 ≤ℤ t.1)
    by weight (Negated k) h = All-nil (λ (t : Term). pos 0 ≤ℤ t.1)

-- they name cells of the system
aboves_inside : (system : System) (cells : List Cell) (group : Group) (rows : List Weighed) → All (λ (w : Weighed). IsLabel system cells group w.1) rows → All (λ (t : Term). t.0 < system.cells) (aboves rows)
aboves_inside system cells group [] all = All-nil (λ (t : Term). t.0 < system.cells)
aboves_inside system cells group (w ∷ rows) all = All-append (λ (t : Term). t.0 < system.cells) (aboves_for w.0 w.1) (aboves rows) (by w.0 w.1 (All-head (λ (w : Weighed). IsLabel system cells group w.1) w rows all)) (aboves_inside system cells group rows (All-tail (λ (w : Weighed). IsLabel system cells group w.1) w rows all))
  where
    by : (weight : ℤ) (label : Label) → IsLabel system cells group label → All (λ (t : Term). t.0 < system.cells) (aboves_for weight label)
    by weight (CapAbove c) h = All-cons (λ (t : Term). t.0 < system.cells) (c, weight) [] h.0 (All-nil (λ (t : Term). t.0 < system.cells))
    by weight (CapBelow c) h = All-nil (λ (t : Term). t.0 < system.cells)
    by weight (Form k) h = All-nil (λ (t : Term). t.0 < system.cells)
    by weight (Negated k) h = All-nil (λ (t : Term). t.0 < system.cells)

belows_inside : (system : System) (cells : List Cell) (group : Group) (rows : List Weighed) → All (λ (w : Weighed). IsLabel system cells group w.1) rows → All (λ (t : Term). t.0 < system.cells) (belows rows)
belows_inside system cells group [] all = All-nil (λ (t : Term). t.0 < system.cells)
belows_inside system cells group (w ∷ rows) all = All-append (λ (t : Term). t.0 < system.cells) (belows_for w.0 w.1) (belows rows) (by w.0 w.1 (All-head (λ (w : Weighed). IsLabel system cells group w.1) w rows all)) (belows_inside system cells group rows (All-tail (λ (w : Weighed). IsLabel system cells group w.1) w rows all))
  where
    by : (weight : ℤ) (label : Label) → IsLabel system cells group label → All (λ (t : Term). t.0 < system.cells) (belows_for weight label)
    by weight (CapBelow c) h = All-cons (λ (t : Term). t.0 < system.cells) (c, weight) [] h.0 (All-nil (λ (t : Term). t.0 < system.cells))
    by weight (CapAbove c) h = All-nil (λ (t : Term). t.0 < system.cells)
    by weight (Form k) h = All-nil (λ (t : Term). t.0 < system.cells)
    by weight (Negated k) h = All-nil (λ (t : Term). t.0 < system.cells)

-- a cell without an upper bound has no weight above
unbounded_none : (system : System) (cells : List Cell) (group : Group) (c : ℕ) (rows : List Weighed) → is_bounded cells c ≡ false → All (λ (w : Weighed). IsLabel system cells group w.1) rows → coefficient (aboves rows) c ≡ pos 0
unbounded_none system cells group c [] none all = refl
unbounded_none system cells group c (w ∷ rows) none all =
    by w.0 w.1 (All-head (λ (w : Weighed). IsLabel system cells group w.1) w rows all) (unbounded_none system cells group c rows none (All-tail (λ (w : Weighed). IsLabel system cells group w.1) w rows all))
  where
    by : (weight : ℤ) (label : Label) → IsLabel system cells group label → coefficient (aboves rows) c ≡ pos 0 → coefficient (aboves_for weight label ++ aboves rows) c ≡ pos 0
    by weight (CapBelow d) is rest = rest
    by weight (Form k) is rest = rest
    by weight (Negated k) is rest = rest
    by weight (CapAbove d) is rest =
        let own : (if d == c then weight else pos 0) ≡ pos 0 =
        elim (d == c) as (λ b. (d == c) ≡ b → (if b then weight else pos 0) ≡ pos 0) [
          | true ↦ λ same. absurd (let eq : d ≡ c = (Decides-eqb d c).0 same in let no : true ≡ false = sym is.2 ∙ ap (is_bounded cells) eq ∙ none in cc)
          | false ↦ λ same. refl
        ] refl in
        sum_of-cons (λ (t : Term). if t.0 == c then t.1 else pos 0) (d, weight) (aboves rows) ∙ omega (arith, ints, own, rest)

-- ---- cells that are not of the group

-- no relation that is met names a hidden cell outside of the group
unnamed_out : (system : System) (cells : List Cell) (flags : List Bool) (group : Group) (asked c number : ℕ) → IsGroup system flags group asked → is_hidden flags c ≡ true → group c ≡ false → meets group system.relations number ≡ true → has_at system.relations c number ≡ pos 0
unnamed_out system cells flags group asked c number is hides out test = by (slice_get system.relations number) refl
  where
    outside : (r : Relation) → slice_get system.relations number ≡ Some r → is_met group r ≡ true → mentions r c ≡ false
    outside r found met =
        elim (mentions r c) as (λ b. mentions r c ≡ b → b ≡ false) [
          | true ↦ λ named. absurd (let from = met_by group r met in let no : true ≡ false = sym (is.closed number r from.0 c found from.1 named from.2 hides) ∙ out in cc)
          | false ↦ λ named. refl
        ] refl

    by : (o : Option Relation) → slice_get system.relations number ≡ o → coefficient (option_map_or (form_times (pos 1)) (slice_get system.relations number) []) c ≡ pos 0
    by None found = ap (λ o. coefficient (option_map_or (form_times (pos 1)) o []) c) found
    by (Some r) found =
        let met : is_met group r ≡ true = ap (λ o. option_map_or (is_met group) o false) (sym found) ∙ test in
        ap (λ o. coefficient (option_map_or (form_times (pos 1)) o []) c) found ∙ unnamed (pos 1) r c (outside r found met)

times_none : (times z : ℤ) → z ≡ pos 0 → times *ℤ z ≡ pos 0
times_none times z is = rw is (*ℤ_comm times (pos 0) ∙ omega (arith, ints))

multiples_out : (system : System) (cells : List Cell) (flags : List Bool) (group : Group) (asked c : ℕ) (rows : List Weighed) → IsGroup system flags group asked → is_hidden flags c ≡ true → group c ≡ false → All (λ (w : Weighed). IsLabel system cells group w.1) rows → value_of (has_at system.relations c) (multiples rows) ≡ pos 0
multiples_out system cells flags group asked c [] is hides out all = refl
multiples_out system cells flags group asked c (w ∷ rows) is hides out all =
    by w.0 w.1 (All-head (λ (w : Weighed). IsLabel system cells group w.1) w rows all) (multiples_out system cells flags group asked c rows is hides out (All-tail (λ (w : Weighed). IsLabel system cells group w.1) w rows all))
  where
    F : Numbers
    F = has_at system.relations c

    by : (weight : ℤ) (label : Label) → IsLabel system cells group label → value_of F (multiples rows) ≡ pos 0 → value_of F (terms_of_label weight label ++ multiples rows) ≡ pos 0
    by weight (CapAbove d) own rest = rest
    by weight (CapBelow d) own rest = rest
    by weight (Form k) own rest = sum_of-cons (λ (t : Term). t.1 *ℤ F t.0) (k, neg_ℤ weight) (multiples rows) ∙ omega (arith, ints, rest, times_none (neg_ℤ weight) (F k) (unnamed_out system cells flags group asked c k is hides out own))
    by weight (Negated k) own rest = sum_of-cons (λ (t : Term). t.1 *ℤ F t.0) (k, weight) (multiples rows) ∙ omega (arith, ints, rest, times_none weight (F k) (unnamed_out system cells flags group asked c k is hides out own))

-- ---- all cells

pub record Bounds (system : System) (cells : List Cell) (flags : List Bool) (group : Group) (k : Numbers) (rows : List Weighed) : Type 0 where
  pub above : (c : ℕ) → c < system.cells → is_hidden flags c ≡ true → k c ≤ℤ coefficient (aboves rows) c
  pub below : (c : ℕ) → c < system.cells → is_hidden flags c ≡ true → neg_ℤ (k c) ≤ℤ coefficient (belows rows) c

bounds : (system : System) (cells : List Cell) (flags : List Bool) (group : Group) (question : Question) (q : ℤ) (weights : List ℤ) → IsGroup system flags group question.cell → AreDualWeights (problem_of system cells group question) q weights
    → Bounds system cells flags group (coefficient (refuting_by system cells group question q weights)) (zip weights (labels system.relations cells group system.cells))
bounds system cells flags group question q weights is duals = record { above = λ c inside hides. (both c inside hides (group c) refl).0; below = λ c inside hides. (both c inside hides (group c) refl).1 }
  where
    rows : List Weighed
    rows = zip weights (labels system.relations cells group system.cells)

    k : Numbers
    k = coefficient (refuting_by system cells group question q weights)

    named : All (λ (w : Weighed). IsLabel system cells group w.1) rows
    named = zip_right (IsLabel system cells group) weights (labels system.relations cells group system.cells) (labels_are system cells group)

    from_zero : All (λ (w : Weighed). pos 0 ≤ℤ w.0) rows
    from_zero = zip_left (λ weight. pos 0 ≤ℤ weight) weights (labels system.relations cells group system.cells) duals.from_zero

    at_column : (column : ℕ) → weighed_at (zip weights (rows_of system cells group)) column ≡ sum_of (λ (w : Weighed). w.0 *ℤ coefficient (row_of system cells group w.1).entries column) rows
    at_column column = sum_zip (λ (w : ℤ × LinRow). w.0 *ℤ coefficient w.1.entries column) (row_of system cells group) weights (labels system.relations cells group system.cells)

    both : (c : ℕ) → c < system.cells → is_hidden flags c ≡ true → (b : Bool) → group c ≡ b → (k c ≤ℤ coefficient (aboves rows) c) × (neg_ℤ (k c) ≤ℤ coefficient (belows rows) c)
    both c inside hides true own =
        let less : rank group c < rank group system.cells = rank-less group c system.cells own inside in
        let up_enough = duals.enough (up_column group c) (omega (arith, less)) in
        let down_enough = duals.enough (down_column group c) (omega (arith, less)) in
        let move : ℤ = coefficient (asked_move question.cell question.side) c in
        let is_up : q *ℤ coefficient (entries_of group system.cells (asked_move question.cell question.side)) (up_column group c) ≡ q *ℤ move = ap (λ z. q *ℤ z) (entries_up group system.cells c (asked_move question.cell question.side) inside own) in
        let is_down : q *ℤ coefficient (entries_of group system.cells (asked_move question.cell question.side)) (down_column group c) ≡ neg_ℤ (q *ℤ move) = ap (λ z. q *ℤ z) (entries_down group system.cells c (asked_move question.cell question.side) inside own) ∙ times_minus q move in
        let sum_up = at_column (up_column group c) ∙ all_up system cells group c rows inside own named in
        let sum_down = at_column (down_column group c) ∙ all_down system cells group c rows inside own named in
        let is_k : k c ≡ q *ℤ move +ℤ value_of (has_at system.relations c) (multiples rows) = refuting_at system.relations question.cell question.side q (relation_terms weights (labels system.relations cells group system.cells)) c in
        (omega (arith, ints, up_enough, is_up, sum_up, is_k), omega (arith, ints, down_enough, is_down, sum_down, is_k))
    both c inside hides false out =
        let apart : (question.cell == c) ≡ false =
        elim (question.cell == c) as (λ b. (question.cell == c) ≡ b → b ≡ false) [
          | true ↦ λ same. absurd (let eq : question.cell ≡ c = (Decides-eqb question.cell c).0 same in let no : true ≡ false = sym is.asked_inside ∙ ap group eq ∙ out in cc)
          | false ↦ λ same. refl
        ] refl in
        let none : k c ≡ pos 0 =
        refuting_at system.relations question.cell question.side q (relation_terms weights (labels system.relations cells group system.cells)) c
        ∙ omega (arith, ints, times_none q (coefficient (asked_move question.cell question.side) c) (asked_elsewhere question.cell question.side c apart), multiples_out system cells flags group question.cell c rows is hides out named) in
        (omega (arith, ints, none, coefficient_from (aboves rows) c (aboves_from rows from_zero)), omega (arith, ints, none, coefficient_from (belows rows) c (belows_from rows from_zero)))

-- the share of a cell
share_within : (system : System) (cells : List Cell) (flags : List Bool) (group : Group) (k : Numbers) (rows : List Weighed) → Bounds system cells flags group k rows → All (λ (w : Weighed). pos 0 ≤ℤ w.0) rows → (c : ℕ) → c < length cells → c < system.cells
    → share_at cells flags k c ≤ℤ (coefficient (aboves rows) c *ℤ rise_at cells c +ℤ coefficient (belows rows) c *ℤ fall_at cells c)
share_within system cells flags group k rows is from_zero c below inside =
    let found = there cells c below in
    let cell : Cell = found.0 in
    let A : ℤ = coefficient (aboves rows) c in
    let B : ℤ = coefficient (belows rows) c in
    let one : pos 0 ≤ℤ A = coefficient_from (aboves rows) c (aboves_from rows from_zero) in
    let other : pos 0 ≤ℤ B = coefficient_from (belows rows) c (belows_from rows from_zero) in
    let own : share (is_hidden flags c) (k c) cell ≤ℤ (A *ℤ rise cell +ℤ B *ℤ fall cell) =
    elim (is_hidden flags c) as (λ b. is_hidden flags c ≡ b → share b (k c) cell ≤ℤ (A *ℤ rise cell +ℤ B *ℤ fall cell)) [
      | true ↦ λ hides. share_below cell (k c) A B one other (rise_from cell) (is.above c inside hides) (is.below c inside hides)
      | false ↦ λ shown. sum_from cell A B one other
    ] refl in
    subst (λ o. option_map_or (share (is_hidden flags c) (k c)) o (pos 0) ≤ℤ (A *ℤ option_map_or rise o (pos 0) +ℤ B *ℤ option_map_or fall o (pos 0))) (sym found.1) own
  where
    sum_from : (cell : Cell) (a b : ℤ) → pos 0 ≤ℤ a → pos 0 ≤ℤ b → pos 0 ≤ℤ (a *ℤ rise cell +ℤ b *ℤ fall cell)
    sum_from cell a b one other =
        let low : pos 0 ≤ℤ fall cell = omega (arith, ints, cell.low_within) in
        omega (arith, ints, times_up a (pos 0) (rise cell) one (rise_from cell), *ℤ_comm a (pos 0), times_up b (pos 0) (fall cell) other low, *ℤ_comm b (pos 0))

pub duals_bound : DualsBound
duals_bound system cells flags group question q weights each is duals =
    let rows : List Weighed = zip weights (labels system.relations cells group system.cells) in
    let k : Numbers = coefficient (refuting_by system cells group question q weights) in
    let named : All (λ (w : Weighed). IsLabel system cells group w.1) rows = zip_right (IsLabel system cells group) weights (labels system.relations cells group system.cells) (labels_are system cells group) in
    let from_zero : All (λ (w : Weighed). pos 0 ≤ℤ w.0) rows = zip_left (λ weight. pos 0 ≤ℤ weight) weights (labels system.relations cells group system.cells) duals.from_zero in
    let all : Bounds system cells flags group k rows = bounds system cells flags group question q weights is duals in
    let n : ℕ = length cells in
    let most : bound_sum cells flags k ≤ℤ sum_below n (λ c. coefficient (aboves rows) c *ℤ rise_at cells c +ℤ coefficient (belows rows) c *ℤ fall_at cells c) =
    sum_below-le n (share_at cells flags k) (λ c. coefficient (aboves rows) c *ℤ rise_at cells c +ℤ coefficient (belows rows) c *ℤ fall_at cells c)
    (λ c below. share_within system cells flags group k rows all from_zero c below (omega (arith, below, each))) in
    let split = sum_below-add n (λ c. coefficient (aboves rows) c *ℤ rise_at cells c) (λ c. coefficient (belows rows) c *ℤ fall_at cells c) in
    let ups : sum_below n (λ c. coefficient (aboves rows) c *ℤ rise_at cells c) ≡ value_of (rise_at cells) (aboves rows) = by_cells n (rise_at cells) (aboves rows) (subst (λ m. All (λ (t : Term). t.0 < m) (aboves rows)) (sym each) (aboves_inside system cells group rows named)) in
    let downs : sum_below n (λ c. coefficient (belows rows) c *ℤ fall_at cells c) ≡ value_of (fall_at cells) (belows rows) = by_cells n (fall_at cells) (belows rows) (subst (λ m. All (λ (t : Term). t.0 < m) (belows rows)) (sym each) (belows_inside system cells group rows named)) in
    let value : dual_value system cells group weights ≡ value_of (rise_at cells) (aboves rows) +ℤ value_of (fall_at cells) (belows rows) =
    sum_zip (λ (w : ℤ × LinRow). w.0 *ℤ w.1.bound) (row_of system cells group) weights (labels system.relations cells group system.cells) ∙ all_bounds system cells group rows in
    (λ number cell found hides more. open_up number cell found (all.above number (omega (arith, slice_get_within cells number cell found, each)) hides) more named, omega (arith, ints, most, split, ups, downs, value))
  where
    open_up : (number : ℕ) (cell : Cell) → slice_get cells number ≡ Some cell → coefficient (refuting_by system cells group question q weights) number ≤ℤ coefficient (aboves (zip weights (labels system.relations cells group system.cells))) number
        → pos 0 <ℤ coefficient (refuting_by system cells group question q weights) number → All (λ (w : Weighed). IsLabel system cells group w.1) (zip weights (labels system.relations cells group system.cells)) → IsSome cell.high
    open_up number cell found most more named = by (is_bounded cells number) refl
      where
        by : (b : Bool) → is_bounded cells number ≡ b → IsSome cell.high
        by true has = ap (λ o. option_map_or (λ (one : Cell). is_some one.high) o false) (sym found) ∙ has
        by false none = absurd (omega (arith, ints, most, more, unbounded_none system cells group number (zip weights (labels system.relations cells group system.cells)) none named))
