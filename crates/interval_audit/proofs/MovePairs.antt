-- Lists of moves and multipliers that show each other to be the best are a pair of the question's problem.
use Rattle.std.proofs.Common.{◌≡◌, ◌⊎◌, inl, inr, ℕ, zero, suc, ◌+◌, ◌-◌, ◌*◌, ◌/◌, ◌%◌, ◌<◌, ◌==◌, ◌&&◌, not, nat_lt, Bool, true, false, List, [], ◌∷◌, length, slice_get, Some, All, ℤ, pos, neg_ℤ, ◌+ℤ◌, ◌*ℤ◌, ◌≤ℤ◌, int_lt, arith, refl, ap, sym, ◌∙◌, subst, if◌then◌else◌}
use Rattle.std.specs.List.{flat_map}
use Rattle.std.proofs.lemmas.Int.{ints}
use Rattle.std.proofs.lemmas.Bool.Decides.{Decides-eqb, nat_tests}
use Rattle.std.proofs.lemmas.List.Elements.{All-nil, All-cons, All-head, All-tail, All-weaker}
use Rattle.sdc_base.specs.declared.cell.Cell.{Cell}
use Rattle.sdc_base.specs.declared.system.System.{System}
use Rattle.sdc_base.specs.Forms.{Term}
use Rattle.sdc_base.specs.HiddenSets.{is_hidden}
use Rattle.sdc_base.specs.Systems.{Numbers}
use Rattle.sdc_base.specs.Worlds.{amount_toward}
use Rattle.sdc_base.proofs.WeakDual.{value_of}
use Rattle.tableau.specs.OptimalPairs.{IsNotBelowZeros, IsPairIn, bound_list, pair_value, reduced_number}
use Rattle.tableau.specs.declared.problem.Problem.{Problem}
use Rattle.tableau.specs.Problems as problems
use Rattle.tableau.specs.RowLists.{list_size}
use Rattle.tableau.proofs.Exchanges.{times_none}
use Rattle.interval_audit.specs.declared.question.Question.{Question}
use Rattle.interval_audit.specs.Columns.{rank, up_column, down_column}
use Rattle.interval_audit.specs.Groups.{Group, members}
use Rattle.interval_audit.specs.Labels.{Label, CapAbove, CapBelow, caps_for, forms_for, met_relations}
use Rattle.interval_audit.specs.MovePairs.{IsMovePair, labels_of, left_over, places, pressure}
use Rattle.interval_audit.specs.Problems.{problem_of}
use Rattle.interval_audit.proofs.FewerQuestions.{problem_long}
use Rattle.interval_audit.proofs.LexSigns.{is_below, not_below_same}
use Rattle.interval_audit.proofs.Members.{All-left, All-flat_at}
use Rattle.interval_audit.proofs.MoveRows.{column_above, column_down, column_list, column_up, come, down_list, idle, up_list}
use Rattle.interval_audit.proofs.MoveSums.{ReducedAt, reduced_at, two_sides}
use Rattle.interval_audit.proofs.MoveWeights.{RowFits, asked_value, free, not_idle, row_fits, row_limit, weight_above, weight_at, weight_of, weight_stands}
use Rattle.interval_audit.proofs.Ranks.{IsAt, member_at, rank-less}
use Rattle.interval_audit.proofs.SmallerProblems.{AreGroups, carried, question_part, same_on, selection, cell_of_column}
use Rattle.interval_audit.proofs.Weights.{is_bounded}

-- ---- the lists of columns and slacks

abbrev pub lists_of : System → List Cell → Group → Question → ℤ → (ℕ → ℕ → ℤ) → ℕ → ℕ → ℤ
lists_of system cells group question d moves v i =
    if nat_lt v (2 * length (members group system.cells)) then column_list group system.cells (places system cells group) moves v i
    else free d (column_list group system.cells (places system cells group) moves) (v - 2 * length (members group system.cells)) (problems.row_at (problem_of system cells group question) (v - 2 * length (members group system.cells))) i

list_at_column : (system : System) (cells : List Cell) (group : Group) (question : Question) (d : ℤ) (moves : ℕ → ℕ → ℤ) (v i : ℕ) → v < 2 * length (members group system.cells) → lists_of system cells group question d moves v i ≡ column_list group system.cells (places system cells group) moves v i
list_at_column system cells group question d moves v i below =
    let n : ℕ = 2 * length (members group system.cells) in
    let x : ℕ → ℕ → ℤ = column_list group system.cells (places system cells group) moves in
    let test : nat_lt v n ≡ true = grind (arith, nat_tests) in
    ap (λ b. if b then x v i else free d x (v - n) (problems.row_at (problem_of system cells group question) (v - n)) i) test

list_at_slack : (system : System) (cells : List Cell) (group : Group) (question : Question) (d : ℤ) (moves : ℕ → ℕ → ℤ) (k i : ℕ) →
    lists_of system cells group question d moves (2 * length (members group system.cells) + k) i ≡ free d (column_list group system.cells (places system cells group) moves) k (problems.row_at (problem_of system cells group question) k) i
list_at_slack system cells group question d moves k i =
    let n : ℕ = 2 * length (members group system.cells) in
    let x : ℕ → ℕ → ℤ = column_list group system.cells (places system cells group) moves in
    let test : nat_lt (n + k) n ≡ false = grind (arith, nat_tests) in
    let back : n + k - n ≡ k = omega arith in
    ap (λ b. if b then x (n + k) i else free d x (n + k - n) (problems.row_at (problem_of system cells group question) (n + k - n)) i) test
    ∙ ap (λ j. free d x j (problems.row_at (problem_of system cells group question) j) i) back

limit_same : (problem : Problem) (k i : ℕ) → bound_list problem k i ≡ row_limit (problems.row_at problem k) k i
limit_same problem k zero = refl
limit_same problem k (suc s) = refl

entries_same : (system : System) (cells : List Cell) (group : Group) (question : Question) (d : ℤ) (moves : ℕ → ℕ → ℤ) (terms : List Term) (i : ℕ) → All (λ (t : Term). t.0 < 2 * length (members group system.cells)) terms →
    value_of (λ v. lists_of system cells group question d moves v i) terms ≡ come system cells group moves terms i
entries_same system cells group question d moves terms i inside =
    let x : ℕ → ℕ → ℤ = column_list group system.cells (places system cells group) moves in
    same_on (λ v. lists_of system cells group question d moves v i) (λ v. x v i) terms (All-weaker (λ (t : Term). t.0 < 2 * length (members group system.cells)) (λ (t : Term). lists_of system cells group question d moves t.0 i ≡ x t.0 i) (λ t below. list_at_column system cells group question d moves t.0 i below) terms inside)

-- ---- the columns of a cell

pub record IsColumnOf (group : Group) (n column c : ℕ) : Type 0 where
  pub inside : group c ≡ true
  pub below : c < n
  pub side : (column ≡ up_column group c) ⊎ (column ≡ down_column group c)

column_of : (group : Group) (n column : ℕ) → column < 2 * length (members group n) → IsColumnOf group n column (cell_of_column group n column)
column_of group n column within =
    let c : ℕ = cell_of_column group n column in
    let at : IsAt group n (column / 2) c = member_at group n (column / 2) 0 (omega arith) in
    let ranked : rank group c ≡ column / 2 = at.ranked in
    record {
      inside = at.inside;
      below = at.below;
      side = elim (column % 2 == 0) as (λ b. (column % 2 == 0) ≡ b → (column ≡ up_column group c) ⊎ (column ≡ down_column group c)) [
        | true ↦ λ is. let even : column % 2 ≡ 0 = (Decides-eqb (column % 2) 0).0 is in inl (omega (arith, ranked, even))
        | false ↦ λ is. let odd : column % 2 ≡ 1 = grind (arith, nat_tests) in inr (omega (arith, ranked, odd))
      ] refl;
    }

-- ---- what is left over at a cell

all_found : {X : Type 0} (P : X → Type 0) (xs : List X) → ((k : ℕ) (x : X) → slice_get xs k ≡ Some x → P x) → All P xs
all_found P [] each = All-nil P
all_found P (x ∷ xs) each = All-cons P x xs (each 0 x refl) (all_found P xs (λ k. each (suc k)))

record CapsHold (cells : List Cell) (P : Label → Type 0) (c : ℕ) : Type 0 where
  above : is_bounded cells c ≡ true → P (CapAbove c)
  below : P (CapBelow c)

caps_hold : (system : System) (cells : List Cell) (group : Group) (P : Label → Type 0) (c : ℕ) → c < system.cells → group c ≡ true → All P (labels_of system cells group) → CapsHold cells P c
caps_hold system cells group P c below own all =
    let caps : All P (caps_for cells c) = All-flat_at P (caps_for cells) group system.cells c below own (All-left P (flat_map (caps_for cells) (members group system.cells)) (flat_map forms_for (met_relations group system.relations)) all) in
    record {
      above = λ is. All-head P (CapAbove c) (CapBelow c ∷ []) (subst (λ b. All P (if b then CapAbove c ∷ CapBelow c ∷ [] else CapBelow c ∷ [])) is caps);
      below = elim (is_bounded cells c) as (λ b. All P (if b then CapAbove c ∷ CapBelow c ∷ [] else CapBelow c ∷ []) → P (CapBelow c)) [
        | true ↦ λ all. All-head P (CapBelow c) [] (All-tail P (CapAbove c) (CapBelow c ∷ []) all)
        | false ↦ λ all. All-head P (CapBelow c) [] all
      ] caps;
    }

record CellFits (system : System) (cells : List Cell) (flags : List Bool) (group : Group) (question : Question) (q : ℤ) (moves : ℕ → ℕ → ℤ) (l : Numbers) (c : ℕ) : Type 0 where
  up_stands : (i : ℕ) → reduced_number (problem_of system cells group question) (weight_at system cells flags group question q l) q (up_column group c) *ℤ up_list (places system cells group) moves c i ≡ pos 0
  down_stands : (i : ℕ) → reduced_number (problem_of system cells group question) (weight_at system cells flags group question q l) q (down_column group c) *ℤ down_list (places system cells group) moves c i ≡ pos 0
  up_above : is_hidden flags c ≡ true → pos 0 ≤ℤ reduced_number (problem_of system cells group question) (weight_at system cells flags group question q l) q (up_column group c)
  down_above : is_hidden flags c ≡ true → pos 0 ≤ℤ reduced_number (problem_of system cells group question) (weight_at system cells flags group question q l) q (down_column group c)

at_zero : (b : Bool) (m : ℤ) → m ≡ pos 0 → (if b then pos 0 else m) ≡ pos 0
at_zero true m none = refl
at_zero false m none = none

at_zero_turned : (b : Bool) (m : ℤ) → m ≡ pos 0 → (if b then neg_ℤ m else pos 0) ≡ pos 0
at_zero_turned true m none = omega (arith, ints)
at_zero_turned false m none = refl

none_weighs : (p : ℤ) → p ≤ℤ pos 0 → pos 0 ≡ weight_of p
none_weighs p less =
    elim (int_lt (pos 0) p) as (λ b. int_lt (pos 0) p ≡ b → pos 0 ≡ (if b then p else pos 0)) [
      | true ↦ λ is. let more : pos 1 ≤ℤ p = grind (arith, ints) in absurd (omega (arith, ints))
      | false ↦ λ _. refl
    ] refl

cell_fits : (system : System) (cells : List Cell) (flags : List Bool) (group : Group) (question : Question) (d q : ℤ) (moves : ℕ → ℕ → ℤ) (l : Numbers) (c : ℕ) → IsMovePair system cells flags group question d q moves l → c < system.cells → group c ≡ true →
    CellFits system cells flags group question q moves l c
cell_fits system cells flags group question d q moves l c pair below own =
    let size : ℕ = places system cells group in
    let whole : Problem = problem_of system cells group question in
    let y : ℕ → ℤ = weight_at system cells flags group question q l in
    let lo : ℤ = left_over system group question q l c in
    let P : Label → Type 0 = λ label. pos 1 ≤ℤ pressure system flags group question q l label → idle size moves label ≡ false in
    let caps : CapsHold cells P c = caps_hold system cells group P c below own (all_found P (labels_of system cells group) (λ k label found pressed. not_idle system cells flags group question d q moves l k label pair found pressed)) in
    let long : suc (length (labels_of system cells group)) ≡ length (problems.rows_of whole) = omega (arith, problem_long system cells group question) in
    let are : ReducedAt system cells flags group question q l (length (problems.rows_of whole)) c = subst (λ m. ReducedAt system cells flags group question q l m c) long (reduced_at system cells flags group question q l c below own) in
    let p_above : is_hidden flags c ≡ true → pressure system flags group question q l (CapAbove c) ≡ lo = λ hides. ap (λ b. if b then lo else pos 0) hides in
    let p_below : is_hidden flags c ≡ true → pressure system flags group question q l (CapBelow c) ≡ neg_ℤ lo = λ hides. ap (λ b. if b then neg_ℤ lo else pos 0) hides in
    let weighs : is_hidden flags c ≡ true → (if is_bounded cells c then weight_of (pressure system flags group question q l (CapAbove c)) else pos 0) ≡ weight_of lo = λ hides.
    elim (is_bounded cells c) as (λ b. is_bounded cells c ≡ b → (if b then weight_of (pressure system flags group question q l (CapAbove c)) else pos 0) ≡ weight_of lo) [
      | true ↦ λ _. ap weight_of (p_above hides)
      | false ↦ λ bare. none_weighs lo (pair.unbounded c own hides bare)
    ] refl in
    let up : is_hidden flags c ≡ true → reduced_number whole y q (up_column group c) ≡ weight_of (neg_ℤ lo) = λ hides. omega (arith, ints, are.up, weighs hides, two_sides lo) in
    let down : is_hidden flags c ≡ true → reduced_number whole y q (down_column group c) ≡ weight_of lo = λ hides. omega (arith, ints, are.down, ap weight_of (p_below hides), two_sides lo) in
    let none : is_hidden flags c ≡ false → (i : ℕ) → moves c i ≡ pos 0 = λ shown i. pair.left c i shown in
    let falls : is_hidden flags c ≡ true → pos 1 ≤ℤ neg_ℤ lo → is_below size (moves c) ≡ true = λ hides pressed.
    back (is_below size (moves c)) (caps.below (subst (λ z. pos 1 ≤ℤ z) (sym (p_below hides)) pressed)) in
    let rises : is_hidden flags c ≡ true → pos 1 ≤ℤ lo → is_below size (moves c) ≡ false = λ hides pressed.
    elim (is_bounded cells c) as (λ b. is_bounded cells c ≡ b → is_below size (moves c) ≡ false) [
      | true ↦ λ has. caps.above has (subst (λ z. pos 1 ≤ℤ z) (sym (p_above hides)) pressed)
      | false ↦ λ bare. absurd (omega (arith, ints, pair.unbounded c own hides bare))
    ] refl in
    record {
      up_stands = λ i. elim (is_hidden flags c) as (λ b. is_hidden flags c ≡ b → reduced_number whole y q (up_column group c) *ℤ up_list size moves c i ≡ pos 0) [
        | true ↦ λ hides. ap (λ z. z *ℤ up_list size moves c i) (up hides) ∙ weight_stands (neg_ℤ lo) (up_list size moves c i) (λ pressed. ap (λ b. if b then pos 0 else moves c i) (falls hides pressed))
        | false ↦ λ shown. ap (λ z. reduced_number whole y q (up_column group c) *ℤ z) (at_zero (is_below size (moves c)) (moves c i) (none shown i)) ∙ times_none (reduced_number whole y q (up_column group c))
      ] refl;
      down_stands = λ i. elim (is_hidden flags c) as (λ b. is_hidden flags c ≡ b → reduced_number whole y q (down_column group c) *ℤ down_list size moves c i ≡ pos 0) [
        | true ↦ λ hides. ap (λ z. z *ℤ down_list size moves c i) (down hides) ∙ weight_stands lo (down_list size moves c i) (λ pressed. ap (λ b. if b then neg_ℤ (moves c i) else pos 0) (rises hides pressed))
        | false ↦ λ shown. ap (λ z. reduced_number whole y q (down_column group c) *ℤ z) (at_zero_turned (is_below size (moves c)) (moves c i) (none shown i)) ∙ times_none (reduced_number whole y q (down_column group c))
      ] refl;
      up_above = λ hides. subst (λ z. pos 0 ≤ℤ z) (sym (up hides)) (weight_above (neg_ℤ lo));
      down_above = λ hides. subst (λ z. pos 0 ≤ℤ z) (sym (down hides)) (weight_above lo);
    }
  where
    back : (b : Bool) → not b ≡ false → b ≡ true
    back true is = refl
    back false is = absurd cc

-- ---- the pair

and_both : (a b : Bool) → (a && not b) ≡ true → (a ≡ true) × (b ≡ false)
and_both true true is = absurd cc
and_both true false is = (refl, refl)
and_both false b is = absurd cc

pub pair_in : (system : System) (cells : List Cell) (flags : List Bool) (group smaller : Group) (question : Question) (d q : ℤ) (moves : ℕ → ℕ → ℤ) (l : Numbers) → AreGroups system flags group smaller question.cell → problems.NamesColumns (problem_of system cells group question) →
    IsMovePair system cells flags group question d q moves l →
    IsPairIn (selection system cells flags group smaller) (problem_of system cells smaller question) (problem_of system cells group question) d q (lists_of system cells group question d moves) (weight_at system cells flags group question q l)
pair_in system cells flags group smaller question d q moves l are formed pair =
    let n : ℕ = system.cells in
    let size : ℕ = places system cells group in
    let whole : Problem = problem_of system cells group question in
    let part : Problem = problem_of system cells smaller question in
    let x : ℕ → ℕ → ℤ = column_list group n size moves in
    let lists : ℕ → ℕ → ℤ = lists_of system cells group question d moves in
    let y : ℕ → ℤ = weight_at system cells flags group question q l in
    let known : question.cell < n = are.is_group.asked_known in
    let long : length (problems.rows_of whole) ≡ length (labels_of system cells group) + 1 = problem_long system cells group question in
    let sized : list_size whole ≡ size = omega (arith, long) in
    let fits : (k : ℕ) → k < length (problems.rows_of whole) → RowFits size d x k (problems.row_at whole k) (y k) = λ k below. row_fits system cells flags group question d q moves l k pair known (omega (arith, long)) in
    let cell : (c : ℕ) → c < n → group c ≡ true → CellFits system cells flags group question q moves l c = λ c below own. cell_fits system cells flags group question d q moves l c pair below own in
    let rank_below : (c : ℕ) → c < n → group c ≡ true → rank group c < length (members group n) = λ c below own. rank-less group c n own below in
    let up_at : (c i : ℕ) → c < n → group c ≡ true → lists (up_column group c) i ≡ up_list size moves c i = λ c i below own.
    list_at_column system cells group question d moves (up_column group c) i (omega (arith, rank_below c below own)) ∙ column_up group n size moves c i below own in
    let down_at : (c i : ℕ) → c < n → group c ≡ true → lists (down_column group c) i ≡ down_list size moves c i = λ c i below own.
    list_at_column system cells group question d moves (down_column group c) i (omega (arith, rank_below c below own)) ∙ column_down group n size moves c i below own in
    record {
      complements = record {
        d_above = pair.d_above;
        q_above = pair.q_above;
        rows = λ k i below inside.
            ap (λ z. z +ℤ lists (whole.columns + k) i) (entries_same system cells group question d moves (problems.row_at whole k).entries i (formed.rows k below))
            ∙ ap (λ z. come system cells group moves (problems.row_at whole k).entries i +ℤ z) (list_at_slack system cells group question d moves k i)
            ∙ omega (arith, ints)
            ∙ sym (ap (λ z. d *ℤ z) (limit_same whole k i));
        weights_above = λ k below. (fits k below).weight_above;
        at_columns = λ column i below inside.
            let c : ℕ = cell_of_column group n column in
            let is : IsColumnOf group n column c = column_of group n column below in
            elim is.side as (λ _. reduced_number whole y q column *ℤ lists column i ≡ pos 0) [
              | inl at ↦ ap (λ j. reduced_number whole y q j *ℤ lists j i) at ∙ ap (λ z. reduced_number whole y q (up_column group c) *ℤ z) (up_at c i is.below is.inside) ∙ (cell c is.below is.inside).up_stands i
              | inr at ↦ ap (λ j. reduced_number whole y q j *ℤ lists j i) at ∙ ap (λ z. reduced_number whole y q (down_column group c) *ℤ z) (down_at c i is.below is.inside) ∙ (cell c is.below is.inside).down_stands i
            ];
        at_slacks = λ k i below inside. ap (λ z. y k *ℤ z) (list_at_slack system cells group question d moves k i) ∙ (fits k below).stands i (omega (arith, sized));
      };
      left = λ column i out inside.
          let c : ℕ = cell_of_column group n column in
          let both = and_both (nat_lt column (2 * length (members group n))) (is_hidden flags c) out in
          let test : nat_lt column (2 * length (members group n)) ≡ true = both.0 in
          let below : column < 2 * length (members group n) = grind (arith, nat_tests) in
          let none : moves c i ≡ pos 0 = pair.left c i both.1 in
          list_at_column system cells group question d moves column i below
          ∙ elim (column % 2 == 0) as (λ b. (if b then up_list size moves c i else down_list size moves c i) ≡ pos 0) [
            | true ↦ at_zero (is_below size (moves c)) (moves c i) none
            | false ↦ at_zero_turned (is_below size (moves c)) (moves c i) none
          ];
      columns_above = λ column below.
          let own : IsColumnOf smaller n column (cell_of_column smaller n column) = column_of smaller n column below in
          let v : ℕ = carried smaller group n column in
          let within : v < 2 * length (members group n) = omega (arith, rank_below (cell_of_column smaller n column) own.below (are.within (cell_of_column smaller n column) own.inside)) in
          subst (λ m. IsNotBelowZeros m (lists v)) (sym sized) (not_below_same size (x v) (lists v) (λ i _. sym (list_at_column system cells group question d moves v i within)) (column_above group n size moves v));
      slacks_above = λ k below.
          let r : ℕ = (selection system cells flags group smaller).row_in_whole k in
          let inside : r < length (problems.rows_of whole) = (question_part system cells flags group smaller question are).rows.within k below in
          subst (λ m. IsNotBelowZeros m (lists (whole.columns + r))) (sym sized) (not_below_same size (free d x r (problems.row_at whole r)) (lists (whole.columns + r)) (λ i _. sym (list_at_slack system cells group question d moves r i)) (fits r inside).slack_above);
      numbers_above = λ column below has.
          let c : ℕ = cell_of_column group n column in
          let is : IsColumnOf group n column c = column_of group n column below in
          let hides : is_hidden flags c ≡ true = are.is_group.hidden c has in
          elim is.side as (λ _. pos 0 ≤ℤ reduced_number whole y q column) [
            | inl at ↦ subst (λ j. pos 0 ≤ℤ reduced_number whole y q j) (sym at) ((cell c is.below is.inside).up_above hides)
            | inr at ↦ subst (λ j. pos 0 ≤ℤ reduced_number whole y q j) (sym at) ((cell c is.below is.inside).down_above hides)
          ];
    }

-- the objective's value on the lists
pub objective_at : (system : System) (cells : List Cell) (flags : List Bool) (group : Group) (question : Question) (d q : ℤ) (moves : ℕ → ℕ → ℤ) (l : Numbers) → problems.NamesColumns (problem_of system cells group question) → IsMovePair system cells flags group question d q moves l → question.cell < system.cells →
    pair_value (problem_of system cells group question) (lists_of system cells group question d moves) ≡ amount_toward question.side (moves question.cell 0)
objective_at system cells flags group question d q moves l formed pair known =
    entries_same system cells group question d moves (problem_of system cells group question).objective 0 formed.objective
    ∙ asked_value system cells flags group question d q moves l pair known
