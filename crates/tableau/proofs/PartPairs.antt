-- What is read of a larger problem's pair is read of each blocked table of the smaller one.
use Rattle.std.proofs.Common.{◌≡◌, inl, inr, ℕ, suc, ◌+◌, ◌<◌, length, ℤ, pos, ◌+ℤ◌, ◌-ℤ◌, ◌*ℤ◌, ◌≤ℤ◌, arith, ap, sym, subst, ◌∙◌}
use Rattle.std.proofs.Math.IntN.{*ℤ_comm}
use Rattle.std.proofs.lemmas.Int.{ints}
use Rattle.sdc_base.specs.Totals.{sum_below}
use Rattle.tableau.specs.Amounts.{value_of}
use Rattle.tableau.specs.OptimalPairs.{IsNotBelowZeros, IsPairIn, IsReadIn, PairInIsRead, PairInIsNotReached, PairInEnds, TableGivesPairIn, bound_list, pair_value, reduced_number}
use Rattle.tableau.specs.PartProblems.{Selection, IsPartOf}
use Rattle.tableau.specs.declared.problem.Problem.{Problem}
use Rattle.tableau.specs.Problems.{NamesColumns, BoundsAreFromZero, number_for, rows_of, row_at}
use Rattle.tableau.specs.RowLists.{list_size, objective_list}
use Rattle.tableau.specs.Steps.{IsBlocked}
use Rattle.tableau.specs.TableLaws.{CannotImprove, value}
use Rattle.tableau.specs.Tables.{Table}
use Rattle.tableau.specs.Walks.{IsTableOf, IsWalk}
use Rattle.tableau.proofs.Exchanges.{none_from_times, times_none}
use Rattle.tableau.proofs.LexOrders.{IsLexFromZero, from_times, from_plus, first_from_zero}
use Rattle.tableau.proofs.OneObjective.{list_for, list_from_zero}
use Rattle.tableau.proofs.OptimalPairs.{AreOne, above_of, bound_is, complements_of, lex_of, not_over, objective_of, reduced_is, rests, same_below, squeezed, times_bounds, weighed_bounds, weighed_gap, weight_at}
use Rattle.tableau.proofs.Padding.{lex_same, lex_sum}
use Rattle.tableau.proofs.PartTables.{IsWidened, comes_back, gap, left_list, list_objective, narrow_place, padded, padded_at, padded_out, scale, shift, wide_list, wide_list_up, wide_objective, wide_rows, wide_slack, wide_slack_up}
use Rattle.tableau.proofs.Solved.{none_below}
use Rattle.tableau.proofs.SomeEnd.{end_exists}
use Rattle.tableau.proofs.WalkTables.{walk_keeps}

record AreRead (s : Selection) (part whole : Problem) (d q : ℤ) (lists : ℕ → ℕ → ℤ) (y : ℕ → ℤ) (last : Table) : Type 0 where
  formed_part : NamesColumns part
  formed_whole : NamesColumns whole
  bounds : BoundsAreFromZero whole
  is_part : IsPartOf s part whole
  pair : IsPairIn s part whole d q lists y
  kept : IsTableOf part last

-- the smaller problem's objective is not below the lists', where it can't be improved
over_lists : (s : Selection) (part whole : Problem) (d q : ℤ) (lists : ℕ → ℕ → ℤ) (y : ℕ → ℤ) (last : Table) → AreRead s part whole d q lists y last → CannotImprove last →
    IsLexFromZero (list_size whole) 0 (λ i. d *ℤ padded s (objective_list part last) i -ℤ last.den *ℤ objective_of whole lists i)
over_lists s part whole d q lists y last are cannot =
    let size : ℕ = list_size whole in
    let n : ℕ = part.columns in
    let m : ℕ = length (rows_of part) in
    let x : ℕ → ℕ → ℤ = λ j. lists (s.column_in_whole j) in
    let t : ℕ → ℕ → ℤ = λ k. lists (whole.columns + s.row_in_whole k) in
    let up : (v : ℕ) → pos 0 ≤ℤ number_for last v = none_below last are.kept.shaped cannot in
    let columns : ℕ → ℤ = λ i. sum_below n (λ j. number_for last j *ℤ x j i) in
    let slacks : ℕ → ℤ = λ i. sum_below m (λ k. number_for last (n + k) *ℤ t k i) in
    let rows : (i : ℕ) → i < size → (k : ℕ) → k < m → value_of (λ j. x j i) (row_at part k).entries +ℤ t k i ≡ d *ℤ ((row_at part k).bound *ℤ scale i +ℤ shift i (s.row_in_whole k)) = λ i below k inside.
    ap (λ z. z +ℤ t k i) (are.is_part.narrowed_rows (λ v. lists v i) k (λ column left. are.pair.left column i left below) inside)
    ∙ are.pair.complements.rows (s.row_in_whole k) i (are.is_part.rows.within k inside) below
    ∙ ap (λ z. d *ℤ z) (sym (bound_is whole (s.row_in_whole k) i))
    ∙ ap (λ b. d *ℤ (b *ℤ scale i +ℤ shift i (s.row_in_whole k))) (sym (are.is_part.bounds k inside)) in
    lex_same size (λ i. columns i +ℤ slacks i) (λ i. d *ℤ padded s (objective_list part last) i -ℤ last.den *ℤ objective_of whole lists i)
    (λ i below.
    gap part last (λ j. x j i) (λ k. t k i) (λ k. shift i (s.row_in_whole k)) d (scale i) are.kept (rows i below)
    ∙ omega (arith, ints, ap (λ z. d *ℤ z) (narrow_place s part whole last i are.is_part.rows below), ap (λ z. last.den *ℤ z) (are.is_part.narrowed_objective (λ v. lists v i) (λ column left. are.pair.left column i left below))))
    (from_plus size 0 columns slacks
    (lex_sum n size (λ j i. number_for last j *ℤ x j i) (λ j inside. from_times size 0 (number_for last j) (x j) (up j) (lex_of size (x j) (are.pair.columns_above j inside))))
    (lex_sum m size (λ k i. number_for last (n + k) *ℤ t k i) (λ k inside. from_times size 0 (number_for last (n + k)) (t k) (up (n + k)) (lex_of size (t k) (are.pair.slacks_above k inside)))))

-- nor above the weights', whatever the table
under_weights : (s : Selection) (part whole : Problem) (d q : ℤ) (lists : ℕ → ℕ → ℤ) (y : ℕ → ℤ) (last : Table) → AreRead s part whole d q lists y last →
    IsLexFromZero (list_size whole) 0 (λ i. last.den *ℤ weighed_bounds whole y i -ℤ q *ℤ padded s (objective_list part last) i)
under_weights s part whole d q lists y last are =
    let size : ℕ = list_size whole in
    let n : ℕ = whole.columns in
    let m : ℕ = length (rows_of whole) in
    let x : ℕ → ℕ → ℤ = wide_list s part last in
    let t : ℕ → ℕ → ℤ = wide_slack s part whole last in
    let wide : IsWidened s part whole last = record { formed_part = are.formed_part; is_part = are.is_part; also = are.kept } in
    let columns : ℕ → ℤ = λ i. sum_below n (λ j. reduced_number whole y q j *ℤ x i j) in
    let slacks : ℕ → ℤ = λ i. sum_below m (λ k. y k *ℤ t i k) in
    lex_same size (λ i. columns i +ℤ slacks i) (λ i. last.den *ℤ weighed_bounds whole y i -ℤ q *ℤ padded s (objective_list part last) i)
    (λ i below.
    weighed_gap whole y (x i) (t i) (λ k. last.den *ℤ bound_list whole k i) q are.formed_whole (λ k inside. wide_rows s part whole last i wide below k inside ∙ ap (λ z. last.den *ℤ z) (bound_is whole k i))
    ∙ omega (arith, ints, times_bounds whole y last.den i, ap (λ z. q *ℤ z) (wide_objective s part whole last i wide)))
    (from_plus size 0 columns slacks
    (lex_sum n size (λ j i. reduced_number whole y q j *ℤ x i j) (λ j inside. wide_list_up s part whole last (reduced_number whole y q j) j wide (are.pair.numbers_above j inside)))
    (lex_sum m size (λ k i. y k *ℤ t i k) (λ k inside. wide_slack_up s part whole last (y k) k wide (are.pair.complements.weights_above k inside) (are.bounds k inside))))

pub pair_in_is_read : PairInIsRead
pair_in_is_read s part whole d q lists y last formed_part formed_whole bounds is_part pair kept blocked =
    let are : AreRead s part whole d q lists y last = record { formed_part = formed_part; formed_whole = formed_whole; bounds = bounds; is_part = is_part; pair = pair; kept = kept } in
    let o : ℕ → ℤ = padded s (objective_list part last) in
    let w : ℕ → ℤ = weighed_bounds whole y in
    let z : ℕ → ℤ = objective_of whole lists in
    let one : (i : ℕ) → i < list_size whole → AreOne last.den d q o w z i =
    squeezed (list_size whole) last.den d q o w z kept.above_zero pair.complements.d_above pair.complements.q_above (over_lists s part whole d q lists y last are blocked.none_below) (under_weights s part whole d q lists y last are)
    (rests whole d q lists y formed_whole pair.complements) in
    let weight : (k : ℕ) → k < length (rows_of whole) → last.den *ℤ y k ≡ q *ℤ o (suc k) = λ k below. ap (λ t. last.den *ℤ t) (sym (weight_at whole y k below)) ∙ (one (suc k) (omega arith)).weights in
    let same : (k : ℕ) → k < length (rows_of part) → y (s.row_in_whole k) *ℤ last.den ≡ number_for last (part.columns + k) *ℤ q = λ k below.
    let at : ℕ = s.row_in_whole k in
    *ℤ_comm (y at) last.den
    ∙ weight at (is_part.rows.within k below)
    ∙ ap (λ t. q *ℤ t) (padded_at s (objective_list part last) at (is_part.rows.had k below) ∙ ap (λ j. number_for last (part.columns + j)) (comes_back s (length (rows_of part)) (length (rows_of whole)) is_part.rows k below))
    ∙ *ℤ_comm q (number_for last (part.columns + k)) in
    record {
      values = *ℤ_comm (pair_value whole lists) last.den ∙ sym (one 0 (omega arith)).values ∙ *ℤ_comm d (value last);
      numbers = same;
      slacks = same_below last.den q (λ k. y (s.row_in_whole k)) (λ k. number_for last (part.columns + k)) (length (rows_of part)) 0 (λ k below. same k (omega arith));
      others = λ k below out. none_from_times last.den (y k) kept.above_zero (weight k below ∙ ap (λ t. q *ℤ t) (padded_out s (objective_list part last) k out) ∙ times_none q);
    }

pub pair_in_is_not_reached : PairInIsNotReached
pair_in_is_not_reached s part whole d q lists y last formed_part formed_whole bounds is_part pair below kept reached =
    let are : AreRead s part whole d q lists y last = record { formed_part = formed_part; formed_whole = formed_whole; bounds = bounds; is_part = is_part; pair = pair; kept = kept } in
    let over : pos 0 ≤ℤ (last.den *ℤ weighed_bounds whole y 0 -ℤ q *ℤ value last) =
    first_from_zero (length (rows_of whole)) (λ i. last.den *ℤ weighed_bounds whole y i -ℤ q *ℤ padded s (objective_list part last) i) (under_weights s part whole d q lists y last are) in
    not_over last.den d q (value last) (weighed_bounds whole y 0) (pair_value whole lists) whole.target kept.above_zero pair.complements.d_above pair.complements.q_above over
    (rests whole d q lists y formed_whole pair.complements 0 (omega arith)) below
    (reached ∙ ap (λ t. last.den *ℤ t) is_part.target)

pub pair_in_ends : PairInEnds
pair_in_ends s part whole d q lists y formed_part formed_whole bounds is_part pair below =
    let part_bounds : BoundsAreFromZero part = λ k inside. subst (λ b. pos 0 ≤ℤ b) (sym (is_part.bounds k inside)) (bounds (s.row_in_whole k) (is_part.rows.within k inside)) in
    let end = end_exists part formed_part part_bounds in
    let kept : IsTableOf part end.1 = walk_keeps part end.0 end.1 formed_part part_bounds end.2 in
    elim end.3 as (λ _. (n : ℕ) × (last : Table) × IsWalk part n last × IsBlocked part last × IsReadIn s part whole d q lists y last) [
      | inl reached ↦ absurd (pair_in_is_not_reached s part whole d q lists y end.1 formed_part formed_whole bounds is_part pair below kept reached)
      | inr ends ↦ (end.0, end.1, end.2, ends, pair_in_is_read s part whole d q lists y end.1 formed_part formed_whole bounds is_part pair kept ends)
    ]

pub table_gives_pair_in : TableGivesPairIn
table_gives_pair_in s part whole table formed kept blocked =
    let above : (v : ℕ) → IsNotBelowZeros (list_size whole) (list_for whole table v) = λ v. above_of (list_size whole) (list_for whole table v) (list_from_zero whole table v kept) in
    let pair : IsPairIn s part whole table.den table.den (list_for whole table) (λ k. number_for table (whole.columns + k)) = record {
      complements = complements_of whole table formed kept blocked.slacks;
      left = λ column i left below. left_list s whole table i column blocked left;
      columns_above = λ column below. above (s.column_in_whole column);
      slacks_above = λ k below. above (whole.columns + s.row_in_whole k);
      numbers_above = λ column below has. omega (arith, ints, reduced_is whole table column formed kept below, blocked.columns column has);
    } in
    (list_for whole table, pair, list_objective whole table 0 formed kept)
