-- What is read of a pair is read of each blocked table.
use Rattle.std.proofs.Common.{◌≡◌, inl, inr, ℕ, zero, suc, ◌+◌, ◌<◌, ◌≤◌, ◌==◌, List, ◌∷◌, length, map, ℤ, pos, neg_ℤ, ◌+ℤ◌, ◌-ℤ◌, ◌*ℤ◌, ◌<ℤ◌, ◌≤ℤ◌, if◌then◌else◌, arith, refl, ap, sym, ◌∙◌}
use Rattle.std.proofs.Math.IntN.{*ℤ_comm}
use Rattle.std.proofs.lemmas.Int.{ints}
use Rattle.std.specs.List.{range_with_len}
use Rattle.sdc_base.specs.Forms.{coefficient}
use Rattle.sdc_base.specs.Totals.{sum_below}
use Rattle.sdc_base.proofs.TotalLemmas.{sum_below-same, sum_below-times, only}
use Rattle.sdc_base.proofs.WeakDual.{by_cells}
use Rattle.sdc_base.proofs.WholeNumbers.{assoc, distrib, distrib_right, swap_times, times_more, times_up}
use Rattle.tableau.specs.Amounts.{value_of}
use Rattle.tableau.specs.OptimalPairs.{IsNotBelowZeros, AreComplements, IsPair, IsRead, PairIsRead, PairIsNotReached, PairEnds, TableGivesPair, bound_list, pair_value, reduced_number}
use Rattle.tableau.specs.declared.problem.Problem.{Problem}
use Rattle.tableau.specs.Problems.{NamesColumns, number_for, rows_of, row_at}
use Rattle.tableau.specs.RowLists.{list_size, objective_list}
use Rattle.tableau.specs.Steps.{IsBlocked}
use Rattle.tableau.specs.TableLaws.{CannotImprove, value}
use Rattle.tableau.specs.Tables.{Table, times_row}
use Rattle.tableau.specs.Walks.{IsTableOf, IsWalk}
use Rattle.tableau.proofs.Bases.{not_replaced}
use Rattle.tableau.proofs.Chains.{distrib_minus}
use Rattle.tableau.proofs.DualNumbers.{unit_at, at_unit, sum_none}
use Rattle.tableau.proofs.Exchanges.{none_from_times, times_none}
use Rattle.tableau.proofs.LexOrders.{IsLexFromZero, from_times, from_plus, both_zeros, first_from_zero}
use Rattle.tableau.proofs.Numbers.{no_number}
use Rattle.tableau.proofs.OneObjective.{duals_of, list_for, list_from_zero, reordered}
use Rattle.tableau.proofs.Padding.{lex_at, lex_by, lex_same, lex_sum}
use Rattle.tableau.proofs.PartTables.{scale, shift, gap, own_place, list_row, list_objective}
use Rattle.tableau.proofs.Rising.{probe_amounts, probe_whole}
use Rattle.tableau.proofs.Solved.{left_over, none_below, stands_or_not}
use Rattle.tableau.proofs.SomeEnd.{end_exists}
use Rattle.tableau.proofs.WalkTables.{walk_keeps}

-- ---- weighed rows, on amounts

-- the first rows' weighed numbers at the columns, on amounts, are the weighed sums of what the rows come to
weighed_rows : (problem : Problem) (y x : ℕ → ℤ) (m : ℕ) → NamesColumns problem → m ≤ length (rows_of problem) →
    sum_below problem.columns (λ j. sum_below m (λ k. y k *ℤ coefficient (row_at problem k).entries j) *ℤ x j) ≡ sum_below m (λ k. y k *ℤ value_of x (row_at problem k).entries)
weighed_rows problem y x zero formed within =
    sum_below-same problem.columns (λ j. pos 0 *ℤ x j) (λ _. pos 0) (λ j _. omega (arith, ints)) ∙ sum_none problem.columns
weighed_rows problem y x (suc m) formed within =
    let n : ℕ = problem.columns in
    let s : ℕ → ℤ = λ j. sum_below m (λ k. y k *ℤ coefficient (row_at problem k).entries j) in
    let a : ℕ → ℤ = λ j. coefficient (row_at problem m).entries j in
    linear n (y m) s a x
    ∙ omega (arith, ints, weighed_rows problem y x m formed (omega arith), ap (λ z. y m *ℤ z) (by_cells n x (row_at problem m).entries (formed.rows m (omega arith))))
  where
    linear : (n : ℕ) (b : ℤ) (s a x : ℕ → ℤ) → sum_below n (λ j. (s j +ℤ b *ℤ a j) *ℤ x j) ≡ sum_below n (λ j. s j *ℤ x j) +ℤ b *ℤ sum_below n (λ j. a j *ℤ x j)
    linear zero b s a x = omega (arith, ints, times_none b)
    linear (suc n) b s a x = omega (arith, ints, linear n b s a x, distrib_right (x n) (s n) (b *ℤ a n), assoc b (a n) (x n), distrib b (sum_below n (λ j. a j *ℤ x j)) (a n *ℤ x n))

less_times : (n : ℕ) (q : ℤ) (s c x : ℕ → ℤ) → sum_below n (λ j. (s j -ℤ q *ℤ c j) *ℤ x j) ≡ sum_below n (λ j. s j *ℤ x j) -ℤ q *ℤ sum_below n (λ j. c j *ℤ x j)
less_times zero q s c x = omega (arith, ints, times_none q)
less_times (suc n) q s c x =
    let one : (s n -ℤ q *ℤ c n) *ℤ x n ≡ s n *ℤ x n -ℤ q *ℤ (c n *ℤ x n) = *ℤ_comm (s n -ℤ q *ℤ c n) (x n) ∙ distrib_minus (x n) (s n) (q *ℤ c n) ∙ omega (arith, ints, *ℤ_comm (x n) (s n), *ℤ_comm (x n) (q *ℤ c n), assoc q (c n) (x n)) in
    omega (arith, ints, less_times n q s c x, one, distrib q (sum_below n (λ j. c j *ℤ x j)) (c n *ℤ x n))

sum_plus : (m : ℕ) (y f t s : ℕ → ℤ) → ((k : ℕ) → k < m → f k +ℤ t k ≡ s k) → sum_below m (λ k. y k *ℤ f k) +ℤ sum_below m (λ k. y k *ℤ t k) ≡ sum_below m (λ k. y k *ℤ s k)
sum_plus zero y f t s each = omega (arith, ints)
sum_plus (suc m) y f t s each = omega (arith, ints, sum_plus m y f t s (λ k below. each k (omega arith)), distrib (y m) (f m) (t m), ap (λ z. y m *ℤ z) (each m (omega arith)))

-- how far weighed rows are above the objective, on amounts and slacks that satisfy the rows with given bounds
pub weighed_gap : (problem : Problem) (y x t s : ℕ → ℤ) (q : ℤ) → NamesColumns problem →
    ((k : ℕ) → k < length (rows_of problem) → value_of x (row_at problem k).entries +ℤ t k ≡ s k) →
    sum_below problem.columns (λ j. reduced_number problem y q j *ℤ x j) +ℤ sum_below (length (rows_of problem)) (λ k. y k *ℤ t k) ≡ sum_below (length (rows_of problem)) (λ k. y k *ℤ s k) -ℤ q *ℤ value_of x problem.objective
weighed_gap problem y x t s q formed each =
    let n : ℕ = problem.columns in
    let m : ℕ = length (rows_of problem) in
    omega (
      arith,
      ints,
      less_times n q (λ j. sum_below m (λ k. y k *ℤ coefficient (row_at problem k).entries j)) (λ j. coefficient problem.objective j) x,
      weighed_rows problem y x m formed (omega arith),
      ap (λ z. q *ℤ z) (by_cells n x problem.objective formed.objective),
      sum_plus m y (λ k. value_of x (row_at problem k).entries) t s each,
    )

-- ---- what weights come to on the rows' bounds

pub bound_is : (problem : Problem) (k i : ℕ) → (row_at problem k).bound *ℤ scale i +ℤ shift i k ≡ bound_list problem k i
bound_is problem k zero = omega (arith, ints)
bound_is problem k (suc s) = omega (arith, ints, times_none (row_at problem k).bound)

-- the weighed bounds, and behind them each weight at its slack's place
abbrev pub weighed_bounds : Problem → (ℕ → ℤ) → ℕ → ℤ
weighed_bounds problem y i = sum_below (length (rows_of problem)) (λ k. y k *ℤ bound_list problem k i)

pub weight_at : (problem : Problem) (y : ℕ → ℤ) (k : ℕ) → k < length (rows_of problem) → weighed_bounds problem y (suc k) ≡ y k
weight_at problem y s below =
    let m : ℕ = length (rows_of problem) in
    sum_below-same m (λ k. y k *ℤ unit_at s k) (λ k. if s == k then y k else pos 0) (λ k _. at_unit s k (y k)) ∙ only m s y below

pub times_bounds : (problem : Problem) (y : ℕ → ℤ) (d : ℤ) (i : ℕ) → sum_below (length (rows_of problem)) (λ k. y k *ℤ (d *ℤ bound_list problem k i)) ≡ d *ℤ weighed_bounds problem y i
times_bounds problem y d i =
    let m : ℕ = length (rows_of problem) in
    sum_below-same m (λ k. y k *ℤ (d *ℤ bound_list problem k i)) (λ k. d *ℤ (y k *ℤ bound_list problem k i)) (λ k _. swap_times (y k) d (bound_list problem k i)) ∙ sum_below-times m d (λ k. y k *ℤ bound_list problem k i)

-- ---- two lists between which a third stands, in lexicographic order

pub record AreOne (e d q : ℤ) (o y z : ℕ → ℤ) (i : ℕ) : Type 0 where
  pub weights : e *ℤ y i ≡ q *ℤ o i
  pub values : d *ℤ o i ≡ e *ℤ z i

pub squeezed : (size : ℕ) (e d q : ℤ) (o y z : ℕ → ℤ) → pos 1 ≤ℤ e → pos 1 ≤ℤ d → pos 1 ≤ℤ q → IsLexFromZero size 0 (λ i. d *ℤ o i -ℤ e *ℤ z i) → IsLexFromZero size 0 (λ i. e *ℤ y i -ℤ q *ℤ o i) →
    ((i : ℕ) → i < size → d *ℤ y i ≡ q *ℤ z i) → (i : ℕ) → i < size → AreOne e d q o y z i
squeezed size e d q o y z e_up d_up q_up under over rest i below =
    let g : ℕ → ℤ = λ j. q *ℤ (d *ℤ o j -ℤ e *ℤ z j) in
    let h : ℕ → ℤ = λ j. d *ℤ (e *ℤ y j -ℤ q *ℤ o j) in
    let sum : (j : ℕ) → j < size → h j ≡ neg_ℤ (g j) = λ j inside.
    omega (arith, ints, distrib_minus q (d *ℤ o j) (e *ℤ z j), distrib_minus d (e *ℤ y j) (q *ℤ o j), swap_times q d (o j), swap_times q e (z j), swap_times d e (y j), ap (λ t. e *ℤ t) (rest j inside)) in
    let g_up : IsLexFromZero size 0 g = from_times size 0 q (λ j. d *ℤ o j -ℤ e *ℤ z j) (omega (arith, ints)) under in
    let h_up : IsLexFromZero size 0 (λ j. neg_ℤ (g j)) = lex_same size h (λ j. neg_ℤ (g j)) sum (from_times size 0 d (λ j. e *ℤ y j -ℤ q *ℤ o j) (omega (arith, ints)) over) in
    let none : g (0 + i) ≡ pos 0 = both_zeros size 0 g (λ j. neg_ℤ (g j)) (λ j. omega (arith, ints)) g_up h_up i below in
    let here : g i ≡ pos 0 = sym (ap g (omega arith)) ∙ none in
    let there : h i ≡ pos 0 = omega (arith, ints, sum i below, here) in
    record {
      weights = omega (arith, ints, none_from_times d (e *ℤ y i -ℤ q *ℤ o i) d_up there);
      values = omega (arith, ints, none_from_times q (d *ℤ o i -ℤ e *ℤ z i) q_up here);
    }

-- ---- a pair

pub lex_of : (size : ℕ) (g : ℕ → ℤ) → IsNotBelowZeros size g → IsLexFromZero size 0 g
lex_of size g up =
    let plain : (j : ℕ) → 0 + j ≡ j = λ j. omega arith in
    lex_by size 0 g (λ i below before. omega (arith, ints, ap g (plain i), up i below (λ j less. sym (ap g (plain j)) ∙ before j less)))

-- the objective on the pair's lists
abbrev pub objective_of : Problem → (ℕ → ℕ → ℤ) → ℕ → ℤ
objective_of problem lists i = value_of (λ column. lists column i) problem.objective

pub rests : (problem : Problem) (d q : ℤ) (lists : ℕ → ℕ → ℤ) (y : ℕ → ℤ) → NamesColumns problem → AreComplements problem d q lists y → (i : ℕ) → i < list_size problem → d *ℤ weighed_bounds problem y i ≡ q *ℤ objective_of problem lists i
rests problem d q lists y formed pair i below =
    let n : ℕ = problem.columns in
    let m : ℕ = length (rows_of problem) in
    let columns : sum_below n (λ j. reduced_number problem y q j *ℤ lists j i) ≡ pos 0 =
    sum_below-same n (λ j. reduced_number problem y q j *ℤ lists j i) (λ _. pos 0) (λ j inside. pair.at_columns j i inside below) ∙ sum_none n in
    let slacks : sum_below m (λ k. y k *ℤ lists (n + k) i) ≡ pos 0 = sum_below-same m (λ k. y k *ℤ lists (n + k) i) (λ _. pos 0) (λ k inside. pair.at_slacks k i inside below) ∙ sum_none m in
    omega (arith, ints, weighed_gap problem y (λ j. lists j i) (λ k. lists (n + k) i) (λ k. d *ℤ bound_list problem k i) q formed (λ k inside. pair.rows k i inside below), columns, slacks, times_bounds problem y d i)

-- a table's objective is not below the lists', where it can't be improved
over_lists : (problem : Problem) (d q : ℤ) (lists : ℕ → ℕ → ℤ) (y : ℕ → ℤ) (last : Table) → IsPair problem d q lists y → IsTableOf problem last → CannotImprove last →
    IsLexFromZero (list_size problem) 0 (λ i. d *ℤ objective_list problem last i -ℤ last.den *ℤ objective_of problem lists i)
over_lists problem d q lists y last pair kept cannot =
    let size : ℕ = list_size problem in
    let n : ℕ = problem.columns in
    let m : ℕ = length (rows_of problem) in
    let columns : ℕ → ℤ = λ i. sum_below n (λ j. number_for last j *ℤ lists j i) in
    let slacks : ℕ → ℤ = λ i. sum_below m (λ k. number_for last (n + k) *ℤ lists (n + k) i) in
    let up : (v : ℕ) → v < n + m → IsLexFromZero size 0 (λ i. number_for last v *ℤ lists v i) = λ v inside. from_times size 0 (number_for last v) (lists v) (none_below last kept.shaped cannot v) (lex_of size (lists v) (pair.lists_above v inside)) in
    lex_same size (λ i. columns i +ℤ slacks i) (λ i. d *ℤ objective_list problem last i -ℤ last.den *ℤ objective_of problem lists i)
    (λ i below.
    gap problem last (λ j. lists j i) (λ k. lists (n + k) i) (shift i) d (scale i) kept (λ k inside. pair.complements.rows k i inside below ∙ ap (λ z. d *ℤ z) (sym (bound_is problem k i)))
    ∙ omega (arith, ints, ap (λ z. d *ℤ z) (own_place problem last i below)))
    (from_plus size 0 columns slacks (lex_sum n size (λ j i. number_for last j *ℤ lists j i) (λ j inside. up j (omega arith))) (lex_sum m size (λ k i. number_for last (n + k) *ℤ lists (n + k) i) (λ k inside. up (n + k) (omega arith))))

-- nor above the weights', whatever the table
under_weights : (problem : Problem) (d q : ℤ) (lists : ℕ → ℕ → ℤ) (y : ℕ → ℤ) (last : Table) → NamesColumns problem → IsPair problem d q lists y → IsTableOf problem last →
    IsLexFromZero (list_size problem) 0 (λ i. last.den *ℤ weighed_bounds problem y i -ℤ q *ℤ objective_list problem last i)
under_weights problem d q lists y last formed pair kept =
    let size : ℕ = list_size problem in
    let n : ℕ = problem.columns in
    let m : ℕ = length (rows_of problem) in
    let x : ℕ → ℕ → ℤ = list_for problem last in
    let columns : ℕ → ℤ = λ i. sum_below n (λ j. reduced_number problem y q j *ℤ x j i) in
    let slacks : ℕ → ℤ = λ i. sum_below m (λ k. y k *ℤ x (n + k) i) in
    lex_same size (λ i. columns i +ℤ slacks i) (λ i. last.den *ℤ weighed_bounds problem y i -ℤ q *ℤ objective_list problem last i)
    (λ i below.
    weighed_gap problem y (λ j. x j i) (λ k. x (n + k) i) (λ k. last.den *ℤ bound_list problem k i) q formed (λ k inside. list_row problem last i k formed kept inside ∙ ap (λ z. last.den *ℤ z) (bound_is problem k i))
    ∙ omega (arith, ints, times_bounds problem y last.den i, ap (λ z. q *ℤ z) (list_objective problem last i formed kept)))
    (from_plus size 0 columns slacks
    (lex_sum n size (λ j i. reduced_number problem y q j *ℤ x j i) (λ j inside. from_times size 0 (reduced_number problem y q j) (x j) (pair.numbers_above j inside) (list_from_zero problem last j kept)))
    (lex_sum m size (λ k i. y k *ℤ x (n + k) i) (λ k inside. from_times size 0 (y k) (x (n + k)) (pair.complements.weights_above k inside) (list_from_zero problem last (n + k) kept))))

-- the same fractions, as lists
pub same_below : (d e : ℤ) (f g : ℕ → ℤ) (n from : ℕ) → ((k : ℕ) → k < from + n → f k *ℤ d ≡ g k *ℤ e) → times_row d (map f (range_with_len from n)) ≡ times_row e (map g (range_with_len from n))
same_below d e f g zero from same = refl
same_below d e f g (suc n) from same =
    ap (λ t. t ∷ times_row d (map f (range_with_len (from + 1) n))) (same from (omega arith))
    ∙ ap (λ (t : List ℤ). (g from *ℤ e) ∷ t) (same_below d e f g n (from + 1) (λ k below. same k (omega arith)))

-- the weights give the reduced numbers
same_column : (problem : Problem) (q : ℤ) (y : ℕ → ℤ) (last : Table) (column : ℕ) → NamesColumns problem → IsTableOf problem last → column < problem.columns →
    ((k : ℕ) → k < length (rows_of problem) → y k *ℤ last.den ≡ number_for last (problem.columns + k) *ℤ q) → reduced_number problem y q column *ℤ last.den ≡ number_for last column *ℤ q
same_column problem q y last column formed kept within same =
    let n : ℕ = problem.columns in
    let m : ℕ = length (rows_of problem) in
    let e : ℤ = last.den in
    let c : ℤ = coefficient problem.objective column in
    let a : ℕ → ℤ = λ k. coefficient (row_at problem k).entries column in
    let number : ℤ = number_for last column in
    let duals : e *ℤ c +ℤ number ≡ sum_below m (λ k. number_for last (n + k) *ℤ a k) = (duals_of problem last formed kept).entries column within in
    let sums : e *ℤ sum_below m (λ k. y k *ℤ a k) ≡ q *ℤ sum_below m (λ k. number_for last (n + k) *ℤ a k) =
    sym (sum_below-times m e (λ k. y k *ℤ a k))
    ∙ sum_below-same m (λ k. e *ℤ (y k *ℤ a k)) (λ k. q *ℤ (number_for last (n + k) *ℤ a k)) (λ k below. reordered e (y k) (a k) ∙ ap (λ t. t *ℤ a k) (same k below) ∙ sym (reordered q (number_for last (n + k)) (a k)))
    ∙ sum_below-times m q (λ k. number_for last (n + k) *ℤ a k) in
    *ℤ_comm (sum_below m (λ k. y k *ℤ a k) -ℤ q *ℤ c) e
    ∙ distrib_minus e (sum_below m (λ k. y k *ℤ a k)) (q *ℤ c)
    ∙ omega (arith, ints, sums, ap (λ t. q *ℤ t) duals, distrib q (e *ℤ c) number, swap_times e q c)
    ∙ *ℤ_comm q number

pub pair_is_read : PairIsRead
pair_is_read problem d q lists y last formed pair kept blocked =
    let o : ℕ → ℤ = objective_list problem last in
    let w : ℕ → ℤ = weighed_bounds problem y in
    let z : ℕ → ℤ = objective_of problem lists in
    let one : (i : ℕ) → i < list_size problem → AreOne last.den d q o w z i =
    squeezed (list_size problem) last.den d q o w z kept.above_zero pair.complements.d_above pair.complements.q_above (over_lists problem d q lists y last pair kept blocked.none_below) (under_weights problem d q lists y last formed pair kept) (rests problem d q lists y formed pair.complements) in
    let same : (k : ℕ) → k < length (rows_of problem) → y k *ℤ last.den ≡ number_for last (problem.columns + k) *ℤ q = λ k below.
    *ℤ_comm (y k) last.den
    ∙ ap (λ t. last.den *ℤ t) (sym (weight_at problem y k below))
    ∙ (one (suc k) (omega arith)).weights
    ∙ *ℤ_comm q (number_for last (problem.columns + k)) in
    record {
      values = *ℤ_comm (pair_value problem lists) last.den ∙ sym (one 0 (omega arith)).values ∙ *ℤ_comm d (value last);
      numbers = same;
      columns = λ column below. same_column problem q y last column formed kept below same;
      slacks = same_below last.den q y (λ k. number_for last (problem.columns + k)) (length (rows_of problem)) 0 (λ k below. same k (omega arith));
    }

-- so no objective of a table comes to what is above the pair's
pub not_over : (e d q o y z target : ℤ) → pos 1 ≤ℤ e → pos 1 ≤ℤ d → pos 1 ≤ℤ q → pos 0 ≤ℤ (e *ℤ y -ℤ q *ℤ o) → d *ℤ y ≡ q *ℤ z → z <ℤ (d *ℤ target) → o ≡ e *ℤ target → ⊥
not_over e d q o y z target e_up d_up q_up over rest below is =
    let more : (e *ℤ (q *ℤ z)) <ℤ (e *ℤ (q *ℤ (d *ℤ target))) = times_more e (q *ℤ z) (q *ℤ (d *ℤ target)) e_up (times_more q z (d *ℤ target) q_up below) in
    let all : (d *ℤ pos 0) ≤ℤ (d *ℤ (e *ℤ y -ℤ q *ℤ o)) = times_up d (pos 0) (e *ℤ y -ℤ q *ℤ o) (omega (arith, ints)) over in
    let first : d *ℤ (e *ℤ y) ≡ e *ℤ (q *ℤ z) = swap_times d e y ∙ ap (λ t. e *ℤ t) rest in
    let second : d *ℤ (q *ℤ o) ≡ e *ℤ (q *ℤ (d *ℤ target)) =
    ap (λ t. d *ℤ (q *ℤ t)) is ∙ ap (λ t. d *ℤ t) (swap_times q e target) ∙ swap_times d e (q *ℤ target) ∙ ap (λ t. e *ℤ t) (swap_times d q target) in
    absurd (omega (arith, ints, more, all, first, second, times_none d, distrib_minus d (e *ℤ y) (q *ℤ o)))

pub pair_is_not_reached : PairIsNotReached
pair_is_not_reached problem d q lists y last formed pair below kept reached =
    let over : pos 0 ≤ℤ (last.den *ℤ weighed_bounds problem y 0 -ℤ q *ℤ value last) =
    first_from_zero (length (rows_of problem)) (λ i. last.den *ℤ weighed_bounds problem y i -ℤ q *ℤ objective_list problem last i) (under_weights problem d q lists y last formed pair kept) in
    not_over last.den d q (value last) (weighed_bounds problem y 0) (pair_value problem lists) problem.target kept.above_zero pair.complements.d_above pair.complements.q_above over (rests problem d q lists y formed pair.complements 0 (omega arith)) below reached

pub pair_ends : PairEnds
pair_ends problem d q lists y formed bounds pair below =
    let end = end_exists problem formed bounds in
    let kept : IsTableOf problem end.1 = walk_keeps problem end.0 end.1 formed bounds end.2 in
    elim end.3 as (λ _. (n : ℕ) × (last : Table) × IsWalk problem n last × IsBlocked problem last × IsRead problem d q lists y last) [
      | inl reached ↦ absurd (pair_is_not_reached problem d q lists y end.1 formed pair below kept reached)
      | inr ends ↦ (end.0, end.1, end.2, ends, pair_is_read problem d q lists y end.1 formed pair kept ends)
    ]

-- ---- a blocked table gives a pair

-- a column's or slack's list is 0 or the objective's number there is
number_or_list : (problem : Problem) (table : Table) (v i : ℕ) → IsTableOf problem table → number_for table v *ℤ list_for problem table v i ≡ pos 0
number_or_list problem table v i kept =
    elim (stands_or_not table.members v) as (λ _. number_for table v *ℤ list_for problem table v i ≡ pos 0) [
      | inl found ↦
          let none : number_for table v ≡ pos 0 = no_number table.others table.objective v (λ k below is. kept.basis.apart found.0 k found.1 below (found.2 ∙ sym is)) in
          ap (λ t. t *ℤ list_for problem table v i) none ∙ omega (arith, ints)
      | inr out ↦
          let u : ℕ → ℤ = probe_amounts problem i in
          let left : List ℤ → ℤ = λ row. neg_ℤ (left_over table u (probe_whole i) row) in
          let none : list_for problem table v i ≡ pos 0 = omega (arith, ints, not_replaced table.members (map left table.rows) (λ v. table.den *ℤ u v) v out) in
          ap (λ t. number_for table v *ℤ t) none ∙ times_none (number_for table v)
    ]

pub above_of : (size : ℕ) (g : ℕ → ℤ) → IsLexFromZero size 0 g → IsNotBelowZeros size g
above_of size g up i below before =
    let plain : (j : ℕ) → 0 + j ≡ j = λ j. omega arith in
    omega (arith, ints, ap g (plain i), lex_at size 0 g up i below (λ j less. ap g (plain j) ∙ before j less))

pub reduced_is : (problem : Problem) (table : Table) (column : ℕ) → NamesColumns problem → IsTableOf problem table → column < problem.columns → reduced_number problem (λ k. number_for table (problem.columns + k)) table.den column ≡ number_for table column
reduced_is problem table column formed kept within = omega (arith, ints, (duals_of problem table formed kept).entries column within)

pub complements_of : (problem : Problem) (table : Table) → NamesColumns problem → IsTableOf problem table → ((k : ℕ) → k < length (rows_of problem) → pos 0 ≤ℤ number_for table (problem.columns + k)) →
    AreComplements problem table.den table.den (list_for problem table) (λ k. number_for table (problem.columns + k))
complements_of problem table formed kept up = record {
  d_above = kept.above_zero;
  q_above = kept.above_zero;
  rows = λ k i inside below. list_row problem table i k formed kept inside ∙ ap (λ t. table.den *ℤ t) (bound_is problem k i);
  weights_above = up;
  at_columns = λ column i inside below. ap (λ t. t *ℤ list_for problem table column i) (reduced_is problem table column formed kept inside) ∙ number_or_list problem table column i kept;
  at_slacks = λ k i inside below. number_or_list problem table (problem.columns + k) i kept;
}

pub table_gives_pair : TableGivesPair
table_gives_pair problem table formed kept blocked =
    let up : (v : ℕ) → pos 0 ≤ℤ number_for table v = none_below table kept.shaped blocked.none_below in
    let pair : IsPair problem table.den table.den (list_for problem table) (λ k. number_for table (problem.columns + k)) = record {
      complements = complements_of problem table formed kept (λ k below. up (problem.columns + k));
      lists_above = λ v below. above_of (list_size problem) (list_for problem table v) (list_from_zero problem table v kept);
      numbers_above = λ column below. omega (arith, ints, reduced_is problem table column formed kept below, up column);
    } in
    (list_for problem table, pair, list_objective problem table 0 formed kept)
