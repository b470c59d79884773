-- The first table of a problem.
use Rattle.std.proofs.Common.{◌≡◌, ℕ, zero, suc, ◌+◌, ◌-◌, ◌<◌, List, [], ◌∷◌, ◌++◌, length, map, slice_index, get_or, All, ℤ, pos, negsuc, neg_ℤ, ◌+ℤ◌, ◌-ℤ◌, ◌*ℤ◌, nat_lt, true, false, arith, refl, ap, ◌∙◌}
use Rattle.std.specs.List.{range_with_len}
use Rattle.std.proofs.Math.IntN.{*ℤ_comm}
use Rattle.std.proofs.lemmas.Int.{ints}
use Rattle.std.proofs.lemmas.Bool.Decides.{nat_tests}
use Rattle.std.proofs.lemmas.List.{get_or-map}
use Rattle.std.proofs.lemmas.List.FromFn.{length-range_with_len, get_or-range_with_len}
use Rattle.sdc_base.specs.Totals.{sum_below}
use Rattle.sdc_base.specs.Forms.{coefficient}
use Rattle.tableau.specs.Amounts.{value_of}
use Rattle.sdc_base.proofs.WholeNumbers.{minus_times}
use Rattle.sdc_base.proofs.TotalLemmas.{sum_below-same, sum_below-times}
use Rattle.sdc_base.proofs.WeakDual.{by_cells}
use Rattle.tableau.specs.Tables.{dot}
use Rattle.tableau.specs.declared.problem.Problem.{Problem}
use Rattle.tableau.specs.declared.problem.LinRow.{LinRow}
use Rattle.tableau.specs.Problems.{row_at, no_row, slack, all_amounts, numbers_then_value, StartHolds, rows_of}

-- sums over the numbers from a on
pub sum_first : (n : ℕ) (f : ℕ → ℤ) → sum_below (suc n) f ≡ f 0 +ℤ sum_below n (λ k. f (suc k))
sum_first zero f = omega (arith, ints)
sum_first (suc n) f = omega (arith, ints, sum_first n f)

pub dot_range : (n a : ℕ) (f x : ℕ → ℤ) (b w : ℤ) → dot (map f (range_with_len a n) ++ b ∷ []) (map x (range_with_len a n) ++ w ∷ []) ≡ sum_below n (λ k. f (a + k) *ℤ x (a + k)) +ℤ b *ℤ w
dot_range zero a f x b w = omega (arith, ints)
dot_range (suc n) a f x b w =
    let start_at : a + 0 ≡ a = omega arith in
    omega (arith, ints, dot_range n (a + 1) f x b w, sum_first n (λ k. f (a + k) *ℤ x (a + k)), sum_below-same n (λ k. f ((a + 1) + k) *ℤ x ((a + 1) + k)) (λ k. f (a + suc k) *ℤ x (a + suc k)) (λ k _. ap (λ j. f j *ℤ x j) (omega arith)), ap (λ j. f j *ℤ x j) start_at)

pub column_amount : (problem : Problem) (amounts : ℕ → ℤ) (whole : ℤ) (v : ℕ) → v < problem.columns → all_amounts problem amounts whole v ≡ amounts v
column_amount problem amounts whole v below = let test : nat_lt v problem.columns ≡ true = grind (arith, nat_tests) in rw test refl

pub slack_amount : (problem : Problem) (amounts : ℕ → ℤ) (whole : ℤ) (k : ℕ) → all_amounts problem amounts whole (problem.columns + k) ≡ slack problem amounts whole k
slack_amount problem amounts whole k =
    let test : nat_lt (problem.columns + k) problem.columns ≡ false = grind (arith, nat_tests) in
    let back : (problem.columns + k) - problem.columns ≡ k = omega arith in
    rw (test, back) refl

pub minus_whole : (a whole : ℤ) → a *ℤ neg_ℤ whole ≡ neg_ℤ (a *ℤ whole)
minus_whole a whole = *ℤ_comm a (neg_ℤ whole) ∙ minus_times whole a ∙ ap neg_ℤ (*ℤ_comm whole a)

pub none_and : (k : ℕ) → 0 + k ≡ k
none_and k = omega arith

-- a spread row on all amounts
spread_dot : (problem : Problem) (amounts : ℕ → ℤ) (whole : ℤ) (terms : List (ℕ × ℤ)) (bound : ℤ) → All (λ term. term.0 < problem.columns) terms → dot (numbers_then_value problem.columns (coefficient terms) bound) (map (all_amounts problem amounts whole) (range_with_len 0 problem.columns) ++ neg_ℤ whole ∷ []) ≡ value_of amounts terms -ℤ bound *ℤ whole
spread_dot problem amounts whole terms bound inside =
    let n : ℕ = problem.columns in
    let every : ℕ → ℤ = all_amounts problem amounts whole in
    dot_range n 0 (coefficient terms) every bound (neg_ℤ whole)
    ∙ omega (
      arith,
      ints,
      minus_whole bound whole,
      by_cells n amounts terms inside,
      sum_below-same n (λ k. coefficient terms (0 + k) *ℤ every (0 + k)) (λ k. coefficient terms k *ℤ amounts k) (λ k below. ap (λ j. coefficient terms j *ℤ every j) (none_and k) ∙ ap (λ t. coefficient terms k *ℤ t) (column_amount problem amounts whole k below)),
    )

pub start_holds : StartHolds
start_holds problem shaped amounts whole =
    let n : ℕ = problem.columns in
    let m : ℕ = length (rows_of problem) in
    let every : ℕ → ℤ = all_amounts problem amounts whole in
    let under : List ℤ = map every (range_with_len 0 n) ++ neg_ℤ whole ∷ [] in
    record {
      rows = λ k below.
          let within : k < m = omega (arith, length-range_with_len n m) in
          let one : LinRow = row_at problem k in
          let member : every (slice_index (range_with_len n m) k) ≡ slack problem amounts whole k = ap every (get_or-range_with_len n m k 0 within) ∙ slack_amount problem amounts whole k in
          let own : get_or (map (λ (row : LinRow). numbers_then_value n (coefficient row.entries) row.bound) (rows_of problem)) k [] ≡ numbers_then_value n (coefficient one.entries) one.bound = get_or-map (λ (row : LinRow). numbers_then_value n (coefficient row.entries) row.bound) (rows_of problem) k no_row [] within in
          let sum : dot (get_or (map (λ (row : LinRow). numbers_then_value n (coefficient row.entries) row.bound) (rows_of problem)) k []) under ≡ value_of amounts one.entries -ℤ one.bound *ℤ whole = ap (λ t. dot t under) own ∙ spread_dot problem amounts whole one.entries one.bound (shaped.rows k within) in
          omega (arith, ints, member, sum);
      objective_row =
          let turned : ℕ → ℤ = λ column. neg_ℤ (coefficient problem.objective column) in
          let sum : dot (numbers_then_value n turned (pos 0)) under ≡ sum_below n (λ k. turned (0 + k) *ℤ every (0 + k)) +ℤ pos 0 *ℤ neg_ℤ whole = dot_range n 0 turned every (pos 0) (neg_ℤ whole) in
          let same : sum_below n (λ k. turned (0 + k) *ℤ every (0 + k)) ≡ sum_below n (λ k. negsuc 0 *ℤ (coefficient problem.objective k *ℤ amounts k)) =
          sum_below-same n (λ k. turned (0 + k) *ℤ every (0 + k)) (λ k. negsuc 0 *ℤ (coefficient problem.objective k *ℤ amounts k)) (λ k below. ap (λ j. turned j *ℤ every j) (none_and k) ∙ ap (λ t. turned k *ℤ t) (column_amount problem amounts whole k below) ∙ minus_times (coefficient problem.objective k) (amounts k) ∙ omega (arith, ints)) in
          omega (arith, ints, sum, same, sum_below-times n (negsuc 0) (λ k. coefficient problem.objective k *ℤ amounts k), by_cells n amounts problem.objective shaped.objective);
    }
