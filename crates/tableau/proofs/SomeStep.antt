-- From every table that can be improved there is a step.
use Rattle.std.proofs.Common.{◌≡◌, ◌≢◌, ◌⊎◌, inl, inr, ℕ, zero, suc, ◌+◌, ◌<◌, ◌%◌, Option, Some, None, List, [], ◌∷◌, length, map, slice_index_or, All, ℤ, pos, neg_ℤ, ◌*ℤ◌, ◌≤ℤ◌, unsigned_abs, arith, refl, ap, subst, ◌∙◌, below_more}
use Prim.Native.Nat.{◌∣◌}
use Rattle.std.specs.Int.{IsGcd}
use Rattle.std.specs.Int.RustNames.{int_div}
use Rattle.std.proofs.lemmas.Int.{ints, by_lt_z}
use Rattle.std.proofs.lemmas.Nat.Gcd.{dvd_refl, dvd_trans, le_of_dvd, IsGcd-from_zero, IsGcd-from_mod}
use Rattle.std.proofs.lemmas.List.Elements.{All-nil, All-cons, All-head, All-tail, All-map, All-weaker}
use Rattle.tableau.specs.declared.problem.Problem.{Problem}
use Rattle.tableau.specs.Tables.{Table, times_row, exchanged_table}
use Rattle.sdc_base.specs.Systems.{number_at}
use Rattle.tableau.specs.Problems.{NamesColumns}
use Rattle.tableau.specs.RowLists.{IsLexPositive, AreZeros, Leaves, list_size, lead}
use Rattle.tableau.specs.Steps.{Enters, IsInLowestTerms}
use Rattle.tableau.specs.Choices.{LeavesAmong, IsLeaving}
use Rattle.tableau.specs.Walks.{IsTableOf, StepExists}
use Rattle.tableau.proofs.Rising.{above_same, product_above}
use Rattle.tableau.proofs.LeavingRows.{leaves_new, leaves_tied}
use Rattle.tableau.proofs.Divisors.{exact, abs_up, dvd_up}
use Rattle.tableau.proofs.ReducedRows.{times_divides, abs_le}
use Rattle.tableau.proofs.Solved.{some_member_leaves}

-- ---- which member leaves

plain : (from : ℕ) → from + 0 ≡ from
plain from = omega arith

next : (from i : ℕ) → from + suc i ≡ suc from + i
next from i = omega arith

none_more : (n from : ℕ) (g : ℕ → ℤ) → g from ≡ pos 0 → AreZeros n (suc from) g → AreZeros (suc n) from g
none_more n from g here later zero below = ap g (plain from) ∙ here
none_more n from g here later (suc i) below = ap g (next from i) ∙ later i (omega arith)

-- numbers are above 0 at the first that isn't 0, or all 0, or their opposites are above
compared : (n from : ℕ) (g : ℕ → ℤ) → IsLexPositive n from g ⊎ (AreZeros n from g ⊎ IsLexPositive n from (λ i. neg_ℤ (g i)))
compared zero from g = inr (inl (λ i below. absurd (omega arith)))
compared (suc n) from g =
    by_lt_z (pos 0) (g from) (λ more. inl (inl more))
    (λ not_more. by_lt_z (g from) (pos 0) (λ less. inr (inr (inl (omega (arith, ints)))))
    (λ not_less.
    let here : g from ≡ pos 0 = omega (arith, ints) in
    elim (compared n (suc from) g) as (λ _. IsLexPositive (suc n) from g ⊎ (AreZeros (suc n) from g ⊎ IsLexPositive (suc n) from (λ i. neg_ℤ (g i)))) [
      | inl above ↦ inl (inr (here, above))
      | inr rest ↦ elim rest as (λ _. IsLexPositive (suc n) from g ⊎ (AreZeros (suc n) from g ⊎ IsLexPositive (suc n) from (λ i. neg_ℤ (g i)))) [
        | inl none ↦ inr (inl (none_more n from g here none))
        | inr below ↦ inr (inr (inr (omega (arith, ints), below)))
      ]
    ]))

turned : (problem : Problem) (table : Table) (column row k i : ℕ) → neg_ℤ (lead problem table column row k i) ≡ lead problem table column k row i
turned problem table column row k i = omega (arith, ints)

leaves_kept : (problem : Problem) (table : Table) (column k row : ℕ) → LeavesAmong problem table column k row → IsLexPositive (list_size problem) 0 (lead problem table column row k) → LeavesAmong problem table column (k + 1) row
leaves_kept problem table column k row best more = record {
  within = omega (arith, best.within);
  above = best.above;
  least = below_more (λ j. j ≢ row → pos 1 ≤ℤ number_at (slice_index_or table.rows j []) column → IsLexPositive (list_size problem) 0 (lead problem table column row j) ⊎ (AreZeros (list_size problem) 0 (lead problem table column row j) × (row < j))) k best.least (λ _ _. inl more);
}

leaves_passed : (problem : Problem) (table : Table) (column k row : ℕ) → LeavesAmong problem table column k row → number_at (slice_index_or table.rows k []) column ≤ℤ pos 0 → LeavesAmong problem table column (k + 1) row
leaves_passed problem table column k row best none = record {
  within = omega (arith, best.within);
  above = best.above;
  least = below_more (λ j. j ≢ row → pos 1 ≤ℤ number_at (slice_index_or table.rows j []) column → IsLexPositive (list_size problem) 0 (lead problem table column row j) ⊎ (AreZeros (list_size problem) 0 (lead problem table column row j) × (row < j))) k best.least (λ _ up. absurd (omega (arith, ints)));
}

leaving_more : (problem : Problem) (table : Table) (column k : ℕ) (best : Option ℕ) → IsLeaving problem table column k best → (more : Option ℕ) × IsLeaving problem table column (k + 1) more
leaving_more problem table column k None none =
    by_lt_z (pos 0) (number_at (slice_index_or table.rows k []) column)
    (λ up. (Some k, record { within = omega arith; above = omega (arith, ints); least = λ j below apart above. absurd (omega (arith, ints, none j (omega arith))) }))
    (λ down. (None, below_more (λ j. number_at (slice_index_or table.rows j []) column ≤ℤ pos 0) k none down))
leaving_more problem table column k (Some row) best =
    by_lt_z (pos 0) (number_at (slice_index_or table.rows k []) column)
    (λ up.
    let size : ℕ = list_size problem in
    elim (compared size 0 (lead problem table column row k)) as (λ _. (more : Option ℕ) × IsLeaving problem table column (k + 1) more) [
      | inl above ↦ (Some row, leaves_kept problem table column k row best above)
      | inr rest ↦ elim rest as (λ _. (more : Option ℕ) × IsLeaving problem table column (k + 1) more) [
        | inl none ↦ (Some row, leaves_tied problem table column k row best none)
        | inr below ↦ (
          Some k,
          leaves_new problem table column k row best (omega (arith, ints))
              (above_same size 0 (λ i. neg_ℤ (lead problem table column row k i)) (lead problem table column k row) (turned problem table column row k) below),
        )
      ]
    ])
    (λ down. (Some row, leaves_passed problem table column k row best down))

leaving_upto : (problem : Problem) (table : Table) (column k : ℕ) → (best : Option ℕ) × IsLeaving problem table column k best
leaving_upto problem table column zero = (None, λ j below. absurd (omega arith))
leaving_upto problem table column (suc k) =
    let before = leaving_upto problem table column k in
    let more = leaving_more problem table column k before.0 before.1 in
    let count : k + 1 ≡ suc k = omega arith in
    (more.0, subst (λ n. IsLeaving problem table column n more.0) count more.1)

some_leaves : (problem : Problem) (table : Table) (column : ℕ) (best : Option ℕ) → NamesColumns problem → IsTableOf problem table → Enters table column → IsLeaving problem table column (length table.members) best → (row : ℕ) × Leaves problem table row column
some_leaves problem table column None formed kept enters none = absurd (some_member_leaves problem table column formed kept enters.within enters.below none)
some_leaves problem table column (Some row) formed kept enters best = (row, record { row_within = best.within; above = best.above; least = best.least })

-- ---- the greatest divisor

gcd_upto : (n a b : ℕ) → b < n → (g : ℕ) × IsGcd a b g
gcd_upto zero a b below = absurd (omega arith)
gcd_upto (suc n) a zero below = (a, IsGcd-from_zero a 0 refl)
gcd_upto (suc n) a (suc b) below =
    let rest : (g : ℕ) × IsGcd (suc b) (a % suc b) g = gcd_upto n (suc b) (a % suc b) (omega arith) in
    (rest.0, IsGcd-from_mod a (suc b) rest.0 rest.1)

-- g divides a number and numbers, and what divides them all divides g
pub record IsCommon (start : ℕ) (numbers : List ℤ) (g : ℕ) : Type 0 where
  pub start_divides : g ∣ start
  pub each : All (λ number. g ∣ unsigned_abs number) numbers
  pub greatest : (e : ℕ) → e ∣ start → All (λ number. e ∣ unsigned_abs number) numbers → e ∣ g

pub common_of : (start : ℕ) (numbers : List ℤ) → (g : ℕ) × IsCommon start numbers g
common_of start [] = (start, record { start_divides = dvd_refl start; each = All-nil (λ number. start ∣ unsigned_abs number); greatest = λ e divides _. divides })
common_of start (x ∷ xs) =
    let one : (g : ℕ) × IsGcd start (unsigned_abs x) g = gcd_upto (unsigned_abs x + 1) start (unsigned_abs x) (omega arith) in
    let all : (g : ℕ) × IsCommon one.0 xs g = common_of one.0 xs in (
      all.0,
      record {
        start_divides = dvd_trans all.0 all.1.start_divides one.1.0;
        each = All-cons (λ number. all.0 ∣ unsigned_abs number) x xs (dvd_trans all.0 all.1.start_divides one.1.1) all.1.each;
        greatest = λ e divides each. all.1.greatest e (one.1.2 e divides (All-head (λ number. e ∣ unsigned_abs number) x xs each)) (All-tail (λ number. e ∣ unsigned_abs number) x xs each);
      },
    )

record IsCommonOfRows (start : ℕ) (rows : List (List ℤ)) (g : ℕ) : Type 0 where
  pub start_divides : g ∣ start
  pub each : All (λ row. All (λ number. g ∣ unsigned_abs number) row) rows
  pub greatest : (e : ℕ) → e ∣ start → All (λ row. All (λ number. e ∣ unsigned_abs number) row) rows → e ∣ g

common_of_rows : (start : ℕ) (rows : List (List ℤ)) → (g : ℕ) × IsCommonOfRows start rows g
common_of_rows start [] = (start, record { start_divides = dvd_refl start; each = All-nil (λ (row : List ℤ). All (λ number. start ∣ unsigned_abs number) row); greatest = λ e divides _. divides })
common_of_rows start (row ∷ rows) =
    let one : (g : ℕ) × IsCommon start row g = common_of start row in
    let all : (g : ℕ) × IsCommonOfRows one.0 rows g = common_of_rows one.0 rows in (
      all.0,
      record {
        start_divides = dvd_trans all.0 all.1.start_divides one.1.start_divides;
        each = All-cons (λ (r : List ℤ). All (λ number. all.0 ∣ unsigned_abs number) r) row rows
            (All-weaker (λ number. one.0 ∣ unsigned_abs number) (λ number. all.0 ∣ unsigned_abs number) (λ number divides. dvd_trans all.0 all.1.start_divides divides) row one.1.each) all.1.each;
        greatest = λ e divides each.
            all.1.greatest e (one.1.greatest e divides (All-head (λ (r : List ℤ). All (λ number. e ∣ unsigned_abs number) r) row rows each)) (All-tail (λ (r : List ℤ). All (λ number. e ∣ unsigned_abs number) r) row rows each);
      },
    )

times_divided : (by : ℤ) (xs : List ℤ) → All (λ number. unsigned_abs by ∣ unsigned_abs number) xs → times_row by (map (λ n. int_div n by) xs) ≡ xs
times_divided by [] each = refl
times_divided by (x ∷ xs) each =
    ap (λ n. n ∷ times_row by (map (λ n. int_div n by) xs)) (exact x by (All-head (λ number. unsigned_abs by ∣ unsigned_abs number) x xs each))
    ∙ ap (λ (t : List ℤ). x ∷ t) (times_divided by xs (All-tail (λ number. unsigned_abs by ∣ unsigned_abs number) x xs each))

rows_divided : (by : ℤ) (rows : List (List ℤ)) → All (λ row. All (λ number. unsigned_abs by ∣ unsigned_abs number) row) rows → map (times_row by) (map (λ row. map (λ n. int_div n by) row) rows) ≡ rows
rows_divided by [] each = refl
rows_divided by (row ∷ rows) each =
    ap (λ (t : List ℤ). t ∷ map (times_row by) (map (λ r. map (λ n. int_div n by) r) rows)) (times_divided by row (All-head (λ (r : List ℤ). All (λ number. unsigned_abs by ∣ unsigned_abs number) r) row rows each))
    ∙ ap (λ (t : List (List ℤ)). row ∷ t) (rows_divided by rows (All-tail (λ (r : List ℤ). All (λ number. unsigned_abs by ∣ unsigned_abs number) r) row rows each))

row_divides : (e : ℤ) (xs : List ℤ) → All (λ number. unsigned_abs e ∣ unsigned_abs number) (times_row e xs)
row_divides e xs = All-map (λ number. unsigned_abs e ∣ unsigned_abs number) (λ (n : ℤ). n *ℤ e) xs (λ k d below. times_divides e (slice_index_or xs k d))

rows_divide : (e : ℤ) (rows : List (List ℤ)) → All (λ row. All (λ number. unsigned_abs e ∣ unsigned_abs number) row) (map (times_row e) rows)
rows_divide e rows = All-map (λ (r : List ℤ). All (λ number. unsigned_abs e ∣ unsigned_abs number) r) (times_row e) rows (λ k d below. row_divides e (slice_index_or rows k d))

some_part : (whole : Table) → pos 1 ≤ℤ whole.den → (d : ℤ) × (part : Table) × IsInLowestTerms d whole part
some_part whole up =
    let of_objective : (g : ℕ) × IsCommon (unsigned_abs whole.den) whole.objective g = common_of (unsigned_abs whole.den) whole.objective in
    let of_rows : (g : ℕ) × IsCommonOfRows of_objective.0 whole.rows g = common_of_rows of_objective.0 whole.rows in
    let g : ℕ = of_rows.0 in
    let by : ℤ = pos g in
    let den_divides : g ∣ unsigned_abs whole.den = dvd_trans g of_rows.1.start_divides of_objective.1.start_divides in
    let g_up : 0 < g = dvd_up g (unsigned_abs whole.den) den_divides (abs_up whole.den up) in
    let objective_each : All (λ number. g ∣ unsigned_abs number) whole.objective = All-weaker (λ number. of_objective.0 ∣ unsigned_abs number) (λ number. g ∣ unsigned_abs number) (λ number divides. dvd_trans g of_rows.1.start_divides divides) whole.objective of_objective.1.each in
    let divided : ℤ → ℤ = λ n. int_div n by in
    let part : Table = record { den = divided whole.den; members = whole.members; others = whole.others; rows = map (λ row. map divided row) whole.rows; objective = map divided whole.objective } in (
      by,
      part,
      record {
        divided = record {
          divisor = omega (arith, ints);
          den = exact whole.den by den_divides;
          members = refl;
          others = refl;
          rows = rows_divided by whole.rows of_rows.1.each;
          objective = times_divided by whole.objective objective_each;
        };
        greatest = λ e other of_other.
            let e_den : unsigned_abs e ∣ unsigned_abs whole.den = subst (λ t. unsigned_abs e ∣ unsigned_abs t) of_other.den (times_divides e other.den) in
            let e_objective : All (λ number. unsigned_abs e ∣ unsigned_abs number) whole.objective = subst (λ (t : List ℤ). All (λ number. unsigned_abs e ∣ unsigned_abs number) t) of_other.objective (row_divides e other.objective) in
            let e_rows : All (λ row. All (λ number. unsigned_abs e ∣ unsigned_abs number) row) whole.rows = subst (λ (t : List (List ℤ)). All (λ row. All (λ number. unsigned_abs e ∣ unsigned_abs number) row) t) of_other.rows (rows_divide e other.rows) in
            abs_le e by of_other.divisor (omega (arith, ints)) (le_of_dvd g_up (of_rows.1.greatest (unsigned_abs e) (of_objective.1.greatest (unsigned_abs e) e_den e_objective) e_rows));
      },
    )

pub step_exists : StepExists
step_exists problem table formed kept can =
    let column : ℕ = can.1 in
    let enters : Enters table column = can.2 in
    let best : (best : Option ℕ) × IsLeaving problem table column (length table.members) best = leaving_upto problem table column (length table.members) in
    let leaves : (row : ℕ) × Leaves problem table row column = some_leaves problem table column best.0 formed kept enters best.1 in
    let whole : Table = exchanged_table table leaves.0 column in
    let up : pos 1 ≤ℤ whole.den = omega (arith, ints, product_above table.den (number_at (slice_index_or table.rows leaves.0 []) column) kept.above_zero (omega (arith, ints, leaves.1.above))) in
    let reduced : (d : ℤ) × (part : Table) × IsInLowestTerms d whole part = some_part whole up in
    (reduced.1, (leaves.0, column, reduced.0, record { below = can.0; enters = enters; leaves = leaves.1; reduced = reduced.2 }))
