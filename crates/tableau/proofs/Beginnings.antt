-- The first table of a walk.
use Rattle.std.proofs.Common.{◌≡◌, ◌≢◌, inl, inr, ℕ, zero, suc, ◌+◌, ◌-◌, ◌<◌, ◌==◌, true, false, List, [], ◌∷◌, length, map, zip, slice_index, slice_index_or, get_or, All, ℤ, pos, ◌<ℤ◌, ◌≤ℤ◌, arith, refl, ap, sym, subst, ◌∙◌, length-append, if◌then◌else◌}
use Rattle.std.specs.List.{range_with_len}
use Rattle.std.proofs.lemmas.Int.{ints, by_lt_z}
use Rattle.std.proofs.lemmas.Bool.Decides.{nat_tests}
use Rattle.std.proofs.lemmas.List.{get_or-map, length-map, get_or-append_right}
use Rattle.std.proofs.lemmas.List.Elements.{All-from_get_or}
use Rattle.std.proofs.lemmas.List.FromFn.{length-range_with_len, get_or-range_with_len}
use Rattle.sdc_base.specs.Forms.{coefficient}
use Rattle.sdc_base.proofs.TotalLemmas.{sum_of-cons}
use Rattle.tableau.specs.Tables.{HasShape}
use Rattle.sdc_base.specs.Systems.{number_at}
use Rattle.tableau.specs.declared.problem.Problem.{Problem}
use Rattle.tableau.specs.declared.problem.LinRow.{LinRow}
use Rattle.tableau.specs.Problems.{row_at, no_row, numbers_then_value, first_table, number_in, rows_of, variable_count}
use Rattle.tableau.specs.RowLists.{IsLexPositive, list_of, RowsAreLexPositive}
use Rattle.tableau.specs.Walks.{IsBasisOf, StartGivesTable}
use Rattle.tableau.proofs.Starts.{start_holds}
use Rattle.tableau.proofs.Independent.{absent}

length-numbers_then_value : (n : ℕ) (f : ℕ → ℤ) (value : ℤ) → length (numbers_then_value n f value) ≡ n + 1
length-numbers_then_value n f value = length-append (map f (range_with_len 0 n)) (value ∷ []) ∙ ap (λ k. k + 1) (length-map (range_with_len 0 n) f ∙ length-range_with_len 0 n)

last-numbers_then_value : (n : ℕ) (f : ℕ → ℤ) (value : ℤ) → get_or (numbers_then_value n f value) n (pos 0) ≡ value
last-numbers_then_value n f value =
    let long : length (map f (range_with_len 0 n)) ≡ n = length-map (range_with_len 0 n) f ∙ length-range_with_len 0 n in
    let none : n - n ≡ 0 = omega arith in
    get_or-append_right (map f (range_with_len 0 n)) (value ∷ []) n n (pos 0) long (omega arith) ∙ ap (λ k. get_or (value ∷ []) k (pos 0)) none

place_after : (s : ℕ) → 1 + s ≡ suc s
place_after s = omega arith

plain : (n : ℕ) → n + 0 ≡ n
plain n = omega arith

next : (n i : ℕ) → suc n + i ≡ n + suc i
next n i = omega arith

-- the first that isn't 0 is above 0
pub first_above : (n from j : ℕ) (g : ℕ → ℤ) → j < n → ((i : ℕ) → i < j → g (from + i) ≡ pos 0) → pos 0 <ℤ g (from + j) → IsLexPositive n from g
first_above zero from j g within none above = absurd (omega arith)
first_above (suc n) from zero g within none above = inl (subst (λ k. pos 0 <ℤ g k) (plain from) above)
first_above (suc n) from (suc j) g within none above =
    inr (sym (ap g (plain from)) ∙ none 0 (omega arith), first_above n (suc from) j g (omega arith) (λ i below. ap g (next from i) ∙ none (suc i) (omega arith)) (subst (λ k. pos 0 <ℤ g k) (sym (next from j)) above))

pub start_shaped : (problem : Problem) → HasShape (first_table problem)
start_shaped problem =
    let n : ℕ = problem.columns in
    let m : ℕ = length (rows_of problem) in
    let wide : LinRow → List ℤ = λ row. numbers_then_value n (coefficient row.entries) row.bound in
    let others : length (range_with_len 0 n) ≡ n = length-range_with_len 0 n in
    record {
      rows = length-map (rows_of problem) wide ∙ sym (length-range_with_len n m);
      each = λ k below. ap length (get_or-map wide (rows_of problem) k no_row [] (omega (arith, length-range_with_len n m))) ∙ length-numbers_then_value n (coefficient (row_at problem k).entries) (row_at problem k).bound ∙ ap (λ j. j + 1) (sym others);
      objective = length-numbers_then_value n _ (pos 0) ∙ ap (λ j. j + 1) (sym others);
    }

start_basis : (problem : Problem) → IsBasisOf (variable_count problem) (first_table problem).members (first_table problem).others
start_basis problem =
    let n : ℕ = problem.columns in
    let m : ℕ = length (rows_of problem) in
    let member : (k : ℕ) → k < length (range_with_len n m) → slice_index (range_with_len n m) k ≡ n + k = λ k below. get_or-range_with_len n m k 0 (omega (arith, length-range_with_len n m)) in
    let other : (k : ℕ) → k < length (range_with_len 0 n) → slice_index (range_with_len 0 n) k ≡ 0 + k = λ k below. get_or-range_with_len 0 n k 0 (omega (arith, length-range_with_len 0 n)) in
    record {
      members = λ j k j_below k_below same. let e : n + j ≡ n + k = sym (member j j_below) ∙ same ∙ member k k_below in omega arith;
      others = λ j k j_below k_below same. let e : 0 + j ≡ 0 + k = sym (other j j_below) ∙ same ∙ other k k_below in omega arith;
      apart = λ j k j_below k_below same. let e : n + j ≡ 0 + k = sym (member j j_below) ∙ same ∙ other k k_below in absurd (omega (arith, length-range_with_len 0 n));
      members_below = λ k below. omega (arith, member k below, length-range_with_len n m);
      others_below = λ k below. omega (arith, other k below, length-range_with_len 0 n);
    }

moved_test : (n k s : ℕ) → (n + k == n + s) ≡ (k == s)
moved_test n k s =
    elim (k == s) as (λ b. (k == s) ≡ b → (n + k == n + s) ≡ b) [
      | true ↦ λ is. grind (arith, nat_tests, is)
      | false ↦ λ is. grind (arith, nat_tests, is)
    ] refl

-- a number at a slack in the first table: 1 in its own row, else 0
slack_number : (problem : Problem) (k s : ℕ) → k < length (rows_of problem) → number_in (first_table problem) k (problem.columns + s) ≡ (if k == s then pos 1 else pos 0)
slack_number problem k s within =
    let n : ℕ = problem.columns in
    let m : ℕ = length (rows_of problem) in
    let row : List ℤ = slice_index_or (first_table problem).rows k [] in
    let others : List ℕ = range_with_len 0 n in
    let apart : All (λ u. u ≢ n + s) others = All-from_get_or (λ u. u ≢ n + s) others 0 (λ j below clash. let e : 0 + j ≡ n + s = sym (get_or-range_with_len 0 n j 0 (omega (arith, length-range_with_len 0 n))) ∙ clash in absurd (omega (arith, length-range_with_len 0 n))) in
    let own : (if slice_index (range_with_len n m) k == n + s then pos 1 else pos 0) ≡ (if k == s then pos 1 else pos 0) =
    ap (λ x. if x == n + s then pos 1 else pos 0) (get_or-range_with_len n m k 0 within) ∙ ap (λ b. if b then pos 1 else pos 0) (moved_test n k s) in
    sum_of-cons (λ (t : ℕ × ℤ). if t.0 == n + s then t.1 else pos 0) (slice_index (range_with_len n m) k, pos 1) (zip others row)
    ∙ omega (arith, ints, own, absent others row (n + s) apart)

start_above : (problem : Problem) → ((k : ℕ) → k < length (rows_of problem) → pos 0 ≤ℤ (row_at problem k).bound) → RowsAreLexPositive problem (first_table problem)
start_above problem bounds k below =
    let n : ℕ = problem.columns in
    let m : ℕ = length (rows_of problem) in
    let within : k < m = omega (arith, length-range_with_len n m) in
    let wide : LinRow → List ℤ = λ row. numbers_then_value n (coefficient row.entries) row.bound in
    let one : LinRow = row_at problem k in
    let g : ℕ → ℤ = list_of problem (first_table problem) k in
    let value : g 0 ≡ one.bound =
    ap (λ (t : List ℤ). number_at t (length (range_with_len 0 n))) (get_or-map wide (rows_of problem) k no_row [] within)
    ∙ ap (λ j. number_at (numbers_then_value n (coefficient one.entries) one.bound) j) (length-range_with_len 0 n)
    ∙ last-numbers_then_value n (coefficient one.entries) one.bound in
    let bound : pos 0 ≤ℤ one.bound = bounds k within in
    by_lt_z (pos 0) one.bound
    (λ more. inl (omega (arith, ints)))
    (λ less. inr (
      omega (arith, ints),
      first_above m 1 k g within
          (λ i i_below. let test : (k == i) ≡ false = grind (arith, nat_tests) in ap g (place_after i) ∙ slack_number problem k i within ∙ ap (λ b. if b then pos 1 else pos 0) test)
          (let test : (k == k) ≡ true = grind (arith, nat_tests) in
          let own : g (1 + k) ≡ pos 1 = ap g (place_after k) ∙ slack_number problem k k within ∙ ap (λ b. if b then pos 1 else pos 0) test in omega (arith, ints)),
    ))

pub start_is_kept : StartGivesTable
start_is_kept problem formed bounds = record {
  shaped = start_shaped problem;
  sized = record { members = length-range_with_len problem.columns (length (rows_of problem)); others = length-range_with_len 0 problem.columns };
  above_zero = omega (arith, ints);
  basis = start_basis problem;
  true_of = start_holds problem formed;
  from_start = λ amounts objective whole holds. holds;
  to_start = λ amounts objective whole holds. holds;
  rows_above = start_above problem bounds;
}
