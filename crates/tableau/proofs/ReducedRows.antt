-- Divided entries are those of the reduced table.
use Rattle.std.proofs.Common.{◌≡◌, ◌≢◌, ℕ, zero, suc, ◌+◌, ◌<◌, ◌≤◌, List, [], ◌∷◌, ◌++◌, length, map, take, drop, slice_index_or, All, ℤ, pos, negsuc, ◌*ℤ◌, ◌≤ℤ◌, unsigned_abs, arith, refl, ap, sym, subst, ◌∙◌, length-append, length-take, ◌*◌}
use Prim.Native.Nat.{◌∣◌}
use Rattle.std.proofs.Math.Nat.{dvd-mul_left}
use Rattle.std.proofs.lemmas.Int.{ints, unsigned_abs-mul}
use Rattle.std.proofs.lemmas.Nat.Gcd.{le_of_dvd}
use Rattle.std.proofs.lemmas.List.{take_at, take-map, length-map, get_or-map, map-append, get_or_append_left, get_or_at, get_or-take}
use Rattle.std.proofs.lemmas.Simd.{map-map}
use Rattle.std.proofs.lemmas.List.Elements.{All-map}
use Rattle.sdc_base.specs.Forms.{Term, coefficient}
use Rattle.tableau.specs.Tables.{Table, HasShape, IsQuotient, times_row}
use Rattle.tableau.specs.Steps.{IsInLowestTerms}
use Rattle.tableau.specs.Widths.{all_rows}
use Rattle.tableau.specs.ProblemForm.{AscendFrom}
use Rattle.tableau.specs.Entries.{IsSparse, AreEntriesOf, AreListsOf, times_entry}
use Rattle.tableau.specs.OwnRows.{row_over}
use Rattle.tableau.proofs.Divisors.{abs_up}
use Rattle.tableau.proofs.Ascending.{first_entry, not_first}
use Rattle.tableau.proofs.Places.{ascend_of}
use Rattle.tableau.proofs.Independent.{by_less}

-- den and rows are those of a table divided by the greatest number that divides them all
pub record AreInLowestTerms (width : ℕ) (whole : Table) (den by : ℤ) (lists : List (List Term)) : Type 0 where
  pub above : pos 1 ≤ℤ by
  pub den_times : den *ℤ by ≡ whole.den
  pub rows_times : map (λ entries. times_row by (row_over den width entries)) lists ≡ all_rows whole
  pub greatest : (e : ℕ) → e ∣ unsigned_abs whole.den →
      All (λ row. All (λ number. e ∣ unsigned_abs number) row) (all_rows whole) → e ∣ unsigned_abs by

pub times_divides : (e m : ℤ) → unsigned_abs e ∣ unsigned_abs (m *ℤ e)
times_divides e m = subst (λ t. unsigned_abs e ∣ t) (sym (unsigned_abs-mul m e)) (dvd-mul_left (unsigned_abs e) (unsigned_abs m))

pub abs_le : (a b : ℤ) → pos 1 ≤ℤ a → pos 1 ≤ℤ b → unsigned_abs a ≤ unsigned_abs b → a ≤ℤ b
abs_le (pos a) (pos b) up also less = omega (arith, ints)
abs_le (pos a) (negsuc b) up also less = absurd (omega (arith, ints))
abs_le (negsuc a) b up also less = absurd (omega (arith, ints))

pub taken_back : (size : ℕ) (new old : List ℤ) → length new ≡ size → take size (new ++ drop (length new) old) ≡ new
taken_back size new old long = take_at new (drop (length new) old) size long

-- what divides a table divides its rows
divides_rows : (e : ℤ) (whole other : Table) → IsQuotient e whole other → All (λ row. All (λ number. unsigned_abs e ∣ unsigned_abs number) row) (all_rows whole)
divides_rows e whole other divided =
    let rows_are : all_rows whole ≡ map (times_row e) (all_rows other) =
    ap (λ (t : List (List ℤ)). t ++ whole.objective ∷ []) (sym divided.rows) ∙ ap (λ (t : List ℤ). map (times_row e) other.rows ++ t ∷ []) (sym divided.objective) ∙ sym (map-append (times_row e) other.rows (other.objective ∷ [])) in
    subst (λ (t : List (List ℤ)). All (λ row. All (λ number. unsigned_abs e ∣ unsigned_abs number) row) t) (sym rows_are)
    (All-map (λ (row : List ℤ). All (λ number. unsigned_abs e ∣ unsigned_abs number) row) (times_row e) (all_rows other)
    (λ k d below. All-map (λ number. unsigned_abs e ∣ unsigned_abs number) (λ (n : ℤ). n *ℤ e) (slice_index_or (all_rows other) k d) (λ i c inside. times_divides e (slice_index_or (slice_index_or (all_rows other) k d) i c))))

-- ---- entries divided

ascend_times : (by : ℤ) (from : ℕ) (part : List Term) → AscendFrom from part → AscendFrom from (map (times_entry by) part)
ascend_times by from [] ascend = tt
ascend_times by from (entry ∷ part) ascend = (ascend.0, ascend_times by (suc entry.0) part ascend.1)

pub coefficient_times : (by : ℤ) (from v : ℕ) (part : List Term) → AscendFrom from part → coefficient part v *ℤ by ≡ coefficient (map (times_entry by) part) v
coefficient_times by from v [] ascend = omega (arith, ints)
coefficient_times by from v (entry ∷ part) ascend =
    let apart_case : entry.0 ≢ v → coefficient (entry ∷ part) v *ℤ by ≡ coefficient (times_entry by entry ∷ map (times_entry by) part) v =
    λ apart. ap (λ t. t *ℤ by) (not_first entry part v apart) ∙ coefficient_times by (suc entry.0) v part ascend.1 ∙ sym (not_first (times_entry by entry) (map (times_entry by) part) v apart) in
    by_less entry.0 v
    (λ less. apart_case (omega arith))
    (λ more.
    by_less v entry.0
    (λ less. apart_case (omega arith))
    (λ most.
    ap (λ t. t *ℤ by) (first_entry entry part v (omega arith, ascend.1) (omega arith))
    ∙ sym (first_entry (times_entry by entry) (map (times_entry by) part) v (omega arith, ascend_times by (suc entry.0) part ascend.1) (omega arith))))

pub sparse_part : (by : ℤ) (from limit : ℕ) (part : List Term) → IsSparse from limit (map (times_entry by) part) → IsSparse from limit part
sparse_part by from limit [] sparse = tt
sparse_part by from limit (entry ∷ part) sparse =
    (sparse.0, sparse.1, (λ none. sparse.2 (ap (λ t. t *ℤ by) none ∙ omega (arith, ints))), sparse_part by (suc entry.0) limit part sparse.3)

-- ---- what divides a row divides its entries

place_from : (from limit k : ℕ) (d : Term) (entries : List Term) → IsSparse from limit entries → k < length entries → from ≤ (slice_index_or entries k d).0
place_from from limit k d [] sparse within = absurd (omega arith)
place_from from limit zero d (entry ∷ entries) sparse within = sparse.0
place_from from limit (suc k) d (entry ∷ entries) sparse within = omega (arith, sparse.0, place_from (suc entry.0) limit k d entries sparse.3 (omega arith))

pub entry_is : (from limit k : ℕ) (d : Term) (entries : List Term) → IsSparse from limit entries → k < length entries → coefficient entries (slice_index_or entries k d).0 ≡ (slice_index_or entries k d).1
entry_is from limit k d [] sparse within = absurd (omega arith)
entry_is from limit zero d (entry ∷ entries) sparse within = first_entry entry entries entry.0 (omega arith, ascend_of (suc entry.0) limit entries sparse.3) refl
entry_is from limit (suc k) d (entry ∷ entries) sparse within =
    let later : suc entry.0 ≤ (slice_index_or entries k d).0 = place_from (suc entry.0) limit k d entries sparse.3 (omega arith) in
    not_first entry entries (slice_index_or entries k d).0 (omega arith) ∙ entry_is (suc entry.0) limit k d entries sparse.3 (omega arith)

-- a table of reduced den and rows is reduced
pub reduced_table : (whole : Table) (den by : ℤ) (width : ℕ) (members others : List ℕ) (lists : List (List Term)) → HasShape whole → AreInLowestTerms width whole den by lists → whole.members ≡ members → whole.others ≡ others → length others + 1 ≡ width →
    IsInLowestTerms by whole (record {
      den = den;
      members = members;
      others = others;
      rows = map (row_over den (length others + 1)) (take (length members) lists);
      objective = row_over den (length others + 1) (slice_index_or lists (length members) []);
    })
reduced_table whole den by width members others lists shaped reduced members_are others_are width_is =
    let spread_times : List Term → List ℤ = λ entries. times_row by (row_over den width entries) in
    let height : length whole.rows ≡ length members = shaped.rows ∙ ap length members_are in
    let long : length lists ≡ length whole.rows + 1 = sym (length-map lists spread_times) ∙ ap length reduced.rows_times ∙ length-append whole.rows (whole.objective ∷ []) in
    let rows_are : map (times_row by) (map (row_over den width) (take (length members) lists)) ≡ whole.rows =
    map-map (times_row by) (row_over den width) (take (length members) lists) ∙ sym (take-map spread_times (length members) lists) ∙ ap (take (length members)) reduced.rows_times ∙ take_at whole.rows (whole.objective ∷ []) (length members) height in
    let objective_is : times_row by (row_over den width (slice_index_or lists (length members) [])) ≡ whole.objective =
    sym (get_or-map spread_times lists (length members) [] [] (omega arith)) ∙ ap (λ (t : List (List ℤ)). slice_index_or t (length members) []) reduced.rows_times ∙ get_or_at whole.rows whole.objective [] [] (length members) (omega arith) in
    record {
      divided = record {
        divisor = reduced.above;
        den = reduced.den_times;
        members = sym members_are;
        others = sym others_are;
        rows = ap (λ n. map (times_row by) (map (row_over den n) (take (length members) lists))) width_is ∙ rows_are;
        objective = ap (λ n. times_row by (row_over den n (slice_index_or lists (length members) []))) width_is ∙ objective_is;
      };
      greatest = λ e other divided.
          let den_divides : unsigned_abs e ∣ unsigned_abs whole.den = subst (λ t. unsigned_abs e ∣ unsigned_abs t) divided.den (times_divides e other.den) in
          let divides : unsigned_abs e ∣ unsigned_abs by = reduced.greatest (unsigned_abs e) den_divides (divides_rows e whole other divided) in
          abs_le e by divided.divisor reduced.above (le_of_dvd (abs_up by reduced.above) divides);
    }

pub length-reduced : (width : ℕ) (whole : Table) (den by : ℤ) (lists : List (List Term)) → HasShape whole → AreInLowestTerms width whole den by lists → length lists ≡ length whole.members + 1
length-reduced width whole den by lists shaped reduced =
    sym (length-map lists (λ (entries : List Term). times_row by (row_over den width entries))) ∙ ap length reduced.rows_times ∙ length-append whole.rows (whole.objective ∷ []) ∙ ap (λ n. n + 1) shaped.rows

-- one row more
pub rows_more : (width : ℕ) (rows : List (List ℤ)) (k : ℕ) (lists now : List (List Term)) (made : List Term) → k < length rows → AreListsOf width (take k rows) lists → AreEntriesOf width (slice_index_or rows k []) made → now ≡ lists ++ made ∷ [] → AreListsOf width (take (k + 1) rows) now
rows_more width rows k lists now made within are is put =
    let size : length (take k rows) ≡ k = omega (arith, length-take k rows) in
    let next_size : length (take (k + 1) rows) ≡ k + 1 = omega (arith, length-take (k + 1) rows) in
    record {
      long = ap length put ∙ length-append lists (made ∷ []) ∙ omega (arith, are.long);
      each = λ i below.
          let row_is : slice_index_or (take (k + 1) rows) i [] ≡ slice_index_or rows i [] = get_or-take (k + 1) rows i [] (omega arith) in
          subst (λ (r : List ℤ). AreEntriesOf width r (slice_index_or now i [])) (sym row_is)
          (subst (λ (t : List (List Term)). AreEntriesOf width (slice_index_or rows i []) (slice_index_or t i [])) (sym put)
          (by_less i k
          (λ less.
          subst (λ (t : List Term). AreEntriesOf width (slice_index_or rows i []) t) (sym (get_or_append_left lists (made ∷ []) [] i (omega (arith, are.long))))
          (subst (λ (r : List ℤ). AreEntriesOf width r (slice_index_or lists i [])) (get_or-take k rows i [] less) (are.each i (omega arith))))
          (λ more.
          let same : i ≡ k = omega arith in
          subst (λ (t : List Term). AreEntriesOf width (slice_index_or rows i []) t) (sym (get_or_at lists made [] [] i (omega (arith, are.long)))) (subst (λ n. AreEntriesOf width (slice_index_or rows n []) made) (sym same) is))));
    }
