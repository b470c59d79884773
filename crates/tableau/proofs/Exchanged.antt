-- A table over one den after an exchange, from rows over dens of their own.
use Rattle.std.proofs.Common.{◌≡◌, ◌==◌, ◌||◌, true, false, ℕ, zero, suc, ◌+◌, ◌*◌, ◌/◌, ◌<◌, ◌≤◌, List, [], ◌∷◌, length, map, slice_index_or, All, ℤ, pos, negsuc, neg_ℤ, ◌-ℤ◌, ◌*ℤ◌, ◌≤ℤ◌, unsigned_abs, arith, refl, ap, sym, subst, ◌∙◌, ext_get_or, length-set, slice_index}
use Prim.Native.Nat.{◌∣◌}
use Rattle.std.specs.List.{list_any}
use Rattle.std.proofs.Math.Nat.{div-mul_cancel, mul_assoc, dvd-mul_left, mul-div_cancel}
use Rattle.std.proofs.Math.IntN.{*ℤ_comm}
use Rattle.std.proofs.lemmas.Int.{unsigned_abs-mul}
use Rattle.std.proofs.lemmas.Bool.Decides.{nat_tests}
use Rattle.std.proofs.lemmas.Nat.Gcd.{dvd-zero}
use Rattle.std.proofs.lemmas.List.{get_or-map, length-map}
use Rattle.std.proofs.lemmas.List.Elements.{All-get_or}
use Rattle.sdc_base.proofs.WholeNumbers.{assoc, swap_times}
use Rattle.sdc_base.specs.Forms.{Term, coefficient}
use Rattle.sdc_base.specs.Systems.{number_at}
use Rattle.tableau.specs.declared.sparse_table.SparseTable.{SparseTable}
use Rattle.tableau.specs.OwnRows.{own_den, factor_of, row_over, DensDivide, IsDenOf, AreOwnRows, AreWithDens}
use Rattle.tableau.specs.NewRows.{exchanged_den, exchanged_number, AreNewRows}
use Rattle.tableau.specs.SparseTables.{table_of, width_of}
use Rattle.tableau.specs.Tables.{Table, HasShape, exchanged_table, times_row}
use Rattle.tableau.specs.Widths.{is_wide, all_rows, IsWideAt}
use Rattle.tableau.proofs.CrossedEntries.{apart_or, other_number, other_own, pivot_number, pivot_own, times_wide, or_left, or_right}
use Rattle.tableau.proofs.CrossedRows.{wide_pivot, wide_other, length-all_rows}
use Rattle.tableau.proofs.OwnRows.{factor_times, factor_above, over_at, length-row_over, cancel}
use Rattle.tableau.proofs.Rising.{shaped_exchanged}
use Rattle.tableau.proofs.Divisors.{abs_up, dvd_up}
use Rattle.tableau.proofs.Places.{none_above}
use Rattle.tableau.specs.Entries.{IsSparse}
use Rattle.tableau.proofs.Independent.{by_less}
use Rattle.tableau.proofs.SparseTables.{sparse_shaped}
use Rattle.std.proofs.lemmas.List.{get_or_append_left, get_or_at}
use Rattle.tableau.proofs.ReducedRows.{AreInLowestTerms}

pub wide_neg : (x : ℤ) → is_wide (neg_ℤ x) ≡ is_wide x
wide_neg (pos zero) = refl
wide_neg (pos (suc n)) = refl
wide_neg (negsuc n) = refl

-- where a number of the exchanged table is wide, the exchange is
pub exchanged_wide : (s : SparseTable) (row column k j : ℕ) → row < length s.members.items → column < length s.others.items → k ≤ length s.members.items → j < length s.others.items + 1 → is_wide (exchanged_number s row column k j) ≡ true → IsWideAt (table_of s) row column k j
exchanged_wide s row column k j row_within column_within within below wide =
    let t : Table = table_of s in
    let pivot : List ℤ = slice_index_or t.rows row [] in
    let own : List ℤ = slice_index_or (all_rows t) k [] in
    let p : ℤ = number_at pivot column in
    let f : ℤ = number_at own column in
    let e : ℤ = number_at own j in
    let g : ℤ = number_at pivot j in
    apart_or k row
    (λ other.
    apart_or j column
    (λ apart.
    let test : (j == column) ≡ false = grind (arith, nat_tests) in
    let here : is_wide (e *ℤ p -ℤ f *ℤ g) ≡ true = ap is_wide (sym (other_number s row column k j row_within column_within below within other apart)) ∙ wide in
    let list : list_any is_wide ((e *ℤ p) ∷ (f *ℤ g) ∷ (e *ℤ p -ℤ f *ℤ g) ∷ []) ≡ true = or_right (is_wide (e *ℤ p)) (is_wide (f *ℤ g) || (is_wide (e *ℤ p -ℤ f *ℤ g) || false)) (or_right (is_wide (f *ℤ g)) (is_wide (e *ℤ p -ℤ f *ℤ g) || false) (or_left (is_wide (e *ℤ p -ℤ f *ℤ g)) false here)) in
    wide_other t row column k j other (rw test list))
    (λ same.
    let test : (j == column) ≡ true = grind (arith, nat_tests) in
    let here : is_wide (f *ℤ s.den) ≡ true = sym (wide_neg (f *ℤ s.den)) ∙ ap is_wide (sym (other_own s row column k j row_within column_within below within other same)) ∙ wide in
    let list : list_any is_wide ((f *ℤ s.den) ∷ []) ≡ true = or_left (is_wide (f *ℤ s.den)) false here in
    wide_other t row column k j other (rw test list)))
    (λ is.
    apart_or j column
    (λ apart.
    let test : (j == column) ≡ false = grind (arith, nat_tests) in
    let here : is_wide (g *ℤ s.den) ≡ true = ap is_wide (sym (pivot_number s row column k j row_within column_within below is apart)) ∙ wide in
    let list : list_any is_wide ((g *ℤ s.den) ∷ []) ≡ true = or_left (is_wide (g *ℤ s.den)) false here in
    wide_pivot t row column k j is (rw test list))
    (λ same.
    let test : (j == column) ≡ true = grind (arith, nat_tests) in
    let here : is_wide (s.den *ℤ s.den) ≡ true = ap is_wide (sym (pivot_own s row column k j row_within column_within below is same)) ∙ wide in
    let list : list_any is_wide ((s.den *ℤ s.den) ∷ (s.den *ℤ p) ∷ []) ≡ true = or_left (is_wide (s.den *ℤ s.den)) (is_wide (s.den *ℤ p) || false) here in
    wide_pivot t row column k j is (rw test list)))

-- ---- the division

up_of : (e n : ℕ) → e ∣ n → 0 < n → 0 < e
up_of = dvd_up

cancel_natural : (x y e : ℕ) → 0 < e → x * e ≡ y * e → x ≡ y
cancel_natural x y e up same = sym (mul-div_cancel x up) ∙ ap (λ n. n / e) same ∙ mul-div_cancel y up

-- behind the last entry all is 0
pub behind : (e times limit v : ℕ) (entries : List Term) → IsSparse 0 limit entries → limit ≤ v → e ∣ times * unsigned_abs (coefficient entries v)
behind e times limit v entries sparse up =
    let none : times * unsigned_abs (coefficient entries v) ≡ 0 = ap (λ (z : ℤ). times * unsigned_abs z) (none_above 0 limit v entries sparse up) ∙ omega arith in
    subst (λ n. e ∣ n) (sym none) (dvd-zero e)

row_length : (s : SparseTable) (row column k : ℕ) → row < length s.members.items → k ≤ length s.members.items → length (slice_index_or (all_rows (exchanged_table (table_of s) row column)) k []) ≡ width_of s
row_length s row column k row_within within =
    let whole : Table = exchanged_table (table_of s) row column in
    let shaped : HasShape whole = shaped_exchanged (table_of s) row column (sparse_shaped s) row_within in
    let members : length whole.members ≡ length s.members.items = length-set s.members.items row (slice_index s.others.items column) in
    let others : length whole.others ≡ length s.others.items = length-set s.others.items column (slice_index s.members.items row) in
    by_less k (length s.members.items)
    (λ less. ap length (get_or_append_left whole.rows (whole.objective ∷ []) [] k (omega (arith, shaped.rows, members))) ∙ shaped.each k (omega (arith, members)) ∙ ap (λ n. n + 1) others)
    (λ more. ap length (get_or_at whole.rows whole.objective [] [] k (omega (arith, shaped.rows, members))) ∙ shaped.objective ∙ ap (λ n. n + 1) others)

-- dens of new rows divide the den before the division
pub new_dens : (s : SparseTable) (row column : ℕ) (lists : List (List Term)) → AreNewRows s row column lists → DensDivide (width_of s) lists (unsigned_abs (exchanged_den s row column))
new_dens s row column lists are k below = (are k below).own.divides

pub with_dens : (s : SparseTable) (row column width : ℕ) (lists : List (List Term)) → width ≡ width_of s → AreNewRows s row column lists → AreWithDens width lists
with_dens s row column width lists width_is are = subst (λ n. AreWithDens n lists) (sym width_is) (record { sparse = λ k below. (are k below).sparse; above = λ k below. (are k below).own.above })

-- the divisor of the exchange
abbrev pub divisor_of : SparseTable → ℕ → ℕ → ℤ → ℤ
divisor_of s row column den = pos (unsigned_abs (exchanged_den s row column) / unsigned_abs den)

module _ (s : SparseTable) (row column : ℕ) (lists : List (List Term)) (den : ℤ) (whole_up : pos 1 ≤ℤ exchanged_den s row column) (are : AreNewRows s row column lists) (den_is : IsDenOf (width_of s) lists den) where
  den_divides : unsigned_abs den ∣ unsigned_abs (exchanged_den s row column)
  den_divides = den_is.least (unsigned_abs (exchanged_den s row column)) (new_dens s row column lists are)

  pub divisor_times : divisor_of s row column den *ℤ den ≡ exchanged_den s row column
  divisor_times = factor_times (exchanged_den s row column) den whole_up den_is.above den_divides

  pub divisor_up : pos 1 ≤ℤ divisor_of s row column den
  divisor_up = factor_above (exchanged_den s row column) den whole_up den_is.above den_divides

  factor_here : (k : ℕ) → k < length lists → factor_of den (width_of s) (slice_index_or lists k []) *ℤ own_den (width_of s) (slice_index_or lists k []) ≡ den
  factor_here k below = factor_times den (own_den (width_of s) (slice_index_or lists k [])) den_is.above (are k below).own.above (den_is.divide k below)

  -- each number over the den, the divisor times, is that before the division
  pub number_times : (k j : ℕ) → k < length lists → j < width_of s → number_at (row_over den (width_of s) (slice_index_or lists k [])) j *ℤ divisor_of s row column den ≡ exchanged_number s row column k j
  number_times k j below within =
      let own : List Term = slice_index_or lists k [] in
      let w : ℤ = own_den (width_of s) own in
      let x : ℤ = coefficient own j in
      let c : ℤ = factor_of den (width_of s) own in
      let by : ℤ = divisor_of s row column den in
      let moved : ((x *ℤ c) *ℤ by) *ℤ w ≡ x *ℤ (by *ℤ (c *ℤ w)) = simp (assoc, *ℤ_comm, swap_times) refl in
      ap (λ n. n *ℤ by) (over_at den (width_of s) j own within)
      ∙ cancel ((x *ℤ c) *ℤ by) (exchanged_number s row column k j) w (are k below).own.above
      (moved ∙ ap (λ n. x *ℤ (by *ℤ n)) (factor_here k below) ∙ ap (λ n. x *ℤ n) divisor_times ∙ (are k below).stands j within)

  -- where a number over the den is wide, the exchange is
  pub number_wide : (k j : ℕ) → row < length s.members.items → column < length s.others.items → length lists ≡ length s.members.items + 1 → k ≤ length s.members.items → j < width_of s → is_wide (number_at (row_over den (width_of s) (slice_index_or lists k [])) j) ≡ true → IsWideAt (table_of s) row column k j
  number_wide k j row_within column_within long within below wide =
      exchanged_wide s row column k j row_within column_within within below
      (times_wide (number_at (row_over den (width_of s) (slice_index_or lists k [])) j) (divisor_of s row column den) (exchanged_number s row column k j) divisor_up (number_times k j (omega (arith, long)) below) wide)

  -- what divides the den and all numbers before the division divides the divisor
  greatest : length lists ≡ length s.members.items + 1 → (e : ℕ) → e ∣ unsigned_abs (exchanged_den s row column) → ((k j : ℕ) → k < length lists → j < width_of s → e ∣ unsigned_abs (exchanged_number s row column k j)) → e ∣ unsigned_abs (divisor_of s row column den)
  greatest long e of_den of_numbers =
      let by : ℕ = unsigned_abs (divisor_of s row column den) in
      let d : ℕ = unsigned_abs den in
      let whole : by * d ≡ unsigned_abs (exchanged_den s row column) = sym (unsigned_abs-mul (divisor_of s row column den) den) ∙ ap unsigned_abs divisor_times in
      let e_up : 0 < e = up_of e (unsigned_abs (exchanged_den s row column)) of_den (abs_up (exchanged_den s row column) whole_up) in
      let of_whole : e ∣ by * d = subst (λ n. e ∣ n) (sym whole) of_den in
      let q : ℕ = by * d / e in
      let q_is : q * e ≡ by * d = div-mul_cancel e of_whole in
      let each : DensDivide (width_of s) lists q =
      λ k below.
      let own : List Term = slice_index_or lists k [] in
      let w : ℕ = unsigned_abs (own_den (width_of s) own) in
      let c : ℕ = unsigned_abs (factor_of den (width_of s) own) in
      let parts : c * w ≡ d = sym (unsigned_abs-mul (factor_of den (width_of s) own) (own_den (width_of s) own)) ∙ ap unsigned_abs (factor_here k below) in
      let of_factor : e ∣ by * c =
      (are k below).own.lowest e (by * c)
      (λ v.
      by_less v (width_of s)
      (λ less.
      let size : by * c * unsigned_abs (coefficient own v) ≡ unsigned_abs (exchanged_number s row column k v) =
      let turned : by * c * unsigned_abs (coefficient own v) ≡ unsigned_abs (coefficient own v) * c * by = omega arith in
      turned ∙ ap (λ n. n * by) (sym (unsigned_abs-mul (coefficient own v) (factor_of den (width_of s) own))) ∙ ap (λ (z : ℤ). unsigned_abs z * by) (sym (over_at den (width_of s) v own less)) ∙ sym (unsigned_abs-mul (number_at (row_over den (width_of s) own) v) (divisor_of s row column den)) ∙ ap unsigned_abs (number_times k v below less) in
      subst (λ n. e ∣ n) (sym size) (of_numbers k v below less))
      (λ more.
      by_less (width_of s) v
      (λ over. behind e (by * c) (width_of s + 1) v own (are k below).sparse (omega arith))
      (λ most.
      let at : width_of s ≡ v = omega arith in
      subst (λ n. e ∣ by * c * unsigned_abs (coefficient own n)) at
      (let size : by * c * w ≡ by * d = mul_assoc by c w ∙ ap (λ n. by * n) parts in subst (λ n. e ∣ n) (sym size) of_whole)))) in
      let r : ℕ = by * c / e in
      let r_is : r * e ≡ by * c = div-mul_cancel e of_factor in
      let product : r * w * e ≡ q * e =
      let turned : r * w * e ≡ r * e * w = omega arith in
      turned ∙ ap (λ n. n * w) r_is ∙ mul_assoc by c w ∙ ap (λ n. by * n) parts ∙ sym q_is in
      let q_here : r * w ≡ q = cancel_natural (r * w) q e e_up product in
      subst (λ n. w ∣ n) q_here (dvd-mul_left w r) in
      let of_q : d ∣ q = den_is.least q each in
      let t : ℕ = q / d in
      let t_is : t * d ≡ q = div-mul_cancel d of_q in
      let product : t * e * d ≡ by * d =
      let turned : t * e * d ≡ t * d * e = omega arith in
      turned ∙ ap (λ n. n * e) t_is ∙ q_is in
      let by_is : t * e ≡ by = cancel_natural (t * e) by d (abs_up den den_is.above) product in
      subst (λ n. e ∣ n) by_is (dvd-mul_left e t)

  pub are_lowest : row < length s.members.items → length lists ≡ length s.members.items + 1 → AreInLowestTerms (width_of s) (exchanged_table (table_of s) row column) den (divisor_of s row column den) lists
  are_lowest row_within long =
      let whole : Table = exchanged_table (table_of s) row column in
      let by : ℤ = divisor_of s row column den in
      let width : ℕ = width_of s in
      let shaped : HasShape whole = shaped_exchanged (table_of s) row column (sparse_shaped s) row_within in
      let count : length (all_rows whole) ≡ length s.members.items + 1 = length-all_rows (table_of s) row column ∙ ap (λ n. n + 1) (sparse_shaped s).rows in
      let row_long : (k : ℕ) → k < length (all_rows whole) → length (slice_index_or (all_rows whole) k []) ≡ width = λ k below. row_length s row column k row_within (omega (arith, count)) in
      let spread : List Term → List ℤ = λ entries. times_row by (row_over den width entries) in
      record {
        above = divisor_up;
        den_times = *ℤ_comm den by ∙ divisor_times;
        rows_times =
            ext_get_or [] (map spread lists) (all_rows whole) (length-map lists spread ∙ long ∙ sym count)
            (λ k below.
            let inside : k < length lists = omega (arith, length-map lists spread) in
            let own : List Term = slice_index_or lists k [] in
            get_or-map spread lists k [] [] inside
            ∙ ext_get_or (pos 0) (spread own) (slice_index_or (all_rows whole) k []) (length-map (row_over den width own) (λ (n : ℤ). n *ℤ by) ∙ length-row_over den width own ∙ sym (row_long k (omega (arith, count, long))))
            (λ j j_below.
            let within : j < width = omega (arith, length-map (row_over den width own) (λ (n : ℤ). n *ℤ by), length-row_over den width own) in
            get_or-map (λ (n : ℤ). n *ℤ by) (row_over den width own) j (pos 0) (pos 0) (omega (arith, length-row_over den width own)) ∙ number_times k j inside within));
        greatest = λ e of_den of_rows.
            greatest long e of_den
            (λ k j below within.
            let inside : k < length (all_rows whole) = omega (arith, count, long) in
            All-get_or (λ (number : ℤ). e ∣ unsigned_abs number) (slice_index_or (all_rows whole) k []) j (pos 0) (omega (arith, row_long k inside)) (All-get_or (λ (r : List ℤ). All (λ (number : ℤ). e ∣ unsigned_abs number) r) (all_rows whole) k [] inside of_rows));
      }

-- the rows after the exchange are over dens of their own
pub own_rows_after : (s : SparseTable) (row column : ℕ) (lists : List (List Term)) (den : ℤ) → AreNewRows s row column lists → IsDenOf (width_of s) lists den → AreOwnRows den (width_of s) lists
own_rows_after s row column lists den are den_is = record {
  above = den_is.above;
  each = λ k below. record { above = (are k below).own.above; divides = den_is.divide k below; lowest = (are k below).own.lowest };
  least = den_is.least;
}
