-- The pivot's row over a den of its own under an exchange.
use Rattle.std.proofs.Common.{◌≡◌, ◌≢◌, ◌==◌, ◌||◌, true, false, ℕ, ◌+◌, ◌*◌, ◌<◌, ◌≤◌, List, [], ◌∷◌, length, slice_index_or, ℤ, pos, negsuc, neg_ℤ, ◌-ℤ◌, ◌*ℤ◌, ◌≤ℤ◌, unsigned_abs, arith, refl, ap, sym, subst, ◌∙◌}
use Prim.Native.Nat.{◌∣◌}
use Rattle.std.specs.List.{list_any}
use Rattle.std.proofs.Math.IntN.{*ℤ_comm}
use Rattle.std.proofs.lemmas.Int.{ints}
use Rattle.std.proofs.lemmas.Bool.Decides.{nat_tests}
use Rattle.sdc_base.proofs.WholeNumbers.{assoc, minus_times}
use Rattle.sdc_base.specs.Forms.{Term, coefficient}
use Rattle.sdc_base.specs.Systems.{number_at}
use Rattle.tableau.specs.declared.sparse_table.SparseTable.{SparseTable}
use Rattle.tableau.specs.Entries.{AreEntriesBelow, crossed_products, crossed_at}
use Rattle.tableau.specs.OwnRows.{own_den, IsLowest}
use Rattle.tableau.specs.NewRows.{IsPivot, IsNewRow}
use Rattle.tableau.specs.SparseTables.{table_of, width_of, factor_at, IsSoundTable}
use Rattle.tableau.specs.Tables.{Table}
use Rattle.tableau.specs.Widths.{is_wide, IsWideAt}
use Rattle.tableau.proofs.Ascending.{first_entry, not_first}
use Rattle.tableau.proofs.CrossedEntries.{apart_or, at_own, at_apart, new_row_of, once_times, pivot_number, pivot_own, any_same, lone_one, times_wide, times_above, or_left, den_wide}
use Rattle.tableau.proofs.CrossedRows.{wide_pivot}
use Rattle.tableau.proofs.Exchanged.{wide_neg, behind}
use Rattle.tableau.proofs.Independent.{by_less}
use Rattle.tableau.proofs.Places.{none_above}
use Rattle.tableau.proofs.SparseTables.{row_number, own_row, factor_up, factor_is, sparse_at}

less_one : (b : ℤ) → negsuc 0 *ℤ b ≡ neg_ℤ b
less_one b = minus_times (pos 1) b ∙ ap neg_ℤ (let one : pos 1 *ℤ b ≡ b = omega (arith, ints) in one)

module _ (s : SparseTable) (row column : ℕ) (bare : List Term) (den p : ℤ) (sound : IsSoundTable s) (row_within : row < length s.members.items) (column_within : column < length s.others.items) (pivot : IsPivot s row column bare den p) where
  -- the one entry of a row that has nothing but its den
  abbrev pub lone : List Term
  lone = (width_of s, p) ∷ []

  lone_none : (v : ℕ) → v ≢ width_of s → coefficient lone v ≡ pos 0
  lone_none v apart = not_first (width_of s, p) [] v (λ same. apart (sym same))

  lone_here : coefficient lone (width_of s) ≡ p
  lone_here = first_entry (width_of s, p) [] (width_of s) (omega arith, tt) refl

  bare_none : coefficient bare (width_of s) ≡ pos 0
  bare_none = none_above 0 (width_of s) (width_of s) bare pivot.sparse (omega arith)

  third_apart : (v : ℕ) → v ≢ width_of s → coefficient lone v *ℤ pos 1 -ℤ negsuc 0 *ℤ coefficient bare v ≡ coefficient bare v
  third_apart v apart = omega (arith, ints, less_one (coefficient bare v), lone_none v apart)

  third_den : coefficient lone (width_of s) *ℤ pos 1 -ℤ negsuc 0 *ℤ coefficient bare (width_of s) ≡ p
  third_den = omega (arith, ints, less_one (coefficient bare (width_of s)), lone_here, bare_none)

  at_number : (v : ℕ) → v ≢ width_of s → v ≢ column → crossed_at den (pos 1) (negsuc 0) column bare lone v ≡ coefficient bare v
  at_number v under apart = at_apart den (pos 1) (negsuc 0) column v bare lone apart ∙ third_apart v under

  at_column : (v : ℕ) → v ≡ column → crossed_at den (pos 1) (negsuc 0) column bare lone v ≡ den
  at_column v same = at_own den (pos 1) (negsuc 0) column v bare lone same ∙ omega (arith, ints, less_one den)

  at_den : crossed_at den (pos 1) (negsuc 0) column bare lone (width_of s) ≡ p
  at_den = at_apart den (pos 1) (negsuc 0) column (width_of s) bare lone (omega arith) ∙ third_den

  abbrev pub own : List Term
  own = slice_index_or s.rows.items row []

  bare_over : (v : ℕ) → v ≤ length s.others.items → coefficient bare v *ℤ factor_at s row ≡ number_at (slice_index_or (table_of s).rows row []) v
  bare_over v below = ap (λ x. x *ℤ factor_at s row) (pivot.same v (omega arith)) ∙ row_number s row v row_within below

  pivot_over : p *ℤ factor_at s row ≡ number_at (slice_index_or (table_of s).rows row []) column
  pivot_over = ap (λ x. x *ℤ factor_at s row) pivot.number_is ∙ row_number s row column row_within (omega arith)

  den_over : den *ℤ factor_at s row ≡ s.den
  den_over = ap (λ x. x *ℤ factor_at s row) pivot.den_is ∙ factor_is s row sound (omega arith)

  times : (x n : ℤ) → x *ℤ factor_at s row ≡ n → x *ℤ (factor_at s row *ℤ s.den) ≡ n *ℤ s.den
  times x n is = sym (assoc x (factor_at s row) s.den) ∙ ap (λ t. t *ℤ s.den) is

  m_up : pos 1 ≤ℤ (factor_at s row *ℤ s.den)
  m_up = times_above (factor_at s row) s.den (factor_up s row sound (omega arith)) sound.rows.above

  module _ (made : List Term) (is : AreEntriesBelow (width_of s + 1) (crossed_at den (pos 1) (negsuc 0) column bare lone) made) where
    pivot_lowest : IsLowest made
    pivot_lowest d t all =
        (own_row s row sound (omega arith)).lowest d t
        (λ v.
        by_less v (width_of s)
        (λ less.
        apart_or v column
        (λ apart. subst (λ (z : ℤ). d ∣ t * unsigned_abs z) (is.same v (omega arith) ∙ at_number v (omega arith) apart ∙ pivot.same v less) (all v))
        (λ same. subst (λ (z : ℤ). d ∣ t * unsigned_abs z) (is.same (width_of s) (omega arith) ∙ at_den ∙ pivot.number_is ∙ ap (coefficient own) (sym same)) (all (width_of s))))
        (λ more.
        by_less (width_of s) v
        (λ over. behind d t (width_of s + 1) v own (sparse_at (length s.others.items + 2) (width_of s + 1) own (omega arith) (s.each row [] (omega (arith, s.filled)))) (omega arith))
        (λ most.
        let at : v ≡ width_of s = omega arith in
        subst (λ (z : ℤ). d ∣ t * unsigned_abs z) (is.same column (omega arith) ∙ at_column column refl ∙ pivot.den_is ∙ ap (coefficient own) (sym at)) (all column))))

    pub pivot_row_is : IsNewRow s row column row made
    pivot_row_is =
        let m : ℤ = factor_at s row *ℤ s.den in
        let t : Table = table_of s in
        let big_p : ℤ = number_at (slice_index_or t.rows row []) column in
        let den_is : own_den (width_of s) made ≡ p = is.same (width_of s) (omega arith) ∙ at_den in
        new_row_of s row column row made (pos 1) m is.sparse pivot_lowest (subst (λ z. pos 1 ≤ℤ z) (sym den_is) pivot.above)
        (λ v below.
        once_times (coefficient made v) m
        ∙ apart_or v column
        (λ apart. ap (λ x. x *ℤ m) (is.same v (omega arith) ∙ at_number v (omega arith) apart) ∙ times (coefficient bare v) (number_at (slice_index_or t.rows row []) v) (bare_over v (omega arith)) ∙ sym (pivot_number s row column row v row_within column_within below refl apart))
        (λ same. ap (λ x. x *ℤ m) (is.same v (omega arith) ∙ at_column v same) ∙ times den s.den den_over ∙ sym (pivot_own s row column row v row_within column_within below refl same)))
        (once_times (own_den (width_of s) made) m ∙ ap (λ x. x *ℤ m) den_is ∙ times p big_p pivot_over ∙ *ℤ_comm big_p s.den)

  none_wide : (z : ℤ) → z ≡ pos 0 → is_wide z ≡ true → ⊥
  none_wide z none wide = let clash : false ≡ true = ap is_wide (sym none) ∙ wide in absurd (cc)

  pub pivot_row_wide : (j : ℕ) → j ≤ length s.others.items → list_any is_wide (crossed_products den (pos 1) (negsuc 0) column j (coefficient lone j) (coefficient bare j)) ≡ true → IsWideAt (table_of s) row column row j
  pivot_row_wide j below wide =
      let t : Table = table_of s in
      let m : ℤ = factor_at s row *ℤ s.den in
      let l : ℤ = coefficient lone j in
      let b : ℤ = coefficient bare j in
      let g : ℤ = number_at (slice_index_or t.rows row []) j in
      let big_p : ℤ = number_at (slice_index_or t.rows row []) column in
      let first : l *ℤ pos 1 ≡ pos 0 = omega (arith, ints, lone_none j (omega arith)) in
      apart_or j column
      (λ apart.
      let test : (j == column) ≡ false = grind (arith, nat_tests) in
      let products : (l *ℤ pos 1) ∷ (negsuc 0 *ℤ b) ∷ (l *ℤ pos 1 -ℤ negsuc 0 *ℤ b) ∷ [] ≡ crossed_products den (pos 1) (negsuc 0) column j l b = rw test refl in
      let small : is_wide b ≡ true =
      any_same (is_wide (l *ℤ pos 1)) (is_wide (negsuc 0 *ℤ b)) (is_wide (l *ℤ pos 1 -ℤ negsuc 0 *ℤ b)) (is_wide b)
      (λ is. absurd (none_wide (l *ℤ pos 1) first is)) (λ is. sym (wide_neg b) ∙ ap is_wide (sym (less_one b)) ∙ is) (λ is. ap is_wide (sym (third_apart j (omega arith))) ∙ is) (ap (list_any is_wide) products ∙ wide) in
      let list : list_any is_wide ((g *ℤ s.den) ∷ []) ≡ true = or_left (is_wide (g *ℤ s.den)) false (times_wide b m (g *ℤ s.den) m_up (times b g (bare_over j below)) small) in
      wide_pivot t row column row j refl (rw test list))
      (λ same.
      let test : (j == column) ≡ true = grind (arith, nat_tests) in
      let products : (negsuc 0 *ℤ den) ∷ [] ≡ crossed_products den (pos 1) (negsuc 0) column j l b = rw test refl in
      let small : is_wide den ≡ true = sym (wide_neg den) ∙ ap is_wide (sym (less_one den)) ∙ lone_one (is_wide (negsuc 0 *ℤ den)) (ap (list_any is_wide) products ∙ wide) in
      let list : list_any is_wide ((s.den *ℤ s.den) ∷ (s.den *ℤ big_p) ∷ []) ≡ true = or_left (is_wide (s.den *ℤ s.den)) (is_wide (s.den *ℤ big_p) || false) (times_wide den m (s.den *ℤ s.den) m_up (times den s.den den_over) small) in
      wide_pivot t row column row j refl (rw test list))

  pub pivot_den_wide : list_any is_wide (crossed_products den (pos 1) (negsuc 0) column (width_of s) (coefficient lone (width_of s)) (coefficient bare (width_of s))) ≡ true → IsWideAt (table_of s) row column row column
  pivot_den_wide wide =
      let m : ℤ = factor_at s row *ℤ s.den in
      let l : ℤ = coefficient lone (width_of s) in
      let b : ℤ = coefficient bare (width_of s) in
      let big_p : ℤ = number_at (slice_index_or (table_of s).rows row []) column in
      let apart : width_of s ≢ column = omega arith in
      let test : (width_of s == column) ≡ false = grind (arith, nat_tests) in
      let products : (l *ℤ pos 1) ∷ (negsuc 0 *ℤ b) ∷ (l *ℤ pos 1 -ℤ negsuc 0 *ℤ b) ∷ [] ≡ crossed_products den (pos 1) (negsuc 0) column (width_of s) l b = rw test refl in
      let first : l *ℤ pos 1 ≡ p = omega (arith, ints, lone_here) in
      let second : negsuc 0 *ℤ b ≡ pos 0 = omega (arith, ints, less_one b, bare_none) in
      let small : is_wide p ≡ true =
      any_same (is_wide (l *ℤ pos 1)) (is_wide (negsuc 0 *ℤ b)) (is_wide (l *ℤ pos 1 -ℤ negsuc 0 *ℤ b)) (is_wide p)
      (λ is. ap is_wide (sym first) ∙ is) (λ is. absurd (none_wide (negsuc 0 *ℤ b) second is)) (λ is. ap is_wide (sym third_den) ∙ is) (ap (list_any is_wide) products ∙ wide) in
      den_wide s row column (times_wide p m (s.den *ℤ big_p) m_up (times p big_p pivot_over ∙ *ℤ_comm big_p s.den) small)
