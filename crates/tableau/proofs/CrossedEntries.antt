-- Rows over dens of their own under an exchange.
use Rattle.std.proofs.Common.{◌≡◌, ◌≢◌, inl, inr, ◌==◌, ◌||◌, Bool, true, false, ℕ, ◌+◌, ◌<◌, ◌≤◌, ◌*◌, ◌^◌, List, [], ◌∷◌, length, map, slice_index_or, ℤ, pos, negsuc, neg_ℤ, ◌-ℤ◌, ◌*ℤ◌, ◌≤ℤ◌, unsigned_abs, arith, refl, ap, sym, subst, ◌∙◌}
use Prim.Native.Nat.{◌∣◌}
use Rattle.std.specs.List.{list_any}
use Rattle.std.proofs.Math.Nat.{dvd-mul_right, mul-le-mul_left}
use Rattle.std.proofs.Math.IntN.{*ℤ_comm, *ℤ-zero, zero-*ℤ}
use Rattle.std.proofs.lemmas.Int.{ints, unsigned_abs-mul}
use Rattle.std.proofs.lemmas.Bool.Decides.{nat_tests}
use Rattle.std.proofs.lemmas.List.{get_or-map, get_or-set_same, get_or-set_other, length-map}
use Rattle.sdc_base.proofs.WholeNumbers.{assoc, swap_times, minus_times}
use Rattle.sdc_base.specs.Forms.{Term, coefficient}
use Rattle.tableau.specs.declared.sparse_table.SparseTable.{SparseTable}
use Rattle.tableau.specs.declared.faults.RowFault.{RowFault}
use Rattle.tableau.specs.declared.faults.RowFault.TheVariants as faults
use Rattle.tableau.specs.FaultPlaces.{IsFaultAt}
use Rattle.tableau.specs.Entries.{IsSparse, AreEntriesBelow, crossed_products, crossed_at}
use Rattle.tableau.specs.OwnRows.{own_den, IsLowest}
use Rattle.tableau.specs.NewRows.{exchanged_den, exchanged_number, IsPivot, IsNewRow, IsLowestOf}
use Rattle.tableau.specs.SparseTables.{table_of, width_of, factor_at, IsSoundTable}
use Rattle.tableau.specs.Tables.{Table, exchanged_pivot}
use Rattle.sdc_base.specs.Systems.{number_at}
use Rattle.tableau.specs.Widths.{is_wide, all_rows, IsWideAt, IsWidePlace}
use Rattle.tableau.proofs.Chains.{distrib_minus}
use Rattle.tableau.proofs.CrossedRows.{outside_at, outside_own, row_after_pivot, row_after_other, wide_pivot, wide_other}
use Rattle.tableau.proofs.Independent.{by_less}
use Rattle.tableau.proofs.Places.{none_above}
use Rattle.tableau.proofs.Rising.{product_above}
use Rattle.tableau.proofs.SparseTables.{row_is, row_number, all_row_is, all_number, sparse_shaped, own_row, factor_up, factor_is}
use Rattle.tableau.proofs.OwnRows.{length-row_over, above_of}

pub apart_or : {P : Type 0} (a b : ℕ) → (a ≢ b → P) → (a ≡ b → P) → P
apart_or a b apart same = by_less a b (λ less. apart (omega arith)) (λ more. by_less b a (λ less. apart (omega arith)) (λ most. same (omega arith)))

-- ---- products

pub minus_right : (x y m : ℤ) → (x -ℤ y) *ℤ m ≡ x *ℤ m -ℤ y *ℤ m
minus_right x y m = omega (arith, ints, *ℤ_comm (x -ℤ y) m, *ℤ_comm x m, *ℤ_comm y m, distrib_minus m x y)

pub first_times : (a times g ck cr p e q : ℤ) → times *ℤ g ≡ p → a *ℤ ck ≡ e → p *ℤ cr ≡ q → (a *ℤ times) *ℤ (ck *ℤ (g *ℤ cr)) ≡ e *ℤ q
first_times a times g ck cr p e q hp he hq =
    let moved : (a *ℤ times) *ℤ (ck *ℤ (g *ℤ cr)) ≡ (a *ℤ ck) *ℤ ((times *ℤ g) *ℤ cr) = simp (assoc, *ℤ_comm, swap_times) refl in
    moved ∙ ap (λ t. (a *ℤ ck) *ℤ (t *ℤ cr)) hp ∙ ap (λ t. (a *ℤ ck) *ℤ t) hq ∙ ap (λ t. t *ℤ q) he

pub second_times : (b less g ck cr f u r : ℤ) → less *ℤ g ≡ f → f *ℤ ck ≡ u → b *ℤ cr ≡ r → (less *ℤ b) *ℤ (ck *ℤ (g *ℤ cr)) ≡ u *ℤ r
second_times b less g ck cr f u r hf hu hr =
    let moved : (less *ℤ b) *ℤ (ck *ℤ (g *ℤ cr)) ≡ ((less *ℤ g) *ℤ ck) *ℤ (b *ℤ cr) = simp (assoc, *ℤ_comm, swap_times) refl in
    moved ∙ ap (λ t. (t *ℤ ck) *ℤ (b *ℤ cr)) hf ∙ ap (λ t. t *ℤ (b *ℤ cr)) hu ∙ ap (λ t. u *ℤ t) hr

pub times_above : (a b : ℤ) → pos 1 ≤ℤ a → pos 1 ≤ℤ b → pos 1 ≤ℤ (a *ℤ b)
times_above a b up also = omega (arith, ints, product_above a b up (omega (arith, ints)))

-- ---- wide products

pub or_left : (a x : Bool) → a ≡ true → (a || x) ≡ true
or_left true x is = refl
or_left false x is = absurd (cc)

pub or_right : (a x : Bool) → x ≡ true → (a || x) ≡ true
or_right true x is = refl
or_right false x is = is

pub lone_one : (a : Bool) → (a || false) ≡ true → a ≡ true
lone_one true is = refl
lone_one false is = is

pub any_three : (a b d a' b' d' : Bool) → (a ≡ true → a' ≡ true) → (b ≡ true → b' ≡ true) → (d ≡ true → d' ≡ true) → (a || (b || (d || false))) ≡ true → (a' || (b' || (d' || false))) ≡ true
any_three true b d a' b' d' fa fb fd is = or_left a' (b' || (d' || false)) (fa refl)
any_three false true d a' b' d' fa fb fd is = or_right a' (b' || (d' || false)) (or_left b' (d' || false) (fb refl))
any_three false false true a' b' d' fa fb fd is = or_right a' (b' || (d' || false)) (or_right b' (d' || false) (or_left d' false (fd refl)))
any_three false false false a' b' d' fa fb fd is = absurd (cc)

pub any_same : (a b d w : Bool) → (a ≡ true → w ≡ true) → (b ≡ true → w ≡ true) → (d ≡ true → w ≡ true) → (a || (b || (d || false))) ≡ true → w ≡ true
any_same true b d w fa fb fd is = fa refl
any_same false true d w fa fb fd is = fb refl
any_same false false true w fa fb fd is = fd refl
any_same false false false w fa fb fd is = absurd (cc)

abs_above : (m : ℤ) → pos 1 ≤ℤ m → 1 ≤ unsigned_abs m
abs_above (pos n) up = omega (arith, ints)
abs_above (negsuc n) up = absurd (omega (arith, ints))

-- what is wide is wide so many times
pub times_wide : (x m y : ℤ) → pos 1 ≤ℤ m → x *ℤ m ≡ y → is_wide x ≡ true → is_wide y ≡ true
times_wide x m y up is wide =
    let more : unsigned_abs x * 1 ≤ unsigned_abs x * unsigned_abs m = mul-le-mul_left (unsigned_abs x) (abs_above m up) in
    let size : unsigned_abs y ≡ unsigned_abs x * unsigned_abs m = ap unsigned_abs (sym is) ∙ unsigned_abs-mul x m in
    let here : 2 ^ 127 ≤ unsigned_abs x = grind (arith, nat_tests) in
    let there : 2 ^ 127 ≤ unsigned_abs y = omega (arith, more, size, here) in
    grind (arith, nat_tests)

-- where the new den before the division is wide, the exchange is wide at the pivot
pub den_wide : (s : SparseTable) (row column : ℕ) → is_wide (s.den *ℤ number_at (slice_index_or (table_of s).rows row []) column) ≡ true → IsWideAt (table_of s) row column row column
den_wide s row column wide =
    let t : Table = table_of s in
    let big_p : ℤ = number_at (slice_index_or t.rows row []) column in
    let test : (column == column) ≡ true = grind (arith, nat_tests) in
    let list : list_any is_wide ((s.den *ℤ s.den) ∷ (s.den *ℤ big_p) ∷ []) ≡ true = or_right (is_wide (s.den *ℤ s.den)) (is_wide (s.den *ℤ big_p) || false) (or_left (is_wide (s.den *ℤ big_p)) false wide) in
    wide_pivot t row column row column refl (rw test list)

-- where the pivot's row has no number, the one product for a row's own is wide
pub alone_wide : (den p f : ℤ) (column v : ℕ) (pivot own : List Term) → coefficient pivot v ≡ pos 0 → coefficient pivot column ≢ pos 0 → is_wide (coefficient own v *ℤ p) ≡ true →
    list_any is_wide (crossed_products den p f column v (coefficient own v) (coefficient pivot v)) ≡ true
alone_wide den p f column v pivot own none some wide =
    let e : ℤ = coefficient own v in
    let g : ℤ = coefficient pivot v in
    let apart : v ≢ column = λ same. some (ap (coefficient pivot) (sym same) ∙ none) in
    let test : (v == column) ≡ false = grind (arith, nat_tests) in
    let products : list_any is_wide ((e *ℤ p) ∷ (f *ℤ g) ∷ (e *ℤ p -ℤ f *ℤ g) ∷ []) ≡ true = or_left (is_wide (e *ℤ p)) (is_wide (f *ℤ g) || (is_wide (e *ℤ p -ℤ f *ℤ g) || false)) wide in
    rw test products

-- a fault of a row, where it is told
pub fault_wide : (s : SparseTable) (row column k last i j : ℕ) (fault : RowFault) → last ≡ length s.others.items → row < length s.members.items → column < length s.others.items → k ≤ length s.members.items → IsFaultAt k row column last fault i j →
    ((place : ℕ) → fault ≡ faults.Wide place → place ≤ length s.others.items → IsWideAt (table_of s) row column k place) → ((place : ℕ) → fault ≡ faults.Wide place → length s.others.items < place → IsWideAt (table_of s) row column row column) → IsWidePlace (table_of s) row column i j
fault_wide s row column k last i j fault last_is row_within column_within within told inside behind =
    elim told.2 as (λ _. IsWidePlace (table_of s) row column i j) [
      | inl here ↦ (omega (arith, here.1), omega (arith, here.0, here.2, last_is), subst (λ n. IsWideAt (table_of s) row column n j) (sym here.1) (subst (λ n. IsWideAt (table_of s) row column k n) (sym here.2) (inside told.0 told.1 (omega (arith, here.0, last_is)))))
      | inr there ↦ (omega (arith, there.1), omega (arith, there.2), subst (λ n. IsWideAt (table_of s) row column n j) (sym there.1) (subst (λ n. IsWideAt (table_of s) row column row n) (sym there.2) (behind told.0 told.1 (omega (arith, there.0, last_is)))))
    ]

-- ---- numbers of the exchanged table

module _ (s : SparseTable) (row column k v : ℕ) (row_within : row < length s.members.items) (column_within : column < length s.others.items) (v_within : v < length s.others.items + 1) where
  pub other_number : k ≤ length s.members.items → k ≢ row → v ≢ column →
      exchanged_number s row column k v ≡ number_at (slice_index_or (all_rows (table_of s)) k []) v *ℤ number_at (slice_index_or (table_of s).rows row []) column -ℤ number_at (slice_index_or (all_rows (table_of s)) k []) column *ℤ number_at (slice_index_or (table_of s).rows row []) v
  other_number within other apart =
      let t : Table = table_of s in
      let pivot : List ℤ = slice_index_or t.rows row [] in
      let own : List ℤ = slice_index_or (all_rows t) k [] in
      let own_long : length own ≡ width_of s = ap length (all_row_is s k within) ∙ length-row_over s.den (width_of s) (slice_index_or s.rows.items k []) in
      let pivot_long : length pivot ≡ width_of s = ap length (row_is s row row_within) ∙ length-row_over s.den (width_of s) (slice_index_or s.rows.items row []) in
      sym (outside_at s.den pivot column own v (own_long ∙ sym pivot_long) (omega (arith, own_long)) apart ∙ ap (λ (r : List ℤ). number_at r v) (row_after_other t row column k (sparse_shaped s).rows row_within within other))

  pub other_own : k ≤ length s.members.items → k ≢ row → v ≡ column → exchanged_number s row column k v ≡ neg_ℤ (number_at (slice_index_or (all_rows (table_of s)) k []) column *ℤ s.den)
  other_own within other same =
      let t : Table = table_of s in
      let pivot : List ℤ = slice_index_or t.rows row [] in
      let own : List ℤ = slice_index_or (all_rows t) k [] in
      let own_long : length own ≡ width_of s = ap length (all_row_is s k within) ∙ length-row_over s.den (width_of s) (slice_index_or s.rows.items k []) in
      let pivot_long : length pivot ≡ width_of s = ap length (row_is s row row_within) ∙ length-row_over s.den (width_of s) (slice_index_or s.rows.items row []) in
      sym (outside_own s.den pivot column own v (own_long ∙ sym pivot_long) (omega (arith, own_long)) same ∙ ap (λ (r : List ℤ). number_at r v) (row_after_other t row column k (sparse_shaped s).rows row_within within other))

  pub pivot_number : k ≡ row → v ≢ column → exchanged_number s row column k v ≡ number_at (slice_index_or (table_of s).rows row []) v *ℤ s.den
  pivot_number is apart =
      let t : Table = table_of s in
      let pivot : List ℤ = slice_index_or t.rows row [] in
      let scaled : List ℤ = map (λ g. g *ℤ s.den) pivot in
      let pivot_long : length pivot ≡ width_of s = ap length (row_is s row row_within) ∙ length-row_over s.den (width_of s) (slice_index_or s.rows.items row []) in
      sym (ap (λ (r : List ℤ). number_at r v) (row_after_pivot t row column k (sparse_shaped s).rows row_within is)) ∙ get_or-set_other scaled column v (s.den *ℤ s.den) (pos 0) apart ∙ get_or-map (λ (g : ℤ). g *ℤ s.den) pivot v (pos 0) (pos 0) (omega (arith, pivot_long))

  pub pivot_own : k ≡ row → v ≡ column → exchanged_number s row column k v ≡ s.den *ℤ s.den
  pivot_own is same =
      let t : Table = table_of s in
      let pivot : List ℤ = slice_index_or t.rows row [] in
      let scaled : List ℤ = map (λ g. g *ℤ s.den) pivot in
      let pivot_long : length pivot ≡ width_of s = ap length (row_is s row row_within) ∙ length-row_over s.den (width_of s) (slice_index_or s.rows.items row []) in
      sym (ap (λ (r : List ℤ). number_at r v) (row_after_pivot t row column k (sparse_shaped s).rows row_within is)) ∙ ap (number_at (exchanged_pivot s.den pivot column)) same ∙ get_or-set_same scaled column (s.den *ℤ s.den) (pos 0) (omega (arith, length-map pivot (λ (g : ℤ). g *ℤ s.den), pivot_long))

-- ---- a row that stands for one of the exchanged table

pub new_row_of : (s : SparseTable) (row column k : ℕ) (entries : List Term) (h m : ℤ) → IsSparse 0 (width_of s + 1) entries → IsLowest entries → pos 1 ≤ℤ own_den (width_of s) entries →
    ((v : ℕ) → v < width_of s → (coefficient entries v *ℤ h) *ℤ m ≡ exchanged_number s row column k v) → (own_den (width_of s) entries *ℤ h) *ℤ m ≡ exchanged_den s row column → IsNewRow s row column k entries
new_row_of s row column k entries h m sparse lowest up numbers den =
    let own : ℤ = own_den (width_of s) entries in
    let whole : ℤ = exchanged_den s row column in
    record {
      sparse = sparse;
      own = record {
        above = up;
        divides = subst (λ (t : ℤ). unsigned_abs own ∣ unsigned_abs t) (sym (assoc own h m) ∙ den) (subst (λ n. unsigned_abs own ∣ n) (sym (unsigned_abs-mul own (h *ℤ m))) (dvd-mul_right (unsigned_abs own) (unsigned_abs (h *ℤ m))));
        lowest = lowest;
      };
      stands = λ v below.
          let x : ℤ = coefficient entries v in
          let moved : x *ℤ ((own *ℤ h) *ℤ m) ≡ ((x *ℤ h) *ℤ m) *ℤ own = simp (assoc, *ℤ_comm, swap_times) refl in
          ap (λ t. x *ℤ t) (sym den) ∙ moved ∙ ap (λ t. t *ℤ own) (numbers v below);
    }

pub once_times : (x m : ℤ) → (x *ℤ pos 1) *ℤ m ≡ x *ℤ m
once_times x m = let one : x *ℤ pos 1 ≡ x = omega (arith, ints) in ap (λ t. t *ℤ m) one

-- a row without a number in the column stays as it is
pub kept_row : (s : SparseTable) (row column k : ℕ) → IsSoundTable s → row < length s.members.items → column < length s.others.items → k ≤ length s.members.items → k ≢ row → IsSparse 0 (width_of s + 1) (slice_index_or s.rows.items k []) → coefficient (slice_index_or s.rows.items k []) column ≡ pos 0 →
    IsNewRow s row column k (slice_index_or s.rows.items k [])
kept_row s row column k sound row_within column_within within other sparse none =
    let own : List Term = slice_index_or s.rows.items k [] in
    let t : Table = table_of s in
    let p : ℤ = number_at (slice_index_or t.rows row []) column in
    let c : ℤ = factor_at s k in
    let m : ℤ = c *ℤ p in
    let none_here : number_at (slice_index_or (all_rows t) k []) column ≡ pos 0 = sym (all_number s k column within (omega arith)) ∙ ap (λ x. x *ℤ c) none ∙ zero-*ℤ c in
    new_row_of s row column k own (pos 1) m sparse (own_row s k sound within).lowest (own_row s k sound within).above
    (λ v below.
    let e : ℤ = number_at (slice_index_or (all_rows t) k []) v in
    let over : coefficient own v *ℤ m ≡ e *ℤ p = sym (assoc (coefficient own v) c p) ∙ ap (λ x. x *ℤ p) (all_number s k v within (omega arith)) in
    once_times (coefficient own v) m
    ∙ apart_or v column
    (λ apart.
    let g : ℤ = number_at (slice_index_or t.rows row []) v in
    let gone : number_at (slice_index_or (all_rows t) k []) column *ℤ g ≡ pos 0 = ap (λ x. x *ℤ g) none_here ∙ zero-*ℤ g in
    let plain : e *ℤ p ≡ e *ℤ p -ℤ number_at (slice_index_or (all_rows t) k []) column *ℤ g = omega (arith, ints, gone) in
    over ∙ plain ∙ sym (other_number s row column k v row_within column_within below within other apart))
    (λ same.
    let gone : number_at (slice_index_or (all_rows t) k []) column *ℤ s.den ≡ pos 0 = ap (λ x. x *ℤ s.den) none_here ∙ zero-*ℤ s.den in
    ap (λ n. coefficient own n *ℤ m) same ∙ ap (λ x. x *ℤ m) none ∙ zero-*ℤ m ∙ sym (other_own s row column k v row_within column_within below within other same ∙ ap neg_ℤ gone)))
    (once_times (own_den (width_of s) own) m ∙ sym (assoc (own_den (width_of s) own) c p) ∙ ap (λ x. x *ℤ p) (factor_is s k sound within))

-- ---- the numbers that another row becomes

pub at_own : (den p f : ℤ) (column v : ℕ) (pivot own : List Term) → v ≡ column → crossed_at den p f column pivot own v ≡ neg_ℤ (f *ℤ den)
at_own den p f column v pivot own same = let test : (v == column) ≡ true = grind (arith, nat_tests) in rw test refl

pub at_apart : (den p f : ℤ) (column v : ℕ) (pivot own : List Term) → v ≢ column → crossed_at den p f column pivot own v ≡ coefficient own v *ℤ p -ℤ f *ℤ coefficient pivot v
at_apart den p f column v pivot own apart = let test : (v == column) ≡ false = grind (arith, nat_tests) in rw test refl

-- how often a row's numbers go into those of the exchanged table
abbrev pub times_of : SparseTable → ℕ → ℕ → ℤ → ℤ
times_of s row k g = factor_at s k *ℤ (g *ℤ factor_at s row)

pub times_up_of : (s : SparseTable) (row k : ℕ) (g : ℤ) → IsSoundTable s → row < length s.members.items → k ≤ length s.members.items → pos 1 ≤ℤ g → pos 1 ≤ℤ times_of s row k g
times_up_of s row k g sound row_within within up = times_above (factor_at s k) (g *ℤ factor_at s row) (factor_up s k sound within) (times_above g (factor_at s row) up (factor_up s row sound (omega arith)))

module _ (s : SparseTable) (row column k : ℕ) (bare own : List Term) (den p f times less g : ℤ) (sound : IsSoundTable s) (row_within : row < length s.members.items) (column_within : column < length s.others.items) (within : k ≤ length s.members.items) (other : k ≢ row) (pivot : IsPivot s row column bare den p) (own_is : own ≡ slice_index_or s.rows.items k []) (f_is : f ≡ coefficient (slice_index_or s.rows.items k []) column) (p_times : times *ℤ g ≡ p) (f_times : less *ℤ g ≡ f) where
  pivot_times : p *ℤ factor_at s row ≡ number_at (slice_index_or (table_of s).rows row []) column
  pivot_times = ap (λ x. x *ℤ factor_at s row) pivot.number_is ∙ row_number s row column row_within (omega arith)

  f_over : f *ℤ factor_at s k ≡ number_at (slice_index_or (all_rows (table_of s)) k []) column
  f_over = ap (λ x. x *ℤ factor_at s k) f_is ∙ all_number s k column within (omega arith)

  own_over : (v : ℕ) → v ≤ length s.others.items → coefficient own v *ℤ factor_at s k ≡ number_at (slice_index_or (all_rows (table_of s)) k []) v
  own_over v below = ap (λ (t : List Term). coefficient t v *ℤ factor_at s k) own_is ∙ all_number s k v within below

  bare_over : (v : ℕ) → v ≤ length s.others.items → coefficient bare v *ℤ factor_at s row ≡ number_at (slice_index_or (table_of s).rows row []) v
  bare_over v below = ap (λ x. x *ℤ factor_at s row) (pivot.same v (omega arith)) ∙ row_number s row v row_within below

  den_over : den *ℤ factor_at s row ≡ s.den
  den_over = ap (λ x. x *ℤ factor_at s row) pivot.den_is ∙ factor_is s row sound (omega arith)

  own_den_over : coefficient own (width_of s) *ℤ factor_at s k ≡ s.den
  own_den_over = ap (λ (t : List Term). coefficient t (width_of s) *ℤ factor_at s k) own_is ∙ factor_is s k sound within

  bare_none : coefficient bare (width_of s) ≡ pos 0
  bare_none = none_above 0 (width_of s) (width_of s) bare pivot.sparse (omega arith)

  pub crossed_number : (v : ℕ) → v < width_of s → crossed_at den times less column bare own v *ℤ times_of s row k g ≡ exchanged_number s row column k v
  crossed_number v below =
      let m : ℤ = times_of s row k g in
      let ck : ℤ = factor_at s k in
      let cr : ℤ = factor_at s row in
      let t : Table = table_of s in
      let big_p : ℤ = number_at (slice_index_or t.rows row []) column in
      let big_f : ℤ = number_at (slice_index_or (all_rows t) k []) column in
      apart_or v column
      (λ apart.
      let e : ℤ = number_at (slice_index_or (all_rows t) k []) v in
      let r : ℤ = number_at (slice_index_or t.rows row []) v in
      ap (λ x. x *ℤ m) (at_apart den times less column v bare own apart)
      ∙ minus_right (coefficient own v *ℤ times) (less *ℤ coefficient bare v) m
      ∙ ap (λ x. x -ℤ (less *ℤ coefficient bare v) *ℤ m) (first_times (coefficient own v) times g ck cr p e big_p p_times (own_over v (omega arith)) pivot_times)
      ∙ ap (λ x. e *ℤ big_p -ℤ x) (second_times (coefficient bare v) less g ck cr f big_f r f_times f_over (bare_over v (omega arith)))
      ∙ sym (other_number s row column k v row_within column_within below within other apart))
      (λ same.
      ap (λ x. x *ℤ m) (at_own den times less column v bare own same)
      ∙ minus_times (less *ℤ den) m
      ∙ ap neg_ℤ (second_times den less g ck cr f big_f s.den f_times f_over den_over)
      ∙ sym (other_own s row column k v row_within column_within below within other same))

  pub crossed_den : crossed_at den times less column bare own (width_of s) *ℤ times_of s row k g ≡ exchanged_den s row column
  crossed_den =
      let m : ℤ = times_of s row k g in
      let a : ℤ = coefficient own (width_of s) in
      let gone : less *ℤ coefficient bare (width_of s) ≡ pos 0 = ap (λ x. less *ℤ x) bare_none ∙ *ℤ-zero less in
      let plain : a *ℤ times -ℤ less *ℤ coefficient bare (width_of s) ≡ a *ℤ times = omega (arith, ints, gone) in
      ap (λ x. x *ℤ m) (at_apart den times less column (width_of s) bare own (omega arith) ∙ plain)
      ∙ first_times a times g (factor_at s k) (factor_at s row) p s.den (number_at (slice_index_or (table_of s).rows row []) column) p_times own_den_over pivot_times

  pub crossed_den_is : crossed_at den times less column bare own (width_of s) ≡ coefficient own (width_of s) *ℤ times
  crossed_den_is =
      let a : ℤ = coefficient own (width_of s) in
      let gone : less *ℤ coefficient bare (width_of s) ≡ pos 0 = ap (λ x. less *ℤ x) bare_none ∙ *ℤ-zero less in
      let plain : a *ℤ times -ℤ less *ℤ coefficient bare (width_of s) ≡ a *ℤ times = omega (arith, ints, gone) in
      at_apart den times less column (width_of s) bare own (omega arith) ∙ plain

  -- the row in lowest terms is the row of the exchanged table
  pub crossed_row_is : (whole row_list : List Term) → AreEntriesBelow (width_of s + 1) (crossed_at den times less column bare own) whole → pos 1 ≤ℤ own_den (width_of s) whole → IsLowestOf (width_of s) whole row_list → IsNewRow s row column k row_list
  crossed_row_is whole row_list made up lowest =
      let m : ℤ = times_of s row k g in
      let h : ℤ = lowest.by in
      let den_is : own_den (width_of s) row_list *ℤ h ≡ crossed_at den times less column bare own (width_of s) = lowest.times (width_of s) ∙ made.same (width_of s) (omega arith) in
      new_row_of s row column k row_list h m lowest.sparse lowest.lowest lowest.den_above
      (λ v below. ap (λ x. x *ℤ m) (lowest.times v ∙ made.same v (omega arith)) ∙ crossed_number v below)
      (ap (λ x. x *ℤ m) den_is ∙ crossed_den)

  own_den_up : pos 1 ≤ℤ coefficient own (width_of s)
  own_den_up = subst (λ (t : List Term). pos 1 ≤ℤ coefficient t (width_of s)) (sym own_is) (own_row s k sound within).above

  pub crossed_den_up : pos 1 ≤ℤ g → pos 1 ≤ℤ crossed_at den times less column bare own (width_of s)
  crossed_den_up up = subst (λ x. pos 1 ≤ℤ x) (sym crossed_den_is) (times_above (coefficient own (width_of s)) times own_den_up (above_of times g p up p_times pivot.above))

  -- where a product of the row is wide, the exchange is
  pub crossed_wide : pos 1 ≤ℤ g → (j : ℕ) → j ≤ length s.others.items → list_any is_wide (crossed_products den times less column j (coefficient own j) (coefficient bare j)) ≡ true → IsWideAt (table_of s) row column k j
  crossed_wide up j below wide =
      let m : ℤ = times_of s row k g in
      let m_up : pos 1 ≤ℤ m = times_up_of s row k g sound row_within within up in
      let ck : ℤ = factor_at s k in
      let cr : ℤ = factor_at s row in
      let t : Table = table_of s in
      let big_p : ℤ = number_at (slice_index_or t.rows row []) column in
      let big_f : ℤ = number_at (slice_index_or (all_rows t) k []) column in
      let a : ℤ = coefficient own j in
      let b : ℤ = coefficient bare j in
      apart_or j column
      (λ apart.
      let test : (j == column) ≡ false = grind (arith, nat_tests) in
      let e : ℤ = number_at (slice_index_or (all_rows t) k []) j in
      let r : ℤ = number_at (slice_index_or t.rows row []) j in
      let products : (a *ℤ times) ∷ (less *ℤ b) ∷ (a *ℤ times -ℤ less *ℤ b) ∷ [] ≡ crossed_products den times less column j a b = rw test refl in
      let one : (a *ℤ times) *ℤ m ≡ e *ℤ big_p = first_times a times g ck cr p e big_p p_times (own_over j below) pivot_times in
      let two : (less *ℤ b) *ℤ m ≡ big_f *ℤ r = second_times b less g ck cr f big_f r f_times f_over (bare_over j below) in
      let three : (a *ℤ times -ℤ less *ℤ b) *ℤ m ≡ e *ℤ big_p -ℤ big_f *ℤ r = minus_right (a *ℤ times) (less *ℤ b) m ∙ ap (λ x. x -ℤ (less *ℤ b) *ℤ m) one ∙ ap (λ x. e *ℤ big_p -ℤ x) two in
      let big : list_any is_wide ((e *ℤ big_p) ∷ (big_f *ℤ r) ∷ (e *ℤ big_p -ℤ big_f *ℤ r) ∷ []) ≡ true =
      any_three (is_wide (a *ℤ times)) (is_wide (less *ℤ b)) (is_wide (a *ℤ times -ℤ less *ℤ b)) (is_wide (e *ℤ big_p)) (is_wide (big_f *ℤ r)) (is_wide (e *ℤ big_p -ℤ big_f *ℤ r))
      (times_wide (a *ℤ times) m (e *ℤ big_p) m_up one) (times_wide (less *ℤ b) m (big_f *ℤ r) m_up two) (times_wide (a *ℤ times -ℤ less *ℤ b) m (e *ℤ big_p -ℤ big_f *ℤ r) m_up three) (ap (list_any is_wide) products ∙ wide) in
      wide_other t row column k j other (rw test big))
      (λ same.
      let test : (j == column) ≡ true = grind (arith, nat_tests) in
      let products : (less *ℤ den) ∷ [] ≡ crossed_products den times less column j a b = rw test refl in
      let small : is_wide (less *ℤ den) ≡ true = lone_one (is_wide (less *ℤ den)) (ap (list_any is_wide) products ∙ wide) in
      let big : list_any is_wide ((big_f *ℤ s.den) ∷ []) ≡ true = or_left (is_wide (big_f *ℤ s.den)) false (times_wide (less *ℤ den) m (big_f *ℤ s.den) m_up (second_times den less g ck cr f big_f s.den f_times f_over den_over) small) in
      wide_other t row column k j other (rw test big))

  -- and where the product for its own den is
  pub behind_wide : pos 1 ≤ℤ g → list_any is_wide (crossed_products den times less column (width_of s) (coefficient own (width_of s)) (coefficient bare (width_of s))) ≡ true → IsWideAt (table_of s) row column row column
  behind_wide up wide =
      let m : ℤ = times_of s row k g in
      let m_up : pos 1 ≤ℤ m = times_up_of s row k g sound row_within within up in
      let t : Table = table_of s in
      let big_p : ℤ = number_at (slice_index_or t.rows row []) column in
      let a : ℤ = coefficient own (width_of s) in
      let b : ℤ = coefficient bare (width_of s) in
      let apart : width_of s ≢ column = omega arith in
      let test : (width_of s == column) ≡ false = grind (arith, nat_tests) in
      let products : (a *ℤ times) ∷ (less *ℤ b) ∷ (a *ℤ times -ℤ less *ℤ b) ∷ [] ≡ crossed_products den times less column (width_of s) a b = rw test refl in
      let gone : less *ℤ b ≡ pos 0 = ap (λ x. less *ℤ x) bare_none ∙ *ℤ-zero less in
      let plain : a *ℤ times -ℤ less *ℤ b ≡ a *ℤ times = omega (arith, ints, gone) in
      let one : (a *ℤ times) *ℤ m ≡ s.den *ℤ big_p = first_times a times g (factor_at s k) (factor_at s row) p s.den big_p p_times own_den_over pivot_times in
      let whole : is_wide (s.den *ℤ big_p) ≡ true =
      any_same (is_wide (a *ℤ times)) (is_wide (less *ℤ b)) (is_wide (a *ℤ times -ℤ less *ℤ b)) (is_wide (s.den *ℤ big_p))
      (times_wide (a *ℤ times) m (s.den *ℤ big_p) m_up one) (λ is. let clash : false ≡ true = ap is_wide (sym gone) ∙ is in absurd (cc)) (λ is. times_wide (a *ℤ times) m (s.den *ℤ big_p) m_up one (ap is_wide (sym plain) ∙ is)) (ap (list_any is_wide) products ∙ wide) in
      den_wide s row column whole
