-- The least number that the dens of all rows divide.
use Rattle.std.proofs.Common.{◌≡◌, ℕ, ◌+◌, ◌-◌, ◌*◌, ◌/◌, ◌<◌, ◌≤◌, ◌^◌, List, [], ◌∷◌, ◌++◌, length, map, take, slice_index_or, Option, None, ℤ, pos, ◌≤ℤ◌, unsigned_abs, true, arith, ap, sym, subst, ◌∙◌}
use Prim.Native.Nat.{◌∣◌}
use Rattle.std.proofs.Math.Nat.{div-mul_cancel, dvd-mul_left, mul-dvd-mul_left, one-dvd}
use Rattle.std.proofs.lemmas.Int.{ints}
use Rattle.std.proofs.lemmas.Bool.Decides.{nat_tests}
use Rattle.std.proofs.lemmas.Nat.Gcd.{dvd_refl, dvd_trans, le_of_dvd}
use Rattle.std.proofs.lemmas.List.{get_or_read, take_more, map-append}
use Rattle.sdc_base.specs.Forms.{Term}
use Rattle.sdc_base.specs.Systems.{number_at}
use Rattle.tableau.specs.CommonDivisors.{IsLeastMultiple}
use Rattle.tableau.specs.OwnRows.{own_den, row_over, DensDivide, IsDenOf}
use Rattle.tableau.specs.NewRows.{placed_list, placed_lists}
use Rattle.tableau.specs.Widths.{is_wide}
use Rattle.tableau.proofs.Independent.{by_less}
use Rattle.tableau.proofs.NewRows.{placed_at}

pub least_of : (a b g part : ℕ) → part * g ≡ a → g ∣ b → ((d times : ℕ) → d ∣ times * a → d ∣ times * b → d ∣ times * g) → IsLeastMultiple a b (part * b)
least_of a b g part a_is divides multiples = record {
  first = subst (λ n. n ∣ part * b) a_is (mul-dvd-mul_left g part divides);
  second = dvd-mul_left b part;
  least = λ m of_a of_b.
      let q : ℕ = m / a in
      let m_is : q * a ≡ m = div-mul_cancel a of_a in
      let common : b ∣ q * g = multiples b q (subst (λ n. b ∣ n) (sym m_is) of_b) (dvd-mul_left b q) in
      let whole : part * (q * g) ≡ m = let turned : part * (q * g) ≡ q * (part * g) = omega arith in turned ∙ ap (λ n. q * n) a_is ∙ m_is in
      subst (λ n. part * b ∣ n) whole (mul-dvd-mul_left b part common);
}

pub least_one : (a b : ℕ) → b ≡ 1 → IsLeastMultiple a b a
least_one a b one = record { first = dvd_refl a; second = subst (λ n. n ∣ a) (sym one) (one-dvd a); least = λ m of_a of_b. of_a }

-- what a wide number divides is wide
pub wide_multiple : (z : ℤ) (m : ℕ) → 0 < m → is_wide z ≡ true → unsigned_abs z ∣ m → is_wide (pos m) ≡ true
wide_multiple z m up wide divides =
    let here : 2 ^ 127 ≤ unsigned_abs z = grind (arith, nat_tests) in
    let there : 2 ^ 127 ≤ m = omega (arith, here, le_of_dvd up divides) in
    grind (arith, nat_tests)

-- ---- one row after the other

-- the least number that the dens of the first rows divide
pub record IsDenBefore (width : ℕ) (lists : List (List Term)) (k : ℕ) (den : ℤ) : Type 0 where
  pub above : pos 1 ≤ℤ den
  pub divide : (i : ℕ) → i < k → unsigned_abs (own_den width (slice_index_or lists i [])) ∣ unsigned_abs den
  pub least : (m : ℕ) → ((i : ℕ) → i < k → unsigned_abs (own_den width (slice_index_or lists i [])) ∣ m) → unsigned_abs den ∣ m

pub den_none : (width : ℕ) (lists : List (List Term)) → IsDenBefore width lists 0 (pos 1)
den_none width lists = record { above = omega (arith, ints); divide = λ i below. absurd (omega arith); least = λ m divide. one-dvd m }

pub den_more : (width : ℕ) (lists : List (List Term)) (k : ℕ) (den own next : ℤ) → IsDenBefore width lists k den → own ≡ own_den width (slice_index_or lists k []) → IsLeastMultiple (unsigned_abs den) (unsigned_abs own) (unsigned_abs next) → pos 1 ≤ℤ next → IsDenBefore width lists (k + 1) next
den_more width lists k den own next before own_is multiple up = record {
  above = up;
  divide = λ i below.
      by_less i k
      (λ less. dvd_trans (unsigned_abs (own_den width (slice_index_or lists i []))) (before.divide i less) multiple.first)
      (λ more. let same : i ≡ k = omega arith in subst (λ n. unsigned_abs (own_den width (slice_index_or lists n [])) ∣ unsigned_abs next) (sym same) (subst (λ (z : ℤ). unsigned_abs z ∣ unsigned_abs next) own_is multiple.second));
  least = λ m divide. multiple.least m (before.least m (λ i below. divide i (omega arith))) (subst (λ (z : ℤ). unsigned_abs z ∣ m) (sym own_is) (divide k (omega arith)));
}

pub den_whole : (width : ℕ) (lists : List (List Term)) (k : ℕ) (den : ℤ) → length lists ≡ k → IsDenBefore width lists k den → IsDenOf width lists den
den_whole width lists k den long before = record {
  above = before.above;
  divide = λ i below. before.divide i (omega (arith, long));
  least = λ m divide. before.least m (λ i below. divide i (omega (arith, long)));
}

pub den_wide_before : (width : ℕ) (lists : List (List Term)) (k : ℕ) (den own : ℤ) → k < length lists → IsDenBefore width lists k den → own ≡ own_den width (slice_index_or lists k []) → ((m : ℕ) → 0 < m → unsigned_abs den ∣ m → unsigned_abs own ∣ m → is_wide (pos m) ≡ true) → (m : ℕ) → 0 < m → DensDivide width lists m → is_wide (pos m) ≡ true
den_wide_before width lists k den own within before own_is wide m up divide =
    wide m up (before.least m (λ i below. divide i (omega arith))) (subst (λ (z : ℤ). unsigned_abs z ∣ m) (sym own_is) (divide k within))

-- ---- the list of one row

pub placed_here : (olds : List (List Term)) (news : List (Option (List Term))) (k : ℕ) (list own : List Term) (new : Option (List Term)) → k < length news → length news ≤ length olds → own ≡ slice_index_or olds k own → new ≡ slice_index_or news k new → list ≡ placed_list own new → list ≡ slice_index_or (placed_lists olds news) k []
placed_here olds news k list own new within long own_is new_is is =
    is ∙ ap (λ (o : List Term). placed_list o new) (get_or_read olds k own (omega arith) own_is []) ∙ ap (placed_list (slice_index_or olds k [])) (get_or_read news k new within new_is None) ∙ sym (placed_at olds news k within)

-- the value of one row more
pub values_more : (den : ℤ) (width k : ℕ) (lists : List (List Term)) (values now : List ℤ) (x : ℤ) → k < length lists → values ≡ map (λ row. number_at row (width - 1)) (map (row_over den width) (take k lists)) → x ≡ number_at (row_over den width (slice_index_or lists k [])) (width - 1) → now ≡ values ++ x ∷ [] →
    now ≡ map (λ row. number_at row (width - 1)) (map (row_over den width) (take (k + 1) lists))
values_more den width k lists values now x within so_far here put =
    let f : List ℤ → ℤ = λ row. number_at row (width - 1) in
    let g : List Term → List ℤ = row_over den width in
    let last : List Term = slice_index_or lists k [] in
    put ∙ ap (λ (t : List ℤ). t ++ x ∷ []) so_far ∙ ap (λ n. map f (map g (take k lists)) ++ n ∷ []) here
    ∙ sym (ap (λ (t : List (List Term)). map f (map g t)) (take_more lists k [] within) ∙ ap (map f) (map-append g (take k lists) (last ∷ [])) ∙ map-append f (map g (take k lists)) (g last ∷ []))
