-- Numbers that divide others.
use Rattle.std.proofs.Common.{◌≡◌, ℕ, zero, suc, ◌+◌, ◌*◌, ◌/◌, ◌<◌, ◌≤◌, ◌^◌, List, [], ◌∷◌, ◌++◌, length, take, get_or, All, ℤ, pos, negsuc, neg_ℤ, ◌*ℤ◌, ◌≤ℤ◌, ◌<ℤ◌, FitsSigned, unsigned_abs, arith, ap, sym, ◌∙◌, subst}
use Prim.Native.Nat.{◌∣◌}
use Rattle.std.specs.Int.{IsGcd, w128}
use Rattle.std.proofs.Math.Nat.{mul-div_cancel', div-le_self, pos_of_dvd_of_pos, mul-dvd-mul_left, dvd_of_mul-dvd-mul_left}
use Rattle.std.proofs.lemmas.Nat.Gcd.{dvd_trans, le_of_dvd}
use Rattle.std.proofs.lemmas.Int.{ints, unsigned_abs-mul}
use Rattle.std.proofs.lemmas.List.{take_more, map-append}
use Rattle.std.proofs.lemmas.List.Elements.{All-nil, All-head, All-push, All-weaker, All-map}
use Rattle.sdc_base.specs.Forms.{Term}
use Rattle.interval_audit.specs.LowestTerms.{IsCommonDivisor, AreLowestTermsOf, times_each}
use Rattle.interval_audit.proofs.Spread.{times_minus}
use Rattle.interval_audit.proofs.Members.{All-left, All-right}

-- ---- a number divided by one that divides it

pub size_small : (z : ℤ) → FitsSigned w128 z → neg_ℤ (pos (2 ^ 127)) <ℤ z → unsigned_abs z < 2 ^ 127
size_small (pos n) fits h = omega (arith, ints, fits)
size_small (negsuc n) fits h = omega (arith, ints, fits, h)

pub part_small : (z : ℤ) (by whole : ℕ) → FitsSigned w128 z → neg_ℤ (pos (2 ^ 127)) <ℤ z → whole ≡ unsigned_abs z → whole / by < 2 ^ 127
part_small z by whole fits h is = omega (arith, size_small z fits h, is, div-le_self whole by)

pub exact_from : (by whole : ℕ) (z : ℤ) → by ∣ unsigned_abs z → whole ≡ unsigned_abs z → pos 0 ≤ℤ z → pos by *ℤ pos (whole / by) ≡ z
exact_from by whole (pos n) divides is h = ap (λ w. pos (by * (w / by))) is ∙ ap pos (mul-div_cancel' by divides)
exact_from by whole (negsuc n) divides is h = absurd (omega (arith, ints, h))

pub exact_below : (by whole : ℕ) (z : ℤ) → by ∣ unsigned_abs z → whole ≡ unsigned_abs z → z <ℤ pos 0 → pos by *ℤ neg_ℤ (pos (whole / by)) ≡ z
exact_below by whole (pos n) divides is h = absurd (omega (arith, ints, h))
exact_below by whole (negsuc n) divides is h = times_minus (pos by) (pos (whole / by)) ∙ ap (λ w. neg_ℤ (pos (by * (w / by)))) is ∙ ap (λ w. neg_ℤ (pos w)) (mul-div_cancel' by divides)

-- ---- one number more

pub divides_none : (d : ℕ) (den : ℤ) → d ∣ unsigned_abs den → IsCommonDivisor d den []
divides_none d den h = record { den_divided = h; each_divided = All-nil (λ (t : Term). d ∣ unsigned_abs t.1) }

pub divides_less : (d : ℕ) (den : ℤ) (terms : List Term) (i : ℕ) (e : Term) → i < length terms → IsCommonDivisor d den (take (i + 1) terms) → IsCommonDivisor d den (take i terms) × (d ∣ unsigned_abs (get_or terms i e).1)
divides_less d den terms i e inside h =
    let P : Term → Type 0 = λ t. d ∣ unsigned_abs t.1 in
    let split : All P (take i terms ++ get_or terms i e ∷ []) = subst (All P) (take_more terms i e inside) h.each_divided in
    (record { den_divided = h.den_divided; each_divided = All-left P (take i terms) (get_or terms i e ∷ []) split }, All-head P (get_or terms i e) [] (All-right P (take i terms) (get_or terms i e ∷ []) split))

pub divides_more : (old size new : ℕ) (den : ℤ) (terms : List Term) (i : ℕ) (e : Term) → i < length terms → IsGcd old size new → size ≡ unsigned_abs (get_or terms i e).1 → IsCommonDivisor old den (take i terms) → IsCommonDivisor new den (take (i + 1) terms)
divides_more old size new den terms i e inside gcd is h =
    let P : Term → Type 0 = λ t. old ∣ unsigned_abs t.1 in
    let Q : Term → Type 0 = λ t. new ∣ unsigned_abs t.1 in
    let own : Q (get_or terms i e) = subst (λ n. new ∣ n) is gcd.1 in
    record {
      den_divided = dvd_trans new gcd.0 h.den_divided;
      each_divided = subst (All Q) (sym (take_more terms i e inside)) (All-push Q (take i terms) (get_or terms i e) (All-weaker P Q (λ t divides. dvd_trans new gcd.0 divides) (take i terms) h.each_divided) own);
    }

pub gcd_positive : (old size new : ℕ) → 1 ≤ old → IsGcd old size new → 1 ≤ new
gcd_positive old size new h gcd = pos_of_dvd_of_pos gcd.0 h

-- ---- lowest terms

multiple : (g d : ℕ) (z : ℤ) → d ∣ unsigned_abs z → (g * d) ∣ unsigned_abs (pos g *ℤ z)
multiple g d z h = subst (λ n. (g * d) ∣ n) (sym (unsigned_abs-mul (pos g) z)) (mul-dvd-mul_left d g h)

pub reduced_is : (g : ℕ) (den : ℤ) (terms : List Term) (lower : ℤ) (less : List Term) → 1 ≤ g → pos 1 ≤ℤ den → ((d : ℕ) → IsCommonDivisor d den terms → d ∣ g) → den ≡ pos g *ℤ lower → terms ≡ times_each (pos g) less → AreLowestTermsOf den terms lower less
reduced_is g den terms lower less positive den_positive greatest den_is terms_are = record {
  by = pos g;
  by_positive = omega (arith, ints, positive);
  den_same = den_is;
  each_same = terms_are;
  lowest = record { positive = lower_positive lower den_is; alone = alone };
}
  where
    lower_positive : (low : ℤ) → den ≡ pos g *ℤ low → pos 1 ≤ℤ low
    lower_positive (pos zero) is = absurd (omega (arith, ints, is, den_positive, times_zero (pos g)))
      where
        times_zero : (z : ℤ) → z *ℤ pos 0 ≡ pos 0
        times_zero (pos n) = omega (arith, ints)
        times_zero (negsuc n) = omega (arith, ints)
    lower_positive (pos (suc n)) is = omega (arith, ints)
    lower_positive (negsuc n) is =
        let below : pos g *ℤ negsuc n ≡ neg_ℤ (pos (g * suc n)) = times_minus (pos g) (pos (suc n)) in
        absurd (omega (arith, ints, is, den_positive, below))

    alone : (d : ℕ) → IsCommonDivisor d lower less → d ≡ 1
    alone d all =
        let P : Term → Type 0 = λ t. (g * d) ∣ unsigned_abs t.1 in
        let each : All P (times_each (pos g) less) = All-map P (λ (t : Term). (t.0, pos g *ℤ t.1)) less (All-weaker (λ (t : Term). d ∣ unsigned_abs t.1) (λ (t : Term). P (t.0, pos g *ℤ t.1)) (λ t h. multiple g d t.1 h) less all.each_divided) in
        let whole : IsCommonDivisor (g * d) den terms = record { den_divided = subst (λ z. (g * d) ∣ unsigned_abs z) (sym den_is) (multiple g d lower all.den_divided); each_divided = subst (All P) (sym terms_are) each } in
        let back : (g * d) ∣ (g * 1) = subst (λ n. (g * d) ∣ n) (omega arith) (greatest (g * d) whole) in
        let one : d ∣ 1 = dvd_of_mul-dvd-mul_left d positive back in
        let low : 0 < d = pos_of_dvd_of_pos one (omega arith) in
        let high : d ≤ 1 = le_of_dvd (omega arith) one in
        omega (arith, low, high)

pub size_positive : (z : ℤ) (size : ℕ) → size ≡ unsigned_abs z → pos 1 ≤ℤ z → 1 ≤ size
size_positive (pos n) size is h = omega (arith, ints, is, h)
size_positive (negsuc n) size is h = absurd (omega (arith, ints, h))

-- numbers divided, one more
pub times_next : (by : ℤ) (terms less : List Term) (i : ℕ) (e new : Term) → i < length terms → take i terms ≡ times_each by less → (new.0, by *ℤ new.1) ≡ get_or terms i e → take (i + 1) terms ≡ times_each by (less ++ new ∷ [])
times_next by terms less i e new inside before is =
    take_more terms i e inside ∙ ap (λ ts. ts ++ get_or terms i e ∷ []) before ∙ ap (λ (t : Term). times_each by less ++ t ∷ []) (sym is) ∙ sym (map-append (λ (t : Term). (t.0, by *ℤ t.1)) less (new ∷ []))
