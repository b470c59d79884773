-- Numbers that divide others, and fractions in lowest terms.
use Rattle.std.proofs.Common.{ℕ, ◌+◌, ◌-◌, ◌*◌, ◌/◌, ◌≤◌, arith, sym, subst}
use Prim.Native.Nat.{◌∣◌}
use Rattle.std.specs.Int.{IsGcd}
use Rattle.std.proofs.Math.Nat.{mul_comm, dvd-mul_left, dvd-mul_right_of_dvd, dvd-add_iff_right, dvd-sub_iff_right, dvd_of_mul-dvd-mul_left, mul-dvd-mul_left, mul-div_cancel', one-dvd, pos_of_dvd_of_pos}
use Rattle.cell_intervals.specs.Lowering.{IsLoweredTo}

-- ---- lowest terms

pub by_positive : (num den by : ℕ) → 1 ≤ den → IsGcd num den by → 1 ≤ by
by_positive num den by up gcd = pos_of_dvd_of_pos gcd.1 up

pub lower_positive : (num den by : ℕ) → 1 ≤ den → IsGcd num den by → 1 ≤ den / by
lower_positive num den by up gcd =
    let divides : (den / by) ∣ den = subst (λ n. (den / by) ∣ n) (mul-div_cancel' by gcd.1) (dvd-mul_left (den / by) by) in
    pos_of_dvd_of_pos divides up

pub lower_is_lowest : (num den by : ℕ) → 1 ≤ den → IsGcd num den by → IsGcd (num / by) (den / by) 1
lower_is_lowest num den by up gcd = (
  one-dvd (num / by),
  one-dvd (den / by),
  λ d of_num of_den.
      let one : (by * d) ∣ num = subst (λ n. (by * d) ∣ n) (mul-div_cancel' by gcd.0) (mul-dvd-mul_left d by of_num) in
      let other : (by * d) ∣ den = subst (λ n. (by * d) ∣ n) (mul-div_cancel' by gcd.1) (mul-dvd-mul_left d by of_den) in
      let both : (by * d) ∣ (by * 1) = subst (λ n. (by * d) ∣ n) (omega arith) (gcd.2 (by * d) one other) in
      dvd_of_mul-dvd-mul_left d (by_positive num den by up gcd) both,
)

pub lower_is_same : (num den by : ℕ) → 1 ≤ den → IsGcd num den by → IsLoweredTo num den (num / by) (den / by)
lower_is_same num den by up gcd = (by, by_positive num den by up gcd, sym (mul-div_cancel' by gcd.0), sym (mul-div_cancel' by gcd.1))

pub lower_is_least : (num den by times : ℕ) → 1 ≤ den → IsGcd num den by → ((d k : ℕ) → d ∣ k * num → d ∣ k * den → d ∣ k * by) → den ∣ times * num → (den / by) ∣ times
lower_is_least num den by times up gcd multiples divides =
    let whole : den ∣ times * by = multiples den times divides (dvd-mul_left den times) in
    let front : (by * (den / by)) ∣ (by * times) = subst (λ n. n ∣ (by * times)) (sym (mul-div_cancel' by gcd.1)) (subst (λ n. den ∣ n) (mul_comm times by) whole) in
    dvd_of_mul-dvd-mul_left (den / by) (by_positive num den by up gcd) front

-- ---- a whole number less a fraction in lowest terms, and with it

pub minus_is_lowest : (whole num den : ℕ) → num ≤ whole * den → IsGcd num den 1 → IsGcd (whole * den - num) den 1
minus_is_lowest whole num den within gcd =
    (one-dvd (whole * den - num), one-dvd den, λ d of_less of_den. gcd.2 d ((dvd-sub_iff_right d within (dvd-mul_left_of d den whole of_den)).0 of_less) of_den)
  where
    dvd-mul_left_of : (d den whole : ℕ) → d ∣ den → d ∣ whole * den
    dvd-mul_left_of d den whole h = subst (λ n. d ∣ n) (mul_comm den whole) (dvd-mul_right_of_dvd d h whole)

pub plus_is_lowest : (whole num den : ℕ) → IsGcd num den 1 → IsGcd (whole * den + num) den 1
plus_is_lowest whole num den gcd =
    (one-dvd (whole * den + num), one-dvd den, λ d of_more of_den. gcd.2 d ((dvd-add_iff_right d (dvd-mul_left_of d den whole of_den)).1 of_more) of_den)
  where
    dvd-mul_left_of : (d den whole : ℕ) → d ∣ den → d ∣ whole * den
    dvd-mul_left_of d den whole h = subst (λ n. d ∣ n) (mul_comm den whole) (dvd-mul_right_of_dvd d h whole)
