-- Rows in lowest terms.
use Rattle.std.proofs.Common.{◌≡◌, ℕ, ◌+◌, ◌*◌, ◌<◌, ◌^◌, List, map, slice_index_or, ℤ, pos, ◌*ℤ◌, ◌≤ℤ◌, unsigned_abs, arith, ap, sym, subst, ◌∙◌, FitsSigned}
use Prim.Native.Nat.{◌∣◌}
use Rattle.std.specs.Int.{w128}
use Rattle.std.proofs.Math.Nat.{mul_assoc, mul-dvd-mul_right, dvd_of_mul-dvd-mul_right}
use Rattle.std.proofs.lemmas.Int.{ints, unsigned_abs-mul}
use Rattle.std.proofs.lemmas.Nat.Gcd.{le_of_dvd}
use Rattle.sdc_base.specs.Forms.{Term, coefficient}
use Rattle.tableau.specs.CommonDivisors.{DividesEach, DividesTimes}
use Rattle.tableau.specs.Entries.{IsSparse, times_entry}
use Rattle.tableau.specs.OwnRows.{own_den}
use Rattle.tableau.specs.NewRows.{IsLowestOf}
use Rattle.tableau.proofs.Divisors.{abs_up, abs_small, dvd_up}
use Rattle.tableau.proofs.OwnRows.{above_of}
use Rattle.tableau.proofs.Places.{ascend_of}
use Rattle.tableau.proofs.ReducedRows.{coefficient_times, entry_is, sparse_part}

-- the greatest number that divides the den of a row and all its numbers
pub record IsRowDivisor (g : ℕ) (den : ℤ) (entries : List Term) : Type 0 where
  pub small : g < 2 ^ 127
  pub up : 0 < g
  pub each : DividesEach g entries
  pub multiples : (e times : ℕ) → e ∣ times * unsigned_abs den → DividesTimes e times entries → e ∣ times * g

pub row_divisor_of : (g whole : ℕ) (den own : ℤ) (list entries : List Term) → list ≡ entries → whole ≡ unsigned_abs den → den ≡ own → pos 1 ≤ℤ own → FitsSigned w128 den → g ∣ whole → DividesEach g list → ((e times : ℕ) → e ∣ times * whole → DividesTimes e times list → e ∣ times * g) → IsRowDivisor g own entries
row_divisor_of g whole den own list entries list_is whole_is den_is up fits divides each multiples =
    let den_up : pos 1 ≤ℤ den = subst (λ x. pos 1 ≤ℤ x) (sym den_is) up in
    let here : g ∣ unsigned_abs den = subst (λ n. g ∣ n) whole_is divides in
    record {
      small = omega (arith, le_of_dvd (abs_up den den_up) here, abs_small den den_up fits);
      up = dvd_up g (unsigned_abs den) here (abs_up den den_up);
      each = subst (λ (t : List Term). DividesEach g t) list_is each;
      multiples = λ e times of_den all. multiples e times (subst (λ n. e ∣ times * n) (ap unsigned_abs (sym den_is) ∙ sym whole_is) of_den) (subst (λ (t : List Term). DividesTimes e times t) (sym list_is) all);
    }

divides_entries : (e times width : ℕ) (entries : List Term) → IsSparse 0 (width + 1) entries → ((v : ℕ) → e ∣ times * unsigned_abs (coefficient entries v)) → DividesTimes e times entries
divides_entries e times width entries sparse all k d below = subst (λ (n : ℤ). e ∣ times * unsigned_abs n) (entry_is 0 (width + 1) k d entries sparse below) (all (slice_index_or entries k d).0)

pub lowest_once : (width g : ℕ) (entries : List Term) → g ≡ 1 → IsSparse 0 (width + 1) entries → pos 1 ≤ℤ own_den width entries → IsRowDivisor g (own_den width entries) entries → IsLowestOf width entries entries
lowest_once width g entries one sparse up divisor = record {
  by = pos 1;
  above = omega (arith, ints);
  times = λ v. let once : coefficient entries v *ℤ pos 1 ≡ coefficient entries v = omega (arith, ints) in once;
  sparse = sparse;
  den_above = up;
  lowest = λ d times all.
      let whole : times * g ≡ times = omega (arith, ap (λ n. times * n) one) in
      subst (λ n. d ∣ n) whole (divisor.multiples d times (all width) (divides_entries d times width entries sparse all));
}

pub lowest_divided : (width g : ℕ) (by : ℤ) (entries part list : List Term) → by ≡ pos g → list ≡ entries → map (times_entry by) part ≡ list → IsSparse 0 (width + 1) entries → pos 1 ≤ℤ own_den width entries → IsRowDivisor g (own_den width entries) entries → IsLowestOf width entries part
lowest_divided width g by entries part list by_is list_is divided sparse up divisor =
    let whole_is : map (times_entry by) part ≡ entries = divided ∙ list_is in
    let part_sparse : IsSparse 0 (width + 1) part = sparse_part by 0 (width + 1) part (subst (λ (t : List Term). IsSparse 0 (width + 1) t) (sym whole_is) sparse) in
    let times_are : (v : ℕ) → coefficient part v *ℤ by ≡ coefficient entries v = λ v. coefficient_times by 0 v part (ascend_of 0 (width + 1) part part_sparse) ∙ ap (λ (t : List Term). coefficient t v) whole_is in
    let by_up : pos 1 ≤ℤ by = omega (arith, ints, by_is, divisor.up) in
    let sizes : (v : ℕ) → unsigned_abs (coefficient entries v) ≡ unsigned_abs (coefficient part v) * g = λ v. ap unsigned_abs (sym (times_are v)) ∙ unsigned_abs-mul (coefficient part v) by ∙ ap (λ (z : ℤ). unsigned_abs (coefficient part v) * unsigned_abs z) by_is in
    record {
      by = by;
      above = by_up;
      times = times_are;
      sparse = part_sparse;
      den_above = above_of (coefficient part width) by (own_den width entries) by_up (times_are width) up;
      lowest = λ d times all.
          let here : (v : ℕ) → d * g ∣ times * unsigned_abs (coefficient entries v) =
          λ v. subst (λ n. d * g ∣ n) (mul_assoc times (unsigned_abs (coefficient part v)) g ∙ ap (λ n. times * n) (sym (sizes v))) (mul-dvd-mul_right d (all v) g) in
          dvd_of_mul-dvd-mul_right {k = g} d {n = times} divisor.up (divisor.multiples (d * g) times (here width) (divides_entries (d * g) times width entries sparse here));
    }
