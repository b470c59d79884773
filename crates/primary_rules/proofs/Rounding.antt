-- Rounding up gives the least whole number that reaches the quotient.
use Rattle.std.proofs.Common.{◌≡◌, ℕ, ◌+◌, ◌*◌, ◌/◌, ◌<◌, ◌≤◌, true, false, ℤ, pos, negsuc, neg_ℤ, ◌+ℤ◌, ◌*ℤ◌, ◌≤ℤ◌, ◌<ℤ◌, int_lt, arith, refl, ap, sym, subst, ◌∙◌, if◌then◌else◌}
use Rattle.std.specs.Int.{int_div_euclid}
use Rattle.std.proofs.Math.Nat.{div-add-mod}
use Rattle.std.proofs.lemmas.Nat.{mod_below}
use Rattle.std.proofs.Math.IntN.{*ℤ_comm}
use Rattle.std.proofs.lemmas.Int.{ints}
use Rattle.sdc_base.proofs.WholeNumbers.{distrib, times_up, minus_times, below_from_times}
use Rattle.sdc_base.specs.RuleLevels.{Fraction, fraction_of, rounded_up, IsRoundedUp}
use Rattle.primary_rules.specs.Naming.{RoundingIsLeast}

-- a number is what its quotient comes to, and a rest below the divisor
part_low : (a d : ℕ) → d * (a / d) ≤ a
part_low a d = omega (arith, div-add-mod a d)

part_high : (a d : ℕ) → 1 ≤ d → a < d * (a / d) + d
part_high a d h = omega (arith, div-add-mod a d, mod_below a d h)

quotient_low : (z : ℤ) (d : ℕ) → 1 ≤ d → (pos d *ℤ int_div_euclid z (pos d)) ≤ℤ z
quotient_low (pos a) d h = omega (arith, ints, part_low a d)
quotient_low (negsuc a) d h = omega (arith, ints, part_high a d h)

quotient_high : (z : ℤ) (d : ℕ) → 1 ≤ d → z <ℤ (pos d *ℤ int_div_euclid z (pos d) +ℤ pos d)
quotient_high (pos a) d h = omega (arith, ints, part_high a d h)
quotient_high (negsuc a) d h = omega (arith, ints, part_low a d)

times_minus : (d : ℕ) (b : ℤ) → pos d *ℤ neg_ℤ b ≡ neg_ℤ (pos d *ℤ b)
times_minus d b = *ℤ_comm (pos d) (neg_ℤ b) ∙ minus_times b (pos d) ∙ ap neg_ℤ (*ℤ_comm b (pos d))

-- the quotient rounded up, with no least
abbrev up_of : ℤ → ℕ → ℤ
up_of over d = neg_ℤ (int_div_euclid (neg_ℤ over) (pos d))

up_reaches : (over : ℤ) (d : ℕ) → 1 ≤ d → over ≤ℤ (pos d *ℤ up_of over d)
up_reaches over d h = omega (arith, ints, quotient_low (neg_ℤ over) d h, times_minus d (int_div_euclid (neg_ℤ over) (pos d)))

up_least : (over other : ℤ) (d : ℕ) → 1 ≤ d → over ≤ℤ (pos d *ℤ other) → up_of over d ≤ℤ other
up_least over other d h reaches =
    let up : ℤ = up_of over d in
    let near : neg_ℤ over <ℤ (pos d *ℤ int_div_euclid (neg_ℤ over) (pos d) +ℤ pos d) = quotient_high (neg_ℤ over) d h in
    let before : pos d *ℤ (up +ℤ negsuc 0) ≡ pos d *ℤ up +ℤ pos d *ℤ negsuc 0 = distrib (pos d) up (negsuc 0) in
    let below : (pos d *ℤ (up +ℤ negsuc 0)) <ℤ (pos d *ℤ other) =
    omega (arith, ints, near, before, times_minus d (int_div_euclid (neg_ℤ over) (pos d)), reaches) in
    let positive : pos 1 ≤ℤ pos d = omega (arith, ints, h) in
    let less : (up +ℤ negsuc 0) <ℤ other = below_from_times (pos d) (up +ℤ negsuc 0) other positive below in
    omega (arith, ints, less)

pub rounded_is : (over : ℤ) (d : ℕ) → 1 ≤ d → IsRoundedUp (fraction_of over d) (rounded_up (fraction_of over d))
rounded_is over d h =
    let up : ℤ = up_of over d in
    let reaches : over ≤ℤ (pos d *ℤ up) = up_reaches over d h in
    elim (int_lt up (pos 1)) as (λ b. int_lt up (pos 1) ≡ b → IsRoundedUp (fraction_of over d) (if b then pos 1 else up)) [
      | true ↦ λ is.
          let low : up <ℤ pos 1 = grind (arith, ints, is) in
          let more : (pos d *ℤ up) ≤ℤ (pos d *ℤ pos 1) = times_up (pos d) up (pos 1) (omega (arith, ints)) (omega (arith, ints, low)) in
          record { unit = omega (arith, ints); reaches = omega (arith, ints, reaches, more); least = λ other from met. from }
      | false ↦ λ is.
          let high : pos 1 ≤ℤ up = grind (arith, ints, is) in
          record { unit = high; reaches = reaches; least = λ other from met. up_least over other d h met }
    ] refl

pub same_rounded : (q : Fraction) (a b : ℤ) → IsRoundedUp q a → IsRoundedUp q b → a ≡ b
same_rounded q a b this that = omega (arith, ints, this.least b that.unit that.reaches, that.least a this.unit this.reaches)

pub rounding_is_least : RoundingIsLeast
rounding_is_least q level h =
    let own : IsRoundedUp q (rounded_up q) = rounded_is q.over q.under h in
    (λ is. subst (λ n. IsRoundedUp q n) (sym is) own, λ this. same_rounded q level (rounded_up q) this own)
