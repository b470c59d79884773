-- A bound on a cell's value, asked of its move.
use Rattle.std.proofs.Common.{◌≡◌, ◌↔◌, Bool, IsTrue, ℤ, ◌+ℤ◌, ◌-ℤ◌, ◌*ℤ◌, ◌≤ℤ◌, neg_ℤ, int_le, arith, ap, sym, ◌∙◌}
use Rattle.std.proofs.Math.IntN.{*ℤ_comm}
use Rattle.sdc_base.proofs.WholeNumbers.{minus_times}
use Rattle.std.specs.Bool.{Decides, one_answer}
use Rattle.std.proofs.lemmas.Int.{ints}
use Rattle.sdc_base.proofs.WeakDual.{lessened}

pub decides_le : (x y : ℤ) → Decides (int_le x y) (x ≤ℤ y)
decides_le x y = (λ is. grind (arith, ints, is), λ within. grind (arith, ints, within))

pub low_test : (den low truth by : ℤ) → int_le (den *ℤ (low -ℤ truth)) by ≡ int_le (den *ℤ low) (den *ℤ truth +ℤ by)
low_test den low truth by =
    one_answer {P = (den *ℤ (low -ℤ truth)) ≤ℤ by} (int_le (den *ℤ (low -ℤ truth)) by) (int_le (den *ℤ low) (den *ℤ truth +ℤ by))
    (decides_le (den *ℤ (low -ℤ truth)) by) (
      λ is. omega (arith, ints, (decides_le (den *ℤ low) (den *ℤ truth +ℤ by)).0 is, lessened den truth low),
      λ within. (decides_le (den *ℤ low) (den *ℤ truth +ℤ by)).1 (omega (arith, ints, within, lessened den truth low)),
    )

pub high_test : (den truth by high : ℤ) → int_le by (den *ℤ (high -ℤ truth)) ≡ int_le (den *ℤ truth +ℤ by) (den *ℤ high)
high_test den truth by high =
    one_answer {P = by ≤ℤ (den *ℤ (high -ℤ truth))} (int_le by (den *ℤ (high -ℤ truth))) (int_le (den *ℤ truth +ℤ by) (den *ℤ high))
    (decides_le by (den *ℤ (high -ℤ truth))) (
      λ is. omega (arith, ints, (decides_le (den *ℤ truth +ℤ by) (den *ℤ high)).0 is, lessened den truth high),
      λ within. (decides_le (den *ℤ truth +ℤ by) (den *ℤ high)).1 (omega (arith, ints, within, lessened den truth high)),
    )

-- at most so many times an amount below 0, turned round
pub below_says : (den down turned by : ℤ) (b : Bool) → turned ≡ neg_ℤ down → b ≡ int_le by (den *ℤ turned) → IsTrue b ↔ ((den *ℤ down) ≤ℤ neg_ℤ by)
below_says den down turned by b turns is =
    let whole : den *ℤ turned ≡ neg_ℤ (den *ℤ down) = ap (λ z. den *ℤ z) turns ∙ *ℤ_comm den (neg_ℤ down) ∙ minus_times down den ∙ ap neg_ℤ (*ℤ_comm down den) in (
      λ yes. omega (arith, ints, whole, (decides_le by (den *ℤ turned)).0 (sym is ∙ yes)),
      λ within. is ∙ (decides_le by (den *ℤ turned)).1 (omega (arith, ints, whole, within)),
    )
