use Rattle.std.proofs.Common.{ℕ, ◌*◌}
use Prim.Native.Nat.{◌∣◌}
use Rattle.std.specs.Int.{IsGcd}
use Rattle.tableau.proofs.common_divisor.gcd.Given as goal

abbrev pub invariant-steps : goal.invariant-steps
invariant-steps l = record {
  greatest : (g : ℕ) → IsGcd l.a l.b g → IsGcd l.one l.other g;
  multiples : (d times : ℕ) → d ∣ times * l.one → d ∣ times * l.other → (d ∣ times * l.a) × (d ∣ times * l.b);
}

abbrev pub decreases-steps : goal.decreases-steps
decreases-steps l = l.b
