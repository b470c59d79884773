use Rattle.std.proofs.Common.{ℕ, ◌*◌, take}
use Prim.Native.Nat.{◌∣◌}
use Rattle.tableau.specs.CommonDivisors.{DividesEach, DividesTimes}
use Rattle.tableau.proofs.divisor.row_divisor.Given as goal

abbrev pub invariant-loop-entry : goal.invariant-loop-entry
invariant-loop-entry l = record {
  whole : l.common ∣ l.whole;
  each : DividesEach l.common (take l.entry-index l.entries);
  multiples : (e times : ℕ) → e ∣ times * l.whole → DividesTimes e times (take l.entry-index l.entries) → e ∣ times * l.common;
}
