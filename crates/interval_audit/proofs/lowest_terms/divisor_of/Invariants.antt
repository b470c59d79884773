use Rattle.std.proofs.Common.{ℕ, ◌≤◌, take}
use Prim.Native.Nat.{◌∣◌}
use Rattle.interval_audit.specs.LowestTerms.{IsCommonDivisor}
use Rattle.interval_audit.proofs.lowest_terms.divisor_of.Given as goal

abbrev pub invariant-terms : goal.invariant-terms
invariant-terms l = record {
  positive : 1 ≤ l.divisor;
  divides : IsCommonDivisor l.divisor l.den (take l.term-index l.terms);
  greatest : (d : ℕ) → IsCommonDivisor d l.den (take l.term-index l.terms) → d ∣ l.divisor;
}
