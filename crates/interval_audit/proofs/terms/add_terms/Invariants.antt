use Rattle.std.proofs.Common.{◌≡◌, length, take}
use Rattle.interval_audit.specs.CellNumbers.{AreCoefficients}
use Rattle.interval_audit.proofs.terms.add_terms.Given as goal

abbrev pub invariant-terms : goal.invariant-terms
invariant-terms l = record {
  long : length l.numbers ≡ length l.fn.numbers;
  each : AreCoefficients l.numbers (take l.term-index l.terms);
}
