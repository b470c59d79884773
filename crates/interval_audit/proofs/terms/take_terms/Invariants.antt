use Rattle.std.proofs.Common.{◌≡◌, length, drop}
use Rattle.interval_audit.specs.CellNumbers.{AreCoefficients}
use Rattle.interval_audit.proofs.terms.take_terms.Given as goal

abbrev pub invariant-terms : goal.invariant-terms
invariant-terms l = record {
  long : length l.numbers ≡ length l.fn.numbers;
  each : AreCoefficients l.numbers (drop l.term-index l.terms);
}
