use Rattle.std.proofs.Common.{◌≡◌, ◌++◌, List, length, map, drop, neg_ℤ}
use Rattle.sdc_base.specs.Forms.{Term}
use Rattle.worlds.specs.BoundedNumbers.{numbers_with_terms}
use Rattle.worlds.proofs.adding.take_parts.Given as goal

abbrev pub invariant-loop-part : goal.invariant-loop-part
invariant-loop-part l = record {
  long : length l.numbers ≡ length l.fn.numbers;
  rest : (rest : List Term) → numbers_with_terms l.fn.numbers (map (λ part. (part, neg_ℤ l.times)) l.parts ++ rest) ≡ numbers_with_terms l.numbers (map (λ part. (part, neg_ℤ l.times)) (drop l.part-index l.parts) ++ rest);
}
