use Rattle.std.proofs.Common.{◌≡◌, ◌++◌, List, length, drop}
use Rattle.sdc_base.specs.Forms.{Term, weighted_forms}
use Rattle.worlds.specs.BoundedNumbers.{numbers_with_terms}
use Rattle.worlds.proofs.adding.add_forms.Given as goal

abbrev pub invariant-loop-one : goal.invariant-loop-one
invariant-loop-one l = record {
  long : length l.numbers ≡ length l.fn.numbers;
  rest : (rest : List Term) → numbers_with_terms l.fn.numbers (weighted_forms l.relations l.multipliers ++ rest) ≡ numbers_with_terms l.numbers (weighted_forms l.relations (drop l.one-index l.multipliers) ++ rest);
}
