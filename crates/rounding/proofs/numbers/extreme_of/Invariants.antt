use Rattle.std.proofs.Common.{◌≡◌, ◌+◌, ◌*◌, ◌^◌, take, pos, neg_ℤ, ◌-ℤ◌, ◌≤ℤ◌}
use Rattle.sdc_base.specs.Totals.{sum_of}
use Rattle.sdc_base.specs.Systems.{number_at}
use Rattle.rounding.specs.Extremes.{extreme_numbers}
use Rattle.rounding.proofs.numbers.extreme_of.Given as goal

abbrev pub invariant-parts : goal.invariant-parts
invariant-parts l = record {
  sum : l.sum ≡ (extreme_numbers l.relation (number_at l.one) (number_at l.other) l.relation.total -ℤ number_at l.truths l.relation.total)
      -ℤ (sum_of (extreme_numbers l.relation (number_at l.one) (number_at l.other)) (take l.part-index l.relation.parts) -ℤ sum_of (number_at l.truths) (take l.part-index l.relation.parts));
  low : neg_ℤ (pos ((l.part-index + 1) * 10 ^ 22)) ≤ℤ l.sum;
  high : l.sum ≤ℤ pos ((l.part-index + 1) * 10 ^ 22);
}
