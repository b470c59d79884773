use Rattle.std.proofs.Common.{◌≡◌, ◌*◌, ◌^◌, take, pos, neg_ℤ, ◌≤ℤ◌}
use Rattle.sdc_base.specs.Totals.{sum_of}
use Rattle.sdc_base.specs.Systems.{number_at}
use Rattle.worlds.proofs.relations.holds.Given as goal

abbrev pub invariant-loop-part : goal.invariant-loop-part
invariant-loop-part l = record {
  sum : l.sum ≡ sum_of (number_at l.numbers) (take l.part-index l.part-items);
  above : neg_ℤ (pos (2 ^ 127 * l.part-index)) ≤ℤ l.sum;
  below : l.sum ≤ℤ pos (2 ^ 127 * l.part-index);
}
