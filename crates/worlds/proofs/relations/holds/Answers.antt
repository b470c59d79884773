use Rattle.std.proofs.Common.{arith}
use Rattle.std.proofs.lemmas.Int.{ints, to_z-of_z}
use Rattle.std.proofs.lemmas.List.Sums.{fold_more}
use Rattle.worlds.proofs.relations.holds.Goals as goal

pub loop-part-preserved : goal.loop-part-preserved
loop-part-preserved c = record {
  sum = grind (arith, ints, to_z-of_z, fold_more);
  above = omega (arith, ints);
  below = omega (arith, ints);
}
