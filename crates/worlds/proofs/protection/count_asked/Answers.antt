use Rattle.std.proofs.Common.{arith}
use Rattle.worlds.proofs.ProtectLaws.{asked_next}
use Rattle.worlds.proofs.protection.count_asked.Goals as goal

pub loop-cell-preserved : goal.loop-cell-preserved
loop-cell-preserved c = record {
  count = omega (arith, c.loop-cell.invariant.count, c.asked_for-count.ensures.worlds c.loop-cell.cell-index, asked_next c.args.pattern.now.cells.now c.loop-cell.cell-index c.cell-item.result c.loop-cell-test.true c.cell-item.is);
  few = omega (arith, c.loop-cell.invariant.few, c.asked_for-count.ensures.at_most_2);
}
