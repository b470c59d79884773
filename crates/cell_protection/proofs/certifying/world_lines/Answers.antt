use Rattle.cell_protection.proofs.CertificateLists.{cell-next}
use Rattle.cell_protection.proofs.certifying.world_lines.Goals as goal

pub cells-preserved : goal.cells-preserved
cells-preserved c = record {
  made = cell-next c.args.cells.now c.args.worlds.now c.cells.lines c.add_lines.new.lines c.cells.number c.index-cells-number.result c.cells-test.true c.index-cells-number.is
      c.in_ok-add_lines.ensures c.cells.invariant.made;
}
