use Rattle.tabulate.proofs.RowSteps.{started-next}
use Rattle.tabulate.proofs.tabulating.start.Goals as goal

pub cells-preserved : goal.cells-preserved
cells-preserved c =
    started-next c.args.book.now c.cells.book c.start_cell.new.book c.args.keep c.args.scale c.cells.cell c.cells.invariant c.start_cell.ensures.frame c.start_cell.ensures.long c.start_cell.ensures.here c.start_cell.ensures.there
