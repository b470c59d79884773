use Rattle.tabulate.specs.UpperCells.{PassedRecords, after_cells}
use Rattle.tabulate.proofs.folding.fold_variable.Given as goal

abbrev pub invariant-cells : goal.invariant-cells
invariant-cells l = PassedRecords l.fn.book l.book (after_cells l.fn.book l.variable l.first l.past l.done)
