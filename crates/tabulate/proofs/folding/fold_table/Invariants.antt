use Rattle.std.proofs.Common.{take}
use Rattle.tabulate.specs.RecordsByPlace.{dimensions_of}
use Rattle.tabulate.specs.UpperCells.{PassedRecords, after_variables}
use Rattle.tabulate.proofs.folding.fold_table.Given as goal

abbrev pub invariant-variables : goal.invariant-variables
invariant-variables l = PassedRecords l.fn.book l.book (after_variables l.fn.book l.first l.past (take l.k (dimensions_of l.fn.book l.t)))
