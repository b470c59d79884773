use Rattle.tableau.specs.Choices.{IsLeaving}
use Rattle.tableau.specs.SparseTables.{table_of}
use Rattle.tableau.proofs.leaving.leaving_row.Given as goal

abbrev pub invariant-loop-k : goal.invariant-loop-k
invariant-loop-k l = IsLeaving l.problem (table_of l.table) l.column l.k l.best
