use Rattle.tableau.specs.Choices.{IsEntering}
use Rattle.tableau.specs.SparseTables.{table_of}
use Rattle.tableau.proofs.entering.entering_place.Given as goal

abbrev pub invariant-loop-k : goal.invariant-loop-k
invariant-loop-k l = IsEntering (table_of l.table) l.k l.best
