use Rattle.std.proofs.Common.{arith}
use Rattle.tableau.specs.SparseTables.{table_of}
use Rattle.tableau.proofs.LeavingRows.{none_enters}
use Rattle.tableau.proofs.entering.entering_place.Goals as goal

pub loop-k-init : goal.loop-k-init
loop-k-init c = λ j below. absurd (omega arith)

pub returns-clause-none : goal.returns-clause-none
returns-clause-none c = none_enters (table_of c.args.table.now) c.loop-k.k c.loop-k.best (omega (arith, c.loop-k-test.false, c.len-k-end.ensures, c.loop-k.auto.k-end)) c.loop-k.invariant
