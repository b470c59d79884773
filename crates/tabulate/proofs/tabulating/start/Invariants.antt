use Rattle.tabulate.specs.EmptyLists.{HaveEmptyLists}
use Rattle.tabulate.proofs.tabulating.start.Given as goal

abbrev pub invariant-cells : goal.invariant-cells
invariant-cells l = HaveEmptyLists l.fn.book l.book l.keep l.scale l.cell
