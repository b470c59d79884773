use Rattle.rounding_audit.specs.ReaderFaults.{AreRoundedBelow}
use Rattle.rounding_audit.proofs.adjacency.first_unrounded.Given as goal

abbrev pub invariant-cells : goal.invariant-cells
invariant-cells l = AreRoundedBelow l.cells l.values l.base l.number
