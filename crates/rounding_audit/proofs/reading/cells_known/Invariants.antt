use Rattle.std.proofs.Common.{take}
use Rattle.rounding_audit.specs.Readers.{AreReaderCells}
use Rattle.rounding_audit.proofs.reading.cells_known.Given as goal

abbrev pub invariant-cells : goal.invariant-cells
invariant-cells l = AreReaderCells (take l.number l.cells) l.values l.base l.known
