use Rattle.std.proofs.Common.{take}
use Rattle.tabulate.specs.RecordsByPlace.{GaveRecords}
use Rattle.tabulate.proofs.placing.give_rows.Given as goal

abbrev pub invariant-rows : goal.invariant-rows
invariant-rows l = GaveRecords l.fn.book l.book l.t l.first (take l.row-index l.rows)
