use Rattle.std.proofs.Common.{◌≡◌, take}
use Rattle.tableau.specs.Entries.{AreEntriesFrom}
use Rattle.tableau.specs.OwnRows.{row_over}
use Rattle.tableau.proofs.numbers_over.row_numbers.Given as goal

abbrev pub invariant-loop-j : goal.invariant-loop-j
invariant-loop-j l = record { from : AreEntriesFrom l.j l.i l.own; numbers : l.numbers.items ≡ take l.j (row_over l.den l.width l.own) }
