use Rattle.std.proofs.Common.{◌≡◌, take}
use Rattle.tableau.specs.Entries.{AreEntriesFrom, row_of_entries}
use Rattle.tableau.proofs.first_table.spread.Given as goal

abbrev pub invariant-loop-j : goal.invariant-loop-j
invariant-loop-j l = record { from : AreEntriesFrom l.j l.i l.entries; numbers : l.numbers.items ≡ take l.j (row_of_entries l.width l.entries) }
