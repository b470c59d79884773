use Rattle.std.proofs.Common.{◌≡◌, map, take}
use Rattle.tableau.specs.Entries.{times_entry}
use Rattle.tableau.proofs.dividing.divided_row.Given as goal

abbrev pub invariant-loop-entry : goal.invariant-loop-entry
invariant-loop-entry l = map (times_entry l.by) l.part.items ≡ take l.entry-index l.entries
