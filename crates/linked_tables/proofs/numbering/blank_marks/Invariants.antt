use Rattle.std.proofs.Common.{◌≡◌, length, All}
use Rattle.linked_tables.specs.BlankMarks.{IsBlank}
use Rattle.linked_tables.proofs.numbering.blank_marks.Given as goal

abbrev pub invariant-marks : goal.invariant-marks
invariant-marks l = record { len : length l.marks.items ≡ l.counter; blank : All IsBlank l.marks.items }
