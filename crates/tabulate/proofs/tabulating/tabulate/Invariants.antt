use Rattle.std.proofs.Common.{◌≡◌, ℕ}
use Rattle.tabulate.specs.MarkRecords.{MarksHoldRecords, settings_at}
use Rattle.tabulate.proofs.Finish.{started_at}
use Rattle.tabulate.proofs.Whole.{given_to}
use Rattle.tabulate.proofs.tabulating.tabulate.Given as goal

abbrev pub invariant-tables : goal.invariant-tables
invariant-tables l = record {
  frame : l.book ≡ record l.fn.book { marks = l.book.marks };
  kept : (cell : ℕ) → settings_at l.book.marks cell ≡ started_at l.fn.book.marks l.keep l.scale cell;
  given : MarksHoldRecords l.book.marks (given_to l.fn.book l.rows l.t);
}
