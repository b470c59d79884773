use Rattle.std.proofs.Common.{◌≡◌, ◌+◌, ◌≤◌, length}
use Rattle.sdc_base.specs.Lines.{lines}
use Rattle.apriori.specs.KnownCells.{basis_of}
use Rattle.apriori.specs.Priors.{ArePriors}
use Rattle.apriori.specs.Noting.{lines_noted}
use Rattle.apriori.proofs.applying.note_lines.Given as goal

abbrev pub invariant-lines : goal.invariant-lines
invariant-lines l = record {
  told : lines_noted (basis_of l.book) l.form l.reader.given (lines l.reader.rest) l.priors.items ≡ lines_noted (basis_of l.book) l.form 0 (lines l.bytes) l.fn.priors.items;
  count : l.reader.given + length (lines l.reader.rest) ≡ length (lines l.bytes);
  few : length l.reader.rest ≤ length l.bytes;
  priors : ArePriors l.book.marks l.priors.items;
}

abbrev pub decreases-lines : goal.decreases-lines
decreases-lines l = length (lines l.reader.rest)
