use Rattle.std.proofs.Common.{◌≡◌, ◌++◌, take, flat_map, option_map}
use Rattle.release_writer.specs.Lines.{IsReadyWriter, bytes_written}
use Rattle.cell_listing.specs.ListedCells.{told_cells}
use Rattle.cell_listing.specs.ReleasedCells.{amounts_in}
use Rattle.cell_listing.specs.ReleasedListings.{outcome_at, released_line}
use Rattle.cell_listing.proofs.released_listing.write_cells.Given as goal

abbrev pub invariant-lines : goal.invariant-lines
invariant-lines l = record {
  ready : IsReadyWriter l.writer;
  text : bytes_written l.writer ≡ option_map (λ text. text ++ flat_map (released_line l.read.job.described l.read.job.book.trees (outcome_at l.read.certificate l.read.extra (amounts_in l.cells))) (take l.number (told_cells l.read.job))) (bytes_written l.fn.writer);
}
