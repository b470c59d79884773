use Rattle.std.proofs.Common.{◌≡◌, ◌++◌, take, flat_map, option_map}
use Rattle.release_writer.specs.Lines.{IsReadyWriter, bytes_written}
use Rattle.cell_listing.specs.IntervalListings.{interval_line, IsNext}
use Rattle.cell_listing.specs.ListedCells.{told_cells}
use Rattle.cell_listing.specs.ReleasedCells.{amounts_in}
use Rattle.cell_listing.specs.ReleasedListings.{outcome_at}
use Rattle.cell_listing.proofs.interval_listing.write_cells.Given as goal

abbrev pub invariant-lines : goal.invariant-lines
invariant-lines l = record {
  ready : IsReadyWriter l.writer;
  next : IsNext l.ranges l.place l.number;
  text : bytes_written l.writer ≡ option_map (λ text. text ++ flat_map (interval_line l.read.job.described l.read.job.book.trees (outcome_at l.read.certificate l.read.extra (amounts_in l.cells)) l.ranges) (take l.number (told_cells l.read.job))) (bytes_written l.fn.writer);
}
