use Rattle.std.proofs.Common.{◌≡◌, ◌++◌, take, option_map}
use Rattle.release_writer.specs.Lines.{IsReadyWriter, bytes_written}
use Rattle.cell_listing.specs.ListedCells.{told_cells}
use Rattle.cell_listing.specs.Listings.{lines_of}
use Rattle.cell_listing.proofs.listing.write_cells.Given as goal

abbrev pub invariant-cells : goal.invariant-cells
invariant-cells l = record {
  ready : IsReadyWriter l.writer;
  text : bytes_written l.writer ≡ option_map (λ text. text ++ lines_of l.job.described l.job.book.trees (take l.number (told_cells l.job))) (bytes_written l.fn.writer);
}
