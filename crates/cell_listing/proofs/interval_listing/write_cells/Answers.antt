use Rattle.std.proofs.Common.{◌≡◌, ℕ, List, ◌+◌, ◌≤◌, ◌++◌, length, map, take, flat_map, ap, ap₂, ◌∙◌, option_map, arith}
use Rattle.sdc_base.specs.TableText.{line_text}
use Rattle.apriori.specs.Settling.{told_of, view_of_cell}
use Rattle.linked_tables.specs.BookCells.{cells as cells_in}
use Rattle.release_writer.specs.Lines.{bytes_written}
use Rattle.release_writer.proofs.BegunPlaces.{written-more}
use Rattle.cell_listing.specs.IntervalListings.{end_fields, interval_line, range_of}
use Rattle.cell_listing.specs.ListedCells.{ListedCell, told_cells}
use Rattle.cell_listing.specs.ReleasedCells.{amounts_in}
use Rattle.cell_listing.specs.ReleasedListings.{outcome_at}
use Rattle.cell_listing.specs.declared.cell_range.CellRange.{CellRange}
use Rattle.cell_listing.proofs.Numbered.{lines_all, lines_more, told_size, was_number}
use Rattle.cell_listing.proofs.interval_listing.write_cells.Goals as goal

pub lines-preserved : goal.lines-preserved
lines-preserved c =
    let read = c.args.read.now in
    let ranges : List CellRange = c.args.ranges.now in
    let cells : List ListedCell = told_cells read.job in
    let line : ListedCell → List ℕ = interval_line read.job.described read.job.book.trees (outcome_at read.certificate read.extra (amounts_in c.args.cells.now)) ranges in
    let number = c.lines.number in
    let said = c.in_ok-fields.ensures.fields in
    let are = said.are in
    let start = bytes_written c.args.writer.now in
    let was = was_number 0 (cells_in read.job.book) (told_of read.job.book.marks) (map view_of_cell read.job.cells) number are.cell are.stands in
    let own : number ≡ are.cell.number = omega (arith, was.number) in
    let ends = c.ends_at-ends.ensures ∙ ap (λ (n : ℕ). end_fields (range_of ranges n)) own in
    let same : line_text c.as_slice.result.now ≡ line are.cell = ap line_text (c.as_slice.ensures ∙ said.fields_are ∙ ap₂ (λ (a b : List (List ℕ)). a ++ b) are.fields_are ends) in
    let after = c.in_ok-write_line.ensures.text ∙ ap (λ (one : List ℕ). option_map (λ text. text ++ one) (bytes_written c.lines.writer)) same in
    record {
      ready = c.in_ok-write_line.ensures.ready;
      next = c.place_behind-place.ensures;
      text = written-more (flat_map line (take number cells)) (line are.cell) (flat_map line (take (number + 1) cells)) start (bytes_written c.lines.writer) (bytes_written c.write_line.new.writer) (lines_more line cells number are.cell are.stands)
          c.lines.invariant.text after;
    }

pub returns-clause-text : goal.returns-clause-text
returns-clause-text c =
    let read = c.args.read.now in
    let cells : List ListedCell = told_cells read.job in
    let line : ListedCell → List ℕ = interval_line read.job.described read.job.book.trees (outcome_at read.certificate read.extra (amounts_in c.args.cells.now)) c.args.ranges.now in
    let number = c.lines.number in
    let end : length cells ≤ number = omega (arith, told_size read.job c.requires.ready.job, c.lines-test.false, c.cells-number-end.ensures.cells) in
    c.lines.invariant.text ∙ ap (λ (all : List ℕ). option_map (λ text. text ++ all) (bytes_written c.args.writer.now)) (lines_all line cells number end)
