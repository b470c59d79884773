use Rattle.std.proofs.Common.{◌≡◌, ℕ, List, ◌+◌, ◌≤◌, ◌++◌, length, take, ap, ◌∙◌, option_map, arith}
use Rattle.sdc_base.specs.TableText.{line_text}
use Rattle.release_writer.specs.Lines.{bytes_written}
use Rattle.release_writer.proofs.BegunPlaces.{written-more}
use Rattle.cell_listing.specs.ListedCells.{told_cells}
use Rattle.cell_listing.specs.Listings.{cell_line, lines_of}
use Rattle.cell_listing.proofs.Numbered.{lines_all, lines_more, told_size}
use Rattle.cell_listing.proofs.listing.write_cells.Goals as goal

pub cells-preserved : goal.cells-preserved
cells-preserved c =
    let job = c.args.job.now in
    let described = job.described in
    let trees = job.book.trees in
    let number = c.cells.number in
    let are = c.in_ok-fields.ensures.fields in
    let start = bytes_written c.args.writer.now in
    let same : line_text c.as_slice.result.now ≡ cell_line described trees are.cell = ap line_text (c.as_slice.ensures ∙ are.fields_are) in
    let after = c.in_ok-write_line.ensures.text ∙ ap (λ (line : List ℕ). option_map (λ text. text ++ line) (bytes_written c.cells.writer)) same in
    record {
      ready = c.in_ok-write_line.ensures.ready;
      text = written-more (lines_of described trees (take number (told_cells job))) (cell_line described trees are.cell) (lines_of described trees (take (number + 1) (told_cells job))) start (bytes_written c.cells.writer) (bytes_written c.write_line.new.writer)
          (lines_more (cell_line described trees) (told_cells job) number are.cell are.stands) c.cells.invariant.text after;
    }

pub returns-clause-text : goal.returns-clause-text
returns-clause-text c =
    let job = c.args.job.now in
    let number = c.cells.number in
    let end : length (told_cells job) ≤ number = omega (arith, told_size job c.requires.ready, c.cells-test.false, c.cells-number-end.ensures.cells) in
    c.cells.invariant.text ∙ ap (λ (lines : List ℕ). option_map (λ text. text ++ lines) (bytes_written c.args.writer.now)) (lines_all (cell_line job.described job.book.trees) (told_cells job) number end)
