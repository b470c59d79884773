use Rattle.std.proofs.Common.{◌≡◌, ℕ, List, ◌+◌, ◌≤◌, ◌++◌, length, take, flat_map, ap, ◌∙◌, option_map, arith}
use Rattle.sdc_base.specs.TableText.{line_text}
use Rattle.release_writer.specs.Lines.{bytes_written}
use Rattle.release_writer.proofs.BegunPlaces.{written-more}
use Rattle.cell_listing.specs.ListedCells.{ListedCell, told_cells}
use Rattle.cell_listing.specs.ReleasedCells.{amounts_in}
use Rattle.cell_listing.specs.ReleasedListings.{outcome_at, released_line}
use Rattle.cell_listing.proofs.Numbered.{lines_all, lines_more, told_size}
use Rattle.cell_listing.proofs.released_listing.write_cells.Goals as goal

pub lines-preserved : goal.lines-preserved
lines-preserved c =
    let read = c.args.read.now in
    let cells : List ListedCell = told_cells read.job in
    let line : ListedCell → List ℕ = released_line read.job.described read.job.book.trees (outcome_at read.certificate read.extra (amounts_in c.args.cells.now)) in
    let number = c.lines.number in
    let are = c.in_ok-fields.ensures.fields in
    let start = bytes_written c.args.writer.now in
    let same : line_text c.as_slice.result.now ≡ line are.cell = ap line_text (c.as_slice.ensures ∙ are.fields_are) in
    let after = c.in_ok-write_line.ensures.text ∙ ap (λ (one : List ℕ). option_map (λ text. text ++ one) (bytes_written c.lines.writer)) same in
    record {
      ready = c.in_ok-write_line.ensures.ready;
      text = written-more (flat_map line (take number cells)) (line are.cell) (flat_map line (take (number + 1) cells)) start (bytes_written c.lines.writer) (bytes_written c.write_line.new.writer) (lines_more line cells number are.cell are.stands)
          c.lines.invariant.text after;
    }

pub returns-clause-text : goal.returns-clause-text
returns-clause-text c =
    let read = c.args.read.now in
    let cells : List ListedCell = told_cells read.job in
    let line : ListedCell → List ℕ = released_line read.job.described read.job.book.trees (outcome_at read.certificate read.extra (amounts_in c.args.cells.now)) in
    let number = c.lines.number in
    let end : length cells ≤ number = omega (arith, told_size read.job c.requires.ready.job, c.lines-test.false, c.cells-number-end.ensures.cells) in
    c.lines.invariant.text ∙ ap (λ (all : List ℕ). option_map (λ text. text ++ all) (bytes_written c.args.writer.now)) (lines_all line cells number end)
