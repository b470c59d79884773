use Rattle.std.proofs.Common.{◌≡◌, ◌++◌, ◌-◌, length, option_map}
use Rattle.sdc_base.specs.CutTrees.{is_within}
use Rattle.release_writer.specs.Lines.{IsReadyWriter, bytes_written}
use Rattle.release_writer.proofs.BegunPlaces.{lines_begun, next_tree}
use Rattle.release_writer.proofs.tables.+write_below.Given as goal

abbrev pub decreases-write_below : goal.decreases-write_below
decreases-write_below l = length l.page.now.table.now - length l.place.now

abbrev pub invariant-codes : goal.invariant-codes
invariant-codes l = record {
  ready : IsReadyWriter l.writer;
  text : bytes_written l.writer ≡ option_map (λ text. text ++ lines_begun l.page.book.now l.page.table.now l.page.decimals l.page.shown l.place (is_within (next_tree l.page.book.now.trees l.page.table.now l.place)) l.code) (bytes_written l.fn.writer);
}
