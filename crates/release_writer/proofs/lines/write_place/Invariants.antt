use Rattle.std.proofs.Common.{◌≡◌, ◌++◌, take, option_map}
use Rattle.csv.specs.Writing.{default_writer, writer_setup, fields_written}
use Rattle.sdc_base.specs.Cells.{trees_of}
use Rattle.sdc_base.specs.TableText.{codes_of_place}
use Rattle.release_writer.specs.Lines.{bytes_written}
use Rattle.release_writer.proofs.lines.write_place.Given as goal
use Rattle.release_writer.proofs.BegunLines.{begun_line}

abbrev pub invariant-codes : goal.invariant-codes
invariant-codes l = record {
  setup : writer_setup l.writer ≡ default_writer;
  fields : fields_written l.writer ≡ l.k;
  text : bytes_written l.writer ≡ option_map (λ text. text ++ begun_line (codes_of_place (trees_of l.book.trees (take l.k l.table)) (take l.k l.place))) (bytes_written l.fn.writer);
}
