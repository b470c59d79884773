use Rattle.std.proofs.Common.{◌≡◌, ◌++◌, take, option_map}
use Rattle.csv.specs.Writing.{default_writer, writer_setup, fields_written}
use Rattle.release_writer.specs.Lines.{bytes_written}
use Rattle.cell_listing.proofs.csv_line.write_line.Given as goal
use Rattle.release_writer.proofs.BegunLines.{begun_line}

abbrev pub invariant-fields : goal.invariant-fields
invariant-fields l = record {
  setup : writer_setup l.writer ≡ default_writer;
  fields : fields_written l.writer ≡ l.field-index;
  text : bytes_written l.writer ≡ option_map (λ text. text ++ begun_line (take l.field-index l.fields)) (bytes_written l.fn.writer);
}
