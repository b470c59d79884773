use Rattle.std.proofs.Common.{◌≡◌, ◌++◌, ◌<◌, true, length, slice_index_or, [], take, option_map}
use Rattle.csv.specs.Writing.{default_writer, writer_setup, fields_written, has_written}
use Rattle.release_writer.specs.Lines.{bytes_written}
use Rattle.release_writer.proofs.lines.write_names.Given as goal
use Rattle.release_writer.proofs.BegunLines.{begun_line}

abbrev pub invariant-names : goal.invariant-names
invariant-names l = record {
  setup : writer_setup l.writer ≡ default_writer;
  fields : fields_written l.writer ≡ l.name-index;
  shown : l.name-index ≡ 1 → 0 < length (slice_index_or l.names 0 []) → has_written l.writer ≡ true;
  text : bytes_written l.writer ≡ option_map (λ text. text ++ begun_line (take l.name-index l.names)) (bytes_written l.fn.writer);
}
