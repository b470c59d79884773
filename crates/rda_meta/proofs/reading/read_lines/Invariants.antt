use Rattle.std.proofs.Common.{◌≡◌, ◌+◌, ◌≤◌, length}
use Rattle.sdc_base.specs.Lines.{lines}
use Rattle.rda_meta.specs.Metadata.{lines_say, no_lines}
use Rattle.rda_meta.proofs.reading.read_lines.Given as goal

abbrev pub invariant-each : goal.invariant-each
invariant-each l = record {
  said : lines_say l.reader.given l.so_far (lines l.reader.rest) ≡ lines_say 0 no_lines (lines l.bytes);
  count : l.reader.given + length (lines l.reader.rest) ≡ length (lines l.bytes);
  passed : l.so_far.passed_over ≤ l.reader.given;
}

abbrev pub decreases-each : goal.decreases-each
decreases-each l = length (lines l.reader.rest)
