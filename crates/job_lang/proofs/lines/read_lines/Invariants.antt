use Rattle.std.proofs.Common.{◌≡◌, ◌+◌, length}
use Rattle.sdc_base.specs.Lines.{lines}
use Rattle.job_lang.specs.Statements.{lines_say, empty_draft}
use Rattle.job_lang.proofs.lines.read_lines.Given as goal

abbrev pub invariant-each : goal.invariant-each
invariant-each l = record {
  said : lines_say l.reader.given l.draft (lines l.reader.rest) ≡ lines_say 0 empty_draft (lines l.bytes);
  count : l.reader.given + length (lines l.reader.rest) ≡ length (lines l.bytes);
}

abbrev pub decreases-each : goal.decreases-each
decreases-each l = length (lines l.reader.rest)
