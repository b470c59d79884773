use Rattle.plain_text.proofs.FewLines.{few_lines}
use Rattle.plain_text.proofs.line_reader.lines.Goals as goal

pub returns-clause-no_more_than_bytes : goal.returns-clause-no_more_than_bytes
returns-clause-no_more_than_bytes c = few_lines c.args.bytes.now
