use Rattle.std.proofs.Common.{sym}
use Rattle.certificate.proofs.ExtraSteps.{heading_by_head}
use Rattle.certificate.proofs.reader.has_heading.Goals as goal

pub returns : goal.returns
returns c = rw (c.is_word.ensures, c.cut_at.ensures.front) (sym (heading_by_head c.args.heading.now c.args.bytes.now))
