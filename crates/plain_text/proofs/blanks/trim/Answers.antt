use Rattle.plain_text.proofs.Trimmed.{trimmed}
use Rattle.plain_text.proofs.blanks.trim.Goals as goal

pub returns-clause-blanks : goal.returns-clause-blanks
returns-clause-blanks c = rw (c.without_back.ensures.text, c.without_front.ensures.text) (trimmed c.args.bytes.now)
