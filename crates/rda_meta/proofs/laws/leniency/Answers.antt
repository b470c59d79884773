use Rattle.plain_text.proofs.Joined.{read_again, read_with_returns, last_read}
use Rattle.rda_meta.proofs.LineEnds.{line_ends}
use Rattle.rda_meta.proofs.laws.leniency.Goals as goal

pub returns-clause-line_ends : goal.returns-clause-line_ends
returns-clause-line_ends c = line_ends read_again read_with_returns last_read
