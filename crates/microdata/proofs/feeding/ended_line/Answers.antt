use Rattle.microdata.proofs.FeedLines.{no-end, first-end}
use Rattle.microdata.proofs.feeding.ended_line.Goals as goal

pub returns-then-line-bytes-clause-none : goal.returns-then-line-bytes-clause-none
returns-then-line-bytes-clause-none c = no-end c.args.bytes.now c.cut_at.result.0.now c.cut_at.ensures.front c.if-line-bytes.true

pub returns-clause-plain : goal.returns-clause-plain
returns-clause-plain c = (first-end c.args.bytes.now c.cut_at.result.0.now c.cut_at.result.1.now c.cut_at.ensures.front c.cut_at.ensures.rest c.if-line-bytes.false).0

pub returns-clause-cut_behind_line : goal.returns-clause-cut_behind_line
returns-clause-cut_behind_line c = (first-end c.args.bytes.now c.cut_at.result.0.now c.cut_at.result.1.now c.cut_at.ensures.front c.cut_at.ensures.rest c.if-line-bytes.false).1
