use Rattle.std.proofs.Common.{rules}
use Rattle.certificate.proofs.ExtraSteps.{heading_strange}
use Rattle.certificate.proofs.reader.behind_heading.Goals as goal

pub returns-then-not-has_heading : goal.returns-then-not-has_heading
returns-then-not-has_heading c = heading_strange c.args.heading.now c.args.bytes.now (search rules) (search rules)
