use Rattle.release_laws.proofs.RoundedAccepted.{rounding-is-accepted, written-rounding-is-accepted}
use Rattle.release_laws.proofs.RoundedTexts.{rounded-are-read-back}
use Rattle.release_laws.proofs.laws.rounded_is_accepted.Goals as goal

pub returns-clause-read_back : goal.returns-clause-read_back
returns-clause-read_back c = rounded-are-read-back

pub returns-clause-rounding : goal.returns-clause-rounding
returns-clause-rounding c = rounding-is-accepted

pub returns-clause-written : goal.returns-clause-written
returns-clause-written c = written-rounding-is-accepted
