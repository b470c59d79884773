use Rattle.release_laws.proofs.OneJudgement.{written-is-accepted}
use Rattle.release_laws.proofs.Speaking.{protection-is-accepted}
use Rattle.release_laws.proofs.laws.written_is_accepted.Goals as goal

pub returns-clause-protection : goal.returns-clause-protection
returns-clause-protection c = protection-is-accepted

pub returns-clause-written : goal.returns-clause-written
returns-clause-written c = written-is-accepted
