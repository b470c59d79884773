use Rattle.release_laws.proofs.GuardedAccepted.{guarding-is-accepted, guards-in-one-way}
use Rattle.release_laws.proofs.laws.guarded_is_accepted.Goals as goal

pub returns-clause-written : goal.returns-clause-written
returns-clause-written c = guarding-is-accepted

pub returns-clause-one_way : goal.returns-clause-one_way
returns-clause-one_way c = guards-in-one-way
