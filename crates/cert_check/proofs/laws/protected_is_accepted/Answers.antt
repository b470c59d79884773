use Rattle.cert_check.proofs.Written.{numbers_give_the_set}
use Rattle.cert_check.proofs.WrittenWhole.{protected_is_accepted}
use Rattle.cert_check.proofs.laws.protected_is_accepted.Goals as goal

pub returns-clause-accepted : goal.returns-clause-accepted
returns-clause-accepted c = protected_is_accepted

pub returns-clause-numbers : goal.returns-clause-numbers
returns-clause-numbers c = numbers_give_the_set
