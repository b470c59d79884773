use Rattle.std.proofs.Common.{rules}
use Rattle.primary_rules.proofs.quotient.excess.Goals as goal

pub returns-then-amount-bound-clause-value : goal.returns-then-amount-bound-clause-value
returns-then-amount-bound-clause-value c = search rules
