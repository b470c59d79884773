use Rattle.std.proofs.Common.{◌≡◌, drop}
use Rattle.cert_check.specs.OutsidePlan.{first_outside}
use Rattle.cert_check.proofs.outside.first_outside.Given as goal

abbrev pub invariant-loop-number : goal.invariant-loop-number
invariant-loop-number l = first_outside l.larger 0 l.flags ≡ first_outside l.larger l.number (drop l.number l.flags)
