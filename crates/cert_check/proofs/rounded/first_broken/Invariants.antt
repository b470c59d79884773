use Rattle.std.proofs.Common.{◌≡◌, drop}
use Rattle.sdc_base.specs.Systems.{number_at}
use Rattle.cert_check.specs.RoundedRelease.{first_broken}
use Rattle.cert_check.proofs.rounded.first_broken.Given as goal

abbrev pub invariant-loop-number : goal.invariant-loop-number
invariant-loop-number l = first_broken (number_at l.values) 0 l.relations ≡ first_broken (number_at l.values) l.number (drop l.number l.relations)
