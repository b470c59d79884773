use Rattle.std.proofs.Common.{◌≡◌, drop}
use Rattle.sdc_base.specs.Systems.{number_at}
use Rattle.cert_check.specs.RoundedRelease.{first_unrounded}
use Rattle.cert_check.proofs.rounded.first_unrounded.Given as goal

abbrev pub invariant-loop-number : goal.invariant-loop-number
invariant-loop-number l = first_unrounded l.base (number_at l.values) 0 l.cells ≡ first_unrounded l.base (number_at l.values) l.number (drop l.number l.cells)
