use Rattle.std.proofs.Common.{◌≡◌, drop, pos}
use Rattle.sdc_base.specs.Systems.{number_at}
use Rattle.worlds.specs.RefutationFaults.{summed_from}
use Rattle.worlds.proofs.shares.sum_shares.Given as goal

abbrev pub invariant-loop-number : goal.invariant-loop-number
invariant-loop-number l = summed_from l.flags (number_at l.coefficients) 0 (pos 0) l.cells ≡ summed_from l.flags (number_at l.coefficients) l.number l.sum (drop l.number l.cells)
