use Rattle.sdc_base.specs.Systems.{number_at}
use Rattle.repair.proofs.Choosing.{IsBestBelow}
use Rattle.repair.proofs.cheapest.find_cheapest.Given as goal

abbrev pub invariant-loop-number : goal.invariant-loop-number
invariant-loop-number l = IsBestBelow l.cells l.prices l.flags (number_at l.counts) l.number l.best
