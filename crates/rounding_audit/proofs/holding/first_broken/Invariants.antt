use Rattle.std.proofs.Common.{take}
use Rattle.sdc_base.specs.Systems.{HoldOn, number_at}
use Rattle.rounding_audit.proofs.holding.first_broken.Given as goal

abbrev pub invariant-relations : goal.invariant-relations
invariant-relations l = HoldOn (number_at l.values) (take l.number l.relations)
