use Rattle.flow_worlds.proofs.Weighing.{AreMultipliersBelow}
use Rattle.flow_worlds.proofs.cut.multipliers_of.Given as goal

abbrev pub invariant-relations : goal.invariant-relations
invariant-relations l = AreMultipliersBelow l.signs l.reached l.forward l.number l.by_relation.items
