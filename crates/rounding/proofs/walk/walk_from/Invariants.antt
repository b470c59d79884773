use Rattle.std.proofs.Common.{◌-◌, length}
use Rattle.signed_network.specs.Arcs.{arc_at}
use Rattle.rounding.proofs.Walking.{IsOnTheWay}
use Rattle.rounding.proofs.walk.walk_from.Given as goal

abbrev pub invariant-steps : goal.invariant-steps
invariant-steps l = IsOnTheWay l.network.arcs.items l.task.base l.numbers (arc_at l.network.arcs.items l.cell).from l.steps.items l.step

abbrev pub decreases-steps : goal.decreases-steps
decreases-steps l = length l.network.arcs.items - length l.steps.items
