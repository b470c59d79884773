use Rattle.flow_worlds.proofs.Circling.{IsLedBack}
use Rattle.flow_worlds.proofs.circuit.steps_to.Given as goal

abbrev pub invariant-steps : goal.invariant-steps
invariant-steps l = IsLedBack l.visits l.fn.place l.at l.steps.items

abbrev pub decreases-steps : goal.decreases-steps
decreases-steps l = l.at
