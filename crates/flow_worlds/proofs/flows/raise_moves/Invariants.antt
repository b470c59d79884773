use Rattle.std.proofs.Common.{◌≤ℤ◌, ◌-ℤ◌, pos}
use Rattle.flow_worlds.specs.Flows.{IsFlowOf}
use Rattle.flow_worlds.proofs.Answering.{natural}
use Rattle.flow_worlds.proofs.flows.raise_moves.Given as goal

abbrev pub invariant-rounds : goal.invariant-rounds
invariant-rounds l = record {
  flow : IsFlowOf l.task l.amount l.moves;
  from_zero : pos 0 ≤ℤ l.amount;
  at_most : l.amount ≤ℤ l.target;
}

abbrev pub decreases-rounds : goal.decreases-rounds
decreases-rounds l = natural (l.target -ℤ l.amount)
