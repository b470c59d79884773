use Rattle.std.proofs.Common.{◌<◌, ◌≤ℤ◌, All, take, length}
use Rattle.rounding.specs.declared.steps.Step.{Step}
use Rattle.rounding.specs.Circuits.{room_of, step_at}
use Rattle.rounding.proofs.underway.tightest.Given as goal

abbrev pub invariant-places : goal.invariant-places
invariant-places l = record {
  inside : l.least < length l.steps;
  least : All (λ (s : Step). room_of l.task.base l.numbers (step_at l.steps l.least) ≤ℤ room_of l.task.base l.numbers s) (take l.place l.steps);
}
