use Rattle.std.proofs.Common.{◌≤ℤ◌, All, pos, take}
use Rattle.flow_worlds.specs.Circuits.{CanGo}
use Rattle.flow_worlds.proofs.going.least_room.Given as goal

abbrev pub invariant-steps : goal.invariant-steps
invariant-steps l = record {
  from_one : pos 1 ≤ℤ l.least;
  at_most : l.least ≤ℤ l.most;
  each : All (CanGo l.task.cells.now l.moves l.least) (take l.step-index l.steps);
}
