use Rattle.std.proofs.Common.{◌≡◌, ◌≤◌, drop}
use Rattle.worlds.specs.NumberLists.{first_misplaced}
use Rattle.worlds.proofs.listed.misplaced_multiplier.Given as goal

abbrev pub invariant-loop-place : goal.invariant-loop-place
invariant-loop-place l = record {
  rest : first_misplaced l.size 0 0 l.multipliers ≡ first_misplaced l.size l.least l.place (drop l.place l.multipliers);
  few : l.place ≤ l.least;
  most : l.least ≤ l.size;
}
