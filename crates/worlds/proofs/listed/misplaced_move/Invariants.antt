use Rattle.std.proofs.Common.{◌≡◌, ◌≤◌, drop}
use Rattle.worlds.specs.NumberLists.{first_misplaced, terms_of}
use Rattle.worlds.proofs.listed.misplaced_move.Given as goal

abbrev pub invariant-loop-place : goal.invariant-loop-place
invariant-loop-place l = record {
  rest : first_misplaced l.size 0 0 (terms_of l.moves) ≡ first_misplaced l.size l.least l.place (terms_of (drop l.place l.moves));
  few : l.place ≤ l.least;
  most : l.least ≤ l.size;
}
