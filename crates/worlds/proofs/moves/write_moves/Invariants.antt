use Rattle.std.proofs.Common.{◌≡◌, ℕ, length, take}
use Rattle.sdc_base.specs.Systems.{number_at}
use Rattle.worlds.specs.NumberLists.{terms_of, number_given}
use Rattle.worlds.proofs.moves.write_moves.Given as goal

abbrev pub invariant-loop-one : goal.invariant-loop-one
invariant-loop-one l = record {
  long : length l.numbers ≡ length l.fn.numbers;
  each : (cell : ℕ) → number_at l.numbers cell ≡ number_given (terms_of (take l.one-index l.moves)) cell;
}
