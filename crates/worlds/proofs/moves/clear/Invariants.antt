use Rattle.std.proofs.Common.{◌≡◌, ◌<◌, ℕ, length, pos}
use Rattle.sdc_base.specs.Systems.{number_at}
use Rattle.worlds.proofs.moves.clear.Given as goal

abbrev pub invariant-cells : goal.invariant-cells
invariant-cells l = record {
  long : length l.numbers ≡ length l.fn.numbers;
  none : (cell : ℕ) → cell < l.cell → number_at l.numbers cell ≡ pos 0;
}
