use Rattle.std.proofs.Common.{◌≡◌, ℕ, take}
use Rattle.sdc_base.specs.Forms.{coefficient}
use Rattle.sdc_base.specs.Systems.{number_at}
use Rattle.signed_network.specs.Balances.{numbers_after_turns}
use Rattle.rounding.specs.Circuits.{turns_of}
use Rattle.rounding.proofs.Moving.{AreNearRange}
use Rattle.rounding.proofs.underway.move_cells.Given as goal

abbrev pub invariant-steps : goal.invariant-steps
invariant-steps l = record {
  is : (cell : ℕ) → number_at l.numbers cell ≡ numbers_after_turns l.by (number_at l.fn.numbers) (coefficient (turns_of (take l.step-index l.steps))) cell;
  near : AreNearRange l.numbers l.step-index;
}
