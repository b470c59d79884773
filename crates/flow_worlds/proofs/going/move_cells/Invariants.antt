use Rattle.std.proofs.Common.{◌≡◌, ℕ, take}
use Rattle.sdc_base.specs.Forms.{coefficient}
use Rattle.sdc_base.specs.Systems.{number_at}
use Rattle.flow_worlds.specs.Steps.{turns_of}
use Rattle.signed_network.specs.Balances.{numbers_after_turns}
use Rattle.flow_worlds.proofs.going.move_cells.Given as goal

abbrev pub invariant-steps : goal.invariant-steps
invariant-steps l = (cell : ℕ) → number_at l.moves cell ≡ numbers_after_turns l.by (number_at l.fn.moves) (coefficient (turns_of (take l.step-index l.steps))) cell
