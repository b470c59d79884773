-- How far a hidden cell can go in whole worlds (handbook, feasibility interval; network flows; linear duality).
use Rattle.std.specs.Prelude.{◌≡◌, ℕ, Bool, List, All, ℤ, pos, ◌<ℤ◌}
use Rattle.sdc_base.specs.declared.cell.Cell.{Cell}
use Rattle.sdc_base.specs.declared.side.Side.{Side}
use Rattle.sdc_base.specs.declared.system.System.{System}
use Rattle.sdc_base.specs.Forms.{coefficient}
use Rattle.sdc_base.specs.Refutations.{bound_sum}
use Rattle.sdc_base.specs.Worlds.{amount_toward}
use Rattle.worlds.specs.NumberLists.{terms_of, number_given}
use Rattle.worlds.specs.WorldFaults.{IsGivenWorld}
use Rattle.worlds.specs.RefutationFaults.{IsGivenSum, terms_added}
use Rattle.worlds.specs.declared.multipliers.Multipliers.{Multipliers}
use Rattle.worlds.specs.declared.world.World.{World}
use Rattle.flow_worlds.specs.Cuts.{IsOne}
use Rattle.flow_worlds.specs.Steps.{is_up}
use Rattle.flow_worlds.specs.declared.task.Task.{Task}
use Rattle.flow_worlds.specs.declared.answer.FlowAnswer.{FlowAnswer}
use Rattle.flow_worlds.specs.declared.answer.FlowAnswer.TheVariants.{Reaches, Stops}

-- a world over the denominator 1 that takes the asked cell exactly so far to the side
pub record IsWholeWorldAt (system : System) (cells : List Cell) (flags : List Bool) (asked : ℕ) (side : Side)
    (amount : ℤ) (world : World) : Type 0 where
  pub is_world : IsGivenWorld system cells flags world
  pub whole : world.den ≡ pos 1
  pub exactly : amount_toward side (number_given (terms_of world.moves) asked) ≡ amount

-- multipliers of 1 or -1 over the denominator 1 whose bound sum is so much, with no number on the way wider than 128
-- bits
pub record AreWholeMultipliersAt (system : System) (cells : List Cell) (flags : List Bool) (asked : ℕ) (side : Side)
    (amount : ℤ) (multipliers : Multipliers) : Type 0 where
  pub whole : multipliers.den ≡ pos 1
  pub ones : All (λ m. IsOne m.1) multipliers.by_relation
  pub is_sum : IsGivenSum system cells flags asked side multipliers
  pub equal : bound_sum cells flags (coefficient (terms_added system asked side multipliers)) ≡ amount

-- The answer is right: a world at the target, or one at a best value below it, and multipliers whose bound sum is that
-- value.
abbrev pub IsFlowAnswer : System → List Cell → List Bool → ℕ → Side → ℤ → FlowAnswer → Type 0
IsFlowAnswer system cells flags asked side target (Reaches world) =
    IsWholeWorldAt system cells flags asked side target world
IsFlowAnswer system cells flags asked side target (Stops best world multipliers) =
    (best <ℤ target) × IsWholeWorldAt system cells flags asked side best world
    × AreWholeMultipliersAt system cells flags asked side best multipliers

-- the answer is right for a task
abbrev pub IsAnswerFor : Task → ℤ → FlowAnswer → Type 0
IsAnswerFor task target answer =
    (side : Side) → is_up side ≡ task.asked.up
    → IsFlowAnswer task.system.now task.cells.now task.flags.now task.asked.cell side target answer
