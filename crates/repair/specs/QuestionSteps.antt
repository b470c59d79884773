-- What one question, and all of them, come to on the way of a protection (own).
use Rattle.std.specs.Prelude.{◌≡◌, ℕ, ℤ, ◌+◌, ◌<◌, Bool, List, length, Option, None, Some}
use Rattle.sdc_base.specs.HiddenSets.{IsPermitted}
use Rattle.worlds.specs.declared.refuted.Refuted.{Refuted}
use Rattle.worlds.specs.declared.world.World.{World}
use Rattle.worlds.specs.ProtectFaults.{asked_of}
use Rattle.interval_audit.specs.declared.answer.AskFault.{AskFault}
use Rattle.repair.specs.declared.progress.Progress.{Progress}
use Rattle.repair.specs.declared.step.Step.{Step}
use Rattle.repair.specs.declared.step.Step.TheVariants.{Served, Widened, Cannot}
use Rattle.repair.specs.declared.task.Task.{Task}
use Rattle.repair.specs.declared.unprotected_cell.UnprotectedCell.{UnprotectedCell}
use Rattle.repair.specs.HidingOrder.{Case, NoneBreaks}
use Rattle.repair.specs.KeptWorlds.{AreServedBefore, IsRepaired, IsStopped, shown_count}
use Rattle.repair.specs.OnTheWay.{IsOfFirst, AreAnswers}
use Rattle.repair.specs.Stops.{IsQuestion}
use Rattle.repair.specs.Tasks.{case_of}

-- A protection is ready for a repair: the hidden set is permitted, and there are a flag of it and a number of the
-- scratch for each cell of the system.
pub record IsReadyForRepair (task : Task) (scratch : List ℤ) (progress : Progress World Refuted) : Type 0 where
  pub long : length scratch ≡ task.system.now.cells
  pub each : length progress.hidden.flags ≡ task.system.now.cells
  pub permitted : IsPermitted task.cells.now progress.hidden.flags

-- repairing has come to this place, from the planned set; the worlds are answers for sets on the way
pub record IsRepairedUpTo (task : Task) (place : ℕ) (planned : List Bool) (progress : Progress World Refuted)
    : Type 0 where
  pub is_repaired : IsRepaired (case_of task) task.prices.now planned progress.hidden.flags progress.reasons place
  pub answers : AreAnswers (case_of task) (IsOfFirst planned progress.reasons) (asked_of 0 task.cells.now)
      progress.tables

-- what was repaired stays repaired: from whatever set repairing had come to the place, it still has
abbrev pub IsRepairProgress : Task → ℕ → Progress World Refuted → Progress World Refuted → Type 0
IsRepairProgress task place before after =
    (planned : List Bool) → IsRepairedUpTo task place planned before → IsRepairedUpTo task place planned after

-- repairing has come to the end of all that is asked, from the planned set
abbrev pub IsRepairedForAll : Task → List Bool → Progress World Refuted → Type 0
IsRepairedForAll task planned progress = IsRepairedUpTo task (length (asked_of 0 task.cells.now)) planned progress

-- a cell that can't be protected to a side: its question stopped for the hidden set with multipliers that no cell would
-- break
pub record IsUnprotected (c : Case) (flags : List Bool) (found : UnprotectedCell) : Type 0 where
  pub place : ℕ
  pub stopped : IsStopped c flags place (found.cell, found.side) found.multipliers
  pub none_breaks : NoneBreaks c flags (found.cell, found.side) found.multipliers

-- what a question at a place comes to: a world more; or a hidden cell more; or that its cell can't be protected
abbrev pub IsStep : Case → ℕ → List Bool → List Bool → List World → Step UnprotectedCell → Type 0
IsStep c place before flags worlds Served = AreServedBefore c flags (place + 1) worlds
IsStep c place before flags worlds Widened =
    AreServedBefore c flags place worlds × (shown_count flags < shown_count before)
IsStep c place before flags worlds (Cannot found) = IsUnprotected c flags found

-- the questions before a place have their worlds, or a cell can't be protected
abbrev pub AreServedOrUnprotected : Case → ℕ → List Bool → List World → Option UnprotectedCell → Type 0
AreServedOrUnprotected c place flags worlds None = AreServedBefore c flags place worlds
AreServedOrUnprotected c place flags worlds (Some found) = IsUnprotected c flags found

-- a question at some place has a fault, and repairing from the planned set has come to it
pub record IsHalted (c : Case) (prices : List ℕ) (planned flags : List Bool) (repairs : List Refuted) (limit : ℕ)
    (fault : AskFault) : Type 0 where
  pub place : ℕ
  pub question : IsQuestion c flags limit fault place
  pub is_repaired : IsRepaired c prices planned flags repairs place
