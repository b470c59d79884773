-- Why a protection stopped, and what was done until then (own).
use Rattle.std.specs.Prelude.{◌≡◌, ℕ, Bool, List, []}
use Rattle.sdc_base.specs.declared.side.Side.{Side}
use Rattle.worlds.specs.declared.refuted.Refuted.{Refuted}
use Rattle.interval_audit.specs.declared.answer.AskFault.{AskFault}
use Rattle.interval_audit.specs.declared.answer.AskFault.TheVariants.{Memory}
use Rattle.repair.specs.declared.stopped.Stopped.{Stopped}
use Rattle.repair.specs.WantOfMemory.{MemoryOr}
use Rattle.repair.specs.LevelQuestions.{HasCause}
use Rattle.repair.specs.HidingOrder.{Case, is_free_at, hide_subjects, show_all, StandsAt, ProtectsBefore, ProtectsAll}
use Rattle.repair.specs.Repairs.{AreRepairs, LastIsNotBehind, IsOfQuestionAt}
use Rattle.repair.specs.TriedCells.{AreShownAgain}

-- a protection that stopped for want of memory
abbrev pub no_memory : Stopped
no_memory = record { fault = Memory; repairs = []; shown = [] }

-- A question of this protection, asked of the open set: it stands at a place of the order, the open set protects all
-- that is asked before it, and the fault has its cause in it.
pub record IsQuestion (c : Case) (flags : List Bool) (limit : ℕ) (fault : AskFault) (place : ℕ) : Type 0 where
  pub asked : ℕ × Side
  pub stands : StandsAt c.cells asked place
  pub before : ProtectsBefore c flags place
  pub cause : HasCause c.system c.cells flags asked limit fault

-- The free cells that were shown, from the set of all open cells: with the last of them put back every primary cell is
-- protected, and each other was needed when it was tried.
abbrev pub AreShown : Case → List Bool → List ℕ → Type 0
AreShown c larger shown = AreShownAgain (ProtectsAll c) (is_free_at c.cells) larger shown

-- A protection that began with this set stopped so: repairs justified and in order, cells shown from what was open
-- then, and a question of it that has a fault. Where no cell is shown yet, the question doesn't stand before that of
-- the last repair.
pub record IsStop (c : Case) (prices : List ℕ) (planned : List Bool) (limit : ℕ) (fault : AskFault)
    (repairs : List Refuted) (shown : List ℕ) : Type 0 where
  pub are_repairs : AreRepairs c prices planned repairs
  pub are_shown : AreShown c (hide_subjects planned repairs) shown
  pub place : ℕ
  pub question : IsQuestion c (show_all (hide_subjects planned repairs) shown) limit fault place
  pub onward : shown ≡ [] → LastIsNotBehind (IsOfQuestionAt c.cells) repairs place

-- why a protection stopped; want of memory has no cause, and leaves no lists
abbrev pub StopsFor : Case → List ℕ → List Bool → ℕ → AskFault → List Refuted → List ℕ → Type 0
StopsFor c prices planned limit fault repairs shown =
    MemoryOr fault ((repairs ≡ []) × (shown ≡ [])) (IsStop c prices planned limit fault repairs shown)

-- why a protection stopped, and what was done until then, as it tells
abbrev pub IsStopAsTold : Case → List ℕ → List Bool → ℕ → Stopped → Type 0
IsStopAsTold c prices planned limit stopped =
    StopsFor c prices planned limit stopped.fault stopped.repairs stopped.shown
