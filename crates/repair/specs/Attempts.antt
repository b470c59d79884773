-- Attempts to show hidden cells, one after another, and what they keep (own).
use Rattle.std.specs.Prelude.{◌≡◌, ℕ, ◌+◌, Bool, List, [], length, Option}
use Rattle.sdc_base.specs.HiddenSets.{IsPermitted}
use Rattle.worlds.specs.ProtectFaults.{asked_of}
use Rattle.worlds.specs.declared.refuted.Refuted.{Refuted}
use Rattle.worlds.specs.declared.world.World.{World}
use Rattle.interval_audit.specs.declared.answer.AskFault.{AskFault}
use Rattle.repair.specs.declared.progress.Progress.{Progress}
use Rattle.repair.specs.declared.task.Task.{Task}
use Rattle.repair.specs.declared.trial.ReusableTable.{ReusableTable}
use Rattle.repair.specs.declared.trying.Findings.{Findings}
use Rattle.repair.specs.HidingOrder.{Case}
use Rattle.repair.specs.KeptWorlds.{AreServed}
use Rattle.repair.specs.OnTheWay.{IsOfTrial}
use Rattle.repair.specs.QuestionSteps.{IsRepairedForAll}
use Rattle.repair.specs.CellTrials.{AreKept, AreReusableTables, AreLast, AreTrialAnswers, AnswerOnWay, AnswerTrials, IsTried, HasTried, TriesStopFor}
use Rattle.repair.specs.Tasks.{case_of}

-- a hidden set of which may be asked: it is permitted, and there is a flag of it for each cell of the system
pub record IsPermittedSet (c : Case) (flags : List Bool) : Type 0 where
  pub each : length flags ≡ c.system.cells
  pub permitted : IsPermitted c.cells flags

-- A hidden set that serves all that is asked: it is permitted, there is a flag of it for each cell of the system, and
-- each question has its world.
pub record IsServedSet (c : Case) (flags : List Bool) (worlds : List World) : Type 0 where
  pub each : length flags ≡ c.system.cells
  pub permitted : IsPermitted c.cells flags
  pub served : AreServed c flags (asked_of 0 c.cells) worlds

-- A hidden set with which a cell may be tried: it is permitted, there is a flag of it for each cell of the system, and
-- each question has a world that serves it for some hidden set.
pub record IsTriedSet (c : Case) (flags : List Bool) (worlds : List World) : Type 0 where
  pub each : length flags ≡ c.system.cells
  pub permitted : IsPermitted c.cells flags
  pub kept : AreKept c (asked_of 0 c.cells) worlds

-- nothing is found of the cells yet
pub record IsUntried (task : Task) (tried : Findings) : Type 0 where
  pub no_needs : tried.trials.needs ≡ []
  pub none_shown : tried.trials.shown ≡ []
  pub no_spares : tried.reusable.items ≡ []
  pub last : AreLast (case_of task) tried.last.items

-- what trials have at hand: the worlds that are kept, the spare ones and the last ones, each of which served its question
-- for some hidden set
pub record AreAtHand (task : Task) (worlds : List World) (spare : List ReusableTable)
    (earlier : List (Option World)) : Type 0 where
  pub kept : AreKept (case_of task) (asked_of 0 task.cells.now) worlds
  pub reusable : AreReusableTables (case_of task) spare
  pub last : AreLast (case_of task) earlier

-- a protection is ready to try a cell, with the worlds that are kept, the spare ones and the last ones
pub record IsReadyToTry (task : Task) (progress : Progress World Refuted) (tried : Findings) : Type 0 where
  pub set : IsTriedSet (case_of task) progress.hidden.flags progress.tables
  pub reusable : AreReusableTables (case_of task) tried.reusable.items
  pub last : AreLast (case_of task) tried.last.items

-- from whatever set the cells below a number had been tried, those up to it have been
abbrev pub IsCellTrial : Task → ℕ → Progress World Refuted → Findings → Progress World Refuted → Findings → Type 0
IsCellTrial task cell before tried after found =
    (larger : List Bool) → HasTried task larger cell before tried → HasTried task larger (cell + 1) after found

-- from whatever set the cells below a number had been tried, trying stops with the fault
abbrev pub IsCellTrialStop : Task → ℕ → Progress World Refuted → Findings → AskFault → List ℕ → Type 0
IsCellTrialStop task cell before tried fault shown =
    (larger : List Bool) → HasTried task larger cell before tried
    → TriesStopFor (case_of task) larger task.limit fault shown

-- all cells have been tried, from this set on
abbrev pub HasTriedAll : Task → List Bool → Progress World Refuted → Findings → Type 0
HasTriedAll task larger progress tried =
    IsTried (case_of task) larger (length task.cells.now) progress.hidden.flags tried.trials.needs tried.trials.shown

-- where spare worlds are answers of trials of the cells below a number, the last of them with this set, the later ones
-- are too
abbrev pub StayTrialAnswers : Case → ℕ → List Bool → List ReusableTable → List ReusableTable → Type 0
StayTrialAnswers c n flags reusable later =
    (larger : List Bool) → IsOfTrial c larger n flags flags → AreTrialAnswers c larger n flags reusable
    → AreTrialAnswers c larger n flags later

-- where worlds are answers for sets on the way to these flags, the later ones are too
abbrev pub StayOnWay : Task → List Bool → List World → List World → Type 0
StayOnWay task flags worlds later =
    (planned : List Bool) (repairs : List Refuted) → AnswerOnWay task planned repairs flags worlds
    → AnswerOnWay task planned repairs flags later

-- the same, where spare worlds are answers of trials on that way
abbrev pub StayOnWayWith : Task → List Bool → List ReusableTable → List World → List World → Type 0
StayOnWayWith task flags reusable worlds later =
    (planned : List Bool) (repairs : List Refuted) → AnswerOnWay task planned repairs flags worlds
    → AnswerTrials task planned repairs flags reusable → AnswerOnWay task planned repairs flags later

-- where a protection has repaired for all that is asked, its worlds are answers for sets on the way to the later set
abbrev pub KeepsAnswers : Task → Progress World Refuted → Progress World Refuted → Type 0
KeepsAnswers task before after =
    (planned : List Bool) → IsRepairedForAll task planned before
    → AnswerOnWay task planned before.reasons after.hidden.flags after.tables
