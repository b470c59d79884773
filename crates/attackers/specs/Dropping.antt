-- Extra cells that are tried as shown, one after another (own).
use Rattle.std.specs.Prelude.{◌≡◌, ℕ, ◌+◌, ◌==◌, not, Bool, List, ◌++◌, filter, take, slice_get, Option, None, Some}
use Rattle.std.specs.List.{list_any}
use Rattle.sdc_base.specs.HiddenSets.{is_hidden, IsPermitted}
use Rattle.interval_audit.specs.declared.answer.AskFault.{AskFault}
use Rattle.certificate.specs.declared.certificate.WorldLine.{WorldLine}
use Rattle.repair.specs.HidingOrder.{Case, IsSubset}
use Rattle.repair.specs.LevelQuestions.{AreGiven}
use Rattle.repair.specs.TriedCells.{is_open, open_cells, AreShownAgain, StopsTrying, AreTried}
use Rattle.repair.specs.WantOfMemory.{UnlessMemory}
use Rattle.attackers.specs.declared.attack.Attack.{Attack}
use Rattle.certificate.specs.declared.extra.ExtraNeed.{ExtraNeed}
use Rattle.repair.specs.declared.progress.Progress.{Progress}
use Rattle.attackers.specs.declared.contributor_task.ContributorTask.{ContributorTask}
use Rattle.attackers.specs.declared.trial.Trial.{Trial}
use Rattle.attackers.specs.declared.trial.Trial.TheVariants.{Renewed, Refused}
use Rattle.repair.specs.declared.trials.Trials.{Trials}
use Rattle.attackers.specs.KnownCells.{without_known, target_of, GuardsAll, GuardsBefore}
use Rattle.attackers.specs.Extras.{attack_of, Unguards}
use Rattle.attackers.specs.ContributorTasks.{case_of, HoldGuards, AreGuardsOf, IsReadySet, IsAsked}

-- a guard's world doesn't move the cell
abbrev pub stays : ℕ → WorldLine → Bool
stays cell line = not (list_any (λ one. one.cell == cell) line.world.moves)

-- the guards that are left where a cell is shown, and new ones
abbrev pub renewed_guards : ℕ → List WorldLine → List WorldLine → List WorldLine
renewed_guards cell guards news = filter (stays cell) guards ++ news

-- a cell that the first set doesn't hide may be shown
abbrev pub may_drop : List Bool → ℕ → Bool
may_drop first cell = not (is_hidden first cell)

-- the cell is hidden beside the first set
abbrev pub is_beside : List Bool → List Bool → ℕ → Bool
is_beside first flags cell = is_open (may_drop first) flags cell

-- the cells below a number that are hidden beside the first set, ascending
abbrev pub cells_beside : List Bool → List Bool → ℕ → List ℕ
cells_beside first flags n = open_cells (may_drop first) flags n

-- Extra cells may be tried as shown: the first set is permitted, the task may ask of the hidden set, and guards hold
-- against all attacks.
pub record IsReadyToTry (task : ContributorTask) (first : List Bool) (progress : Progress WorldLine ExtraNeed)
    : Type 0 where
  pub begins_permitted : IsPermitted task.cells.now first
  pub set : IsReadySet task progress.hidden.flags
  pub holds : AreGuardsOf task progress.hidden.flags task.attacks.now progress.tables

-- multipliers refute that a hidden set guards against the attack that a need names, as its question is answered; it is
-- the first of these attacks that the set doesn't guard against
pub record IsNeedFor (c : Case) (soles : List (Option ℕ)) (attacks : List Attack) (flags : List Bool) (need : ExtraNeed)
    : Type 0 where
  pub place : ℕ
  pub stands : slice_get attacks place ≡ Some (attack_of need)
  pub before : GuardsBefore c soles flags attacks place
  pub refutes : Unguards c soles flags (attack_of need) need.multipliers
  pub gives : AreGiven c.system c.cells (without_known soles need.row flags) (target_of (attack_of need))
      need.multipliers

-- what one attack comes to while a cell is tried: guards hold against one attack more, or multipliers refute it
abbrev pub IsRenewal : ContributorTask → List Bool → ℕ → List WorldLine → ℕ → List WorldLine → Option ExtraNeed → Type 0
IsRenewal task flags cell guards place news None =
    HoldGuards (case_of task) task.soles.now flags (take (place + 1) task.attacks.now)
    (renewed_guards cell guards news)
IsRenewal task flags cell guards place news (Some need) =
    (need.subject ≡ cell) × IsNeedFor (case_of task) task.soles.now task.attacks.now flags need

-- what trying to show a cell comes to: guards that hold against all attacks, or a refutation
abbrev pub IsTrial : ContributorTask → List Bool → ℕ → List WorldLine → Trial → Type 0
IsTrial task flags cell guards (Renewed news) =
    HoldGuards (case_of task) task.soles.now flags task.attacks.now (renewed_guards cell guards news)
IsTrial task flags cell guards (Refused need) =
    (need.subject ≡ cell) × IsNeedFor (case_of task) task.soles.now task.attacks.now flags need

-- a question about some attack has a fault
abbrev pub HasFault : Case → List (Option ℕ) → List Attack → List Bool → ℕ → AskFault → ℕ → Type 0
HasFault c soles attacks flags limit fault row = (place : ℕ) × IsAsked c soles attacks flags limit fault row place

-- the same of a task
abbrev pub HasFaultOf : ContributorTask → List Bool → AskFault → ℕ → Type 0
HasFaultOf task flags fault row =
    HasFault (case_of task) task.soles.now task.attacks.now flags task.limit fault row

-- The extra cells that were dropped, from the set of all open cells: with the last of them put back the set guards
-- against all attacks, and each other was needed when it was tried.
abbrev pub AreDropped : Case → List (Option ℕ) → List Attack → List Bool → List Bool → List ℕ → Type 0
AreDropped c soles attacks first larger dropped =
    AreShownAgain (λ flags. GuardsAll c soles flags attacks) (may_drop first) larger dropped

-- The extra cells below a number have been tried, from the set of all open cells on: the set that is left guards against
-- all attacks, and each extra cell that is left has its need, whose multipliers refute for the set when it was tried.
abbrev pub IsTried : Case → List (Option ℕ) → List Attack → List Bool → List Bool → ℕ → List Bool → List ExtraNeed
    → List ℕ → Type 0
IsTried c soles attacks first larger n flags needs dropped =
    AreTried (λ need. need.subject) (IsNeedFor c soles attacks) (λ set. GuardsAll c soles set attacks) (may_drop first)
    larger n flags needs dropped

-- So far has a task come with trying extra cells, by its progress and its findings: the tables that are kept are guards
-- that hold against all attacks, and the first set stays hidden.
pub record HasTried (task : ContributorTask) (first larger : List Bool) (n : ℕ)
    (progress : Progress WorldLine ExtraNeed) (found : Trials ExtraNeed) : Type 0 where
  pub are_tried : IsTried (case_of task) task.soles.now task.attacks.now first larger n progress.hidden.flags
      found.needs found.shown
  pub holds : AreGuardsOf task progress.hidden.flags task.attacks.now progress.tables
  pub first_stays : IsSubset first progress.hidden.flags

-- a question has a fault while a cell, the last of those dropped, is being tried
abbrev pub IsTryStop : Case → List (Option ℕ) → List Attack → List Bool → List Bool → ℕ → AskFault → ℕ → List ℕ
    → Type 0
IsTryStop c soles attacks first larger limit fault row dropped =
    StopsTrying (λ flags. GuardsAll c soles flags attacks) (may_drop first)
    (λ set. HasFault c soles attacks set limit fault row) larger dropped

-- the same, but nothing under want of memory
abbrev pub TriesStopFor : ContributorTask → List Bool → List Bool → AskFault → ℕ → List ℕ → Type 0
TriesStopFor task first larger fault row dropped =
    UnlessMemory fault
    (IsTryStop (case_of task) task.soles.now task.attacks.now first larger task.limit fault row dropped)

-- from whatever set the extra cells below a number had been tried, those up to it have been
abbrev pub IsCellTrial : ContributorTask → List Bool → ℕ → Progress WorldLine ExtraNeed → Trials ExtraNeed
    → Progress WorldLine ExtraNeed → Trials ExtraNeed → Type 0
IsCellTrial task first cell before found after later =
    (larger : List Bool) → HasTried task first larger cell before found
    → HasTried task first larger (cell + 1) after later

-- from whatever set the extra cells below a number had been tried, trying stops with the fault
abbrev pub IsCellTrialStop : ContributorTask → List Bool → ℕ → Progress WorldLine ExtraNeed → Trials ExtraNeed
    → AskFault → ℕ → List ℕ → Type 0
IsCellTrialStop task first cell before found fault row dropped =
    (larger : List Bool) → HasTried task first larger cell before found
    → TriesStopFor task first larger fault row dropped
