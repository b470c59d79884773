-- How far guarding against attacks has come (own).
use Rattle.std.specs.Prelude.{◌≡◌, ℕ, ◌+◌, ◌<◌, pos, Bool, true, false, List, take, slice_get, All, Option, None, Some}
use Rattle.sdc_base.specs.declared.cell.Kind.TheVariants.{Primary}
use Rattle.sdc_base.specs.HiddenSets.{full_set, hide_cells}
use Rattle.sdc_base.specs.Signs.{AreSigns}
use Rattle.worlds.specs.declared.multipliers.Multipliers.{Multipliers}
use Rattle.worlds.specs.WorldFaults.{IsGivenWorld}
use Rattle.kept_questions.specs.declared.kept_answer.KeptAnswer.{KeptAnswer}
use Rattle.kept_questions.specs.declared.kept_answer.KeptAnswer.TheVariants.{Reaches, Stops}
use Rattle.interval_audit.specs.declared.answer.AskFault.{AskFault}
use Rattle.certificate.specs.declared.certificate.WorldLine.{WorldLine}
use Rattle.repair.specs.HidingOrder.{Case, protected_case, IsOfKind, breaks_at, coefficients_for, IsCheapest}
use Rattle.repair.specs.Attempts.{IsPermittedSet}
use Rattle.repair.specs.KeptWorlds.{shown_count}
use Rattle.repair.specs.LevelQuestions.{AreGiven, HasCause}
use Rattle.repair.specs.Repairs.{LastIsNotBehind}
use Rattle.attackers.specs.declared.attack.Attack.{Attack}
use Rattle.attackers.specs.declared.attack.UnguardedAttack.{UnguardedAttack}
use Rattle.certificate.specs.declared.extra.ExtraNeed.{ExtraNeed}
use Rattle.repair.specs.declared.progress.Progress.{Progress}
use Rattle.attackers.specs.declared.contributor_task.ContributorTask.{ContributorTask}
use Rattle.repair.specs.declared.step.Step.{Step}
use Rattle.repair.specs.declared.step.Step.TheVariants.{Served, Widened, Cannot}
use Rattle.attackers.specs.KnownCells.{with_known, without_known, target_of, Guards, GuardsBefore, serves, is_served}
use Rattle.attackers.specs.Extras.{subjects_of, Unguards, IsInTurn, EachExtra, IsForAttackAt}
use Rattle.attackers.specs.WholeGuards.{IsWholeGuard}

-- what is to be guarded
abbrev pub case_of : ContributorTask → Case
case_of task = protected_case task.system.now task.cells.now

-- Guards hold against attacks: their worlds are ones for the hidden set, they stand for primary cells, and against each
-- attack some of them serves; where the relations have signs they are in whole units.
pub record HoldGuards (c : Case) (soles : List (Option ℕ)) (flags : List Bool) (attacks : List Attack)
    (guards : List WorldLine) : Type 0 where
  pub are_worlds : All (λ line. IsGivenWorld c.system c.cells flags line.world) guards
  pub are_lines : All (λ line. IsOfKind c.cells line.cell Primary) guards
  pub served : All (λ attack. is_served c.cells soles attack guards ≡ true) attacks
  pub whole : (signs : List Bool) → AreSigns c.system.relations signs → All IsWholeGuard guards

-- the same of a task
abbrev pub AreGuardsOf : ContributorTask → List Bool → List Attack → List WorldLine → Type 0
AreGuardsOf task flags attacks guards = HoldGuards (case_of task) task.soles.now flags attacks guards

-- a hidden set of which a task may ask
abbrev pub IsReadySet : ContributorTask → List Bool → Type 0
IsReadySet task flags = IsPermittedSet (case_of task) flags

-- guards hold against the attacks before a place
abbrev pub AreHeldBefore : ContributorTask → ℕ → Progress WorldLine ExtraNeed → Type 0
AreHeldBefore task place progress =
    HoldGuards (case_of task) task.soles.now progress.hidden.flags (take place task.attacks.now) progress.tables

-- Hiding extra cells has come to a place from the first set: the hidden set is what they made of it, each is in turn, and
-- none is for an attack behind the place.
pub record IsExtended (c : Case) (soles : List (Option ℕ)) (prices : List ℕ) (attacks : List Attack)
    (first flags : List Bool) (extras : List ExtraNeed) (place : ℕ) : Type 0 where
  pub hidden_is : flags ≡ hide_cells first (subjects_of extras)
  pub each : EachExtra (IsInTurn c soles prices attacks) first extras
  pub onward : LastIsNotBehind (IsForAttackAt attacks) extras place

-- the same of a task
abbrev pub IsExtendedUpTo : ContributorTask → ℕ → List Bool → Progress WorldLine ExtraNeed → Type 0
IsExtendedUpTo task place first progress =
    IsExtended (case_of task) task.soles.now task.prices.now task.attacks.now first progress.hidden.flags
    progress.reasons place

-- from whatever set hiding extra cells had come to the place, it still has
abbrev pub IsExtensionProgress : ContributorTask → ℕ → Progress WorldLine ExtraNeed → Progress WorldLine ExtraNeed
    → Type 0
IsExtensionProgress task place before after =
    (first : List Bool) → IsExtendedUpTo task place first before → IsExtendedUpTo task place first after

-- what asking about an attack comes to: a world for the hidden set that serves against it, in whole units where the
-- relations have signs; or multipliers that refute it, as its question is answered
abbrev pub IsAnswerAgainst : Case → List (Option ℕ) → List Bool → Attack → KeptAnswer → Type 0
IsAnswerAgainst c soles flags attack (Reaches world) =
    IsGivenWorld c.system c.cells flags world × (serves c.cells soles attack world ≡ true)
    × ((signs : List Bool) → AreSigns c.system.relations signs → world.den ≡ pos 1)
IsAnswerAgainst c soles flags attack (Stops multipliers) = Unguards c soles flags attack multipliers
    × AreGiven c.system c.cells (without_known soles attack.row flags) (target_of attack) multipliers

-- no cell that the contributor of an attack doesn't know would break its multipliers
abbrev pub NoneBreaksAgainst : ContributorTask → List Bool → Attack → Multipliers → Type 0
NoneBreaksAgainst task flags attack multipliers =
    (number : ℕ) → breaks_at task.cells.now (with_known task.soles.now attack.row flags)
    (coefficients_for task.system.now (target_of attack) multipliers) number ≡ false

-- a cell is the cheapest of those that would
abbrev pub IsCheapestAgainst : ContributorTask → List Bool → Attack → Multipliers → ℕ → Type 0
IsCheapestAgainst task flags attack multipliers number =
    IsCheapest task.cells.now task.prices.now (with_known task.soles.now attack.row flags)
    (coefficients_for task.system.now (target_of attack) multipliers) number

-- the attack at a place, with multipliers that refute it for the hidden set, as its question is answered
pub record IsRefutedAt (c : Case) (soles : List (Option ℕ)) (attacks : List Attack) (flags : List Bool) (place : ℕ)
    (attack : Attack) (multipliers : Multipliers) : Type 0 where
  pub stands : slice_get attacks place ≡ Some attack
  pub before : GuardsBefore c soles flags attacks place
  pub refutes : Unguards c soles flags attack multipliers
  pub gives : AreGiven c.system c.cells (without_known soles attack.row flags) (target_of attack) multipliers

-- The full set doesn't guard against an attack: multipliers refute it for that set without what the contributor knows,
-- in whole units where the relations have signs; and the full set guards against all that stand before it.
pub record IsCannot (c : Case) (soles : List (Option ℕ)) (attacks : List Attack) (attack : Attack)
    (multipliers : Multipliers) : Type 0 where
  pub place : ℕ
  pub stands : slice_get attacks place ≡ Some attack
  pub before : GuardsBefore c soles (full_set c.cells) attacks place
  pub refutes : Unguards c soles (full_set c.cells) attack multipliers
  pub unguarded : ¬ Guards c soles (full_set c.cells) attack
  pub whole : (signs : List Bool) → AreSigns c.system.relations signs → multipliers.den ≡ pos 1

-- the same of what was found
abbrev pub IsUnguardedAttack : ContributorTask → UnguardedAttack → Type 0
IsUnguardedAttack task found =
    IsCannot (case_of task) task.soles.now task.attacks.now found.attack found.multipliers

-- what the attack at a place comes to: a guard serves; or an extra cell more; or the full set doesn't guard against it
abbrev pub IsStep : ContributorTask → ℕ → Progress WorldLine ExtraNeed → Progress WorldLine ExtraNeed
    → Step UnguardedAttack → Type 0
IsStep task place before after Served = AreHeldBefore task (place + 1) after
IsStep task place before after Widened =
    AreHeldBefore task place after × (shown_count after.hidden.flags < shown_count before.hidden.flags)
IsStep task place before after (Cannot found) = IsUnguardedAttack task found

-- guards hold against the attacks before a place, or the full set doesn't guard against one
abbrev pub AreHeldOr : ContributorTask → ℕ → Progress WorldLine ExtraNeed → Option UnguardedAttack → Type 0
AreHeldOr task place progress None = AreHeldBefore task place progress
AreHeldOr task place progress (Some found) = IsUnguardedAttack task found

-- A question about the attack at a place, asked of a hidden set without what its contributor knows: the set guards
-- against all attacks before it, and the fault has its cause in it.
pub record IsAsked (c : Case) (soles : List (Option ℕ)) (attacks : List Attack) (flags : List Bool) (limit : ℕ)
    (fault : AskFault) (row place : ℕ) : Type 0 where
  pub attack : Attack
  pub stands : slice_get attacks place ≡ Some attack
  pub by_row : attack.row ≡ row
  pub before : GuardsBefore c soles flags attacks place
  pub cause : HasCause c.system c.cells (without_known soles row flags) (target_of attack) limit fault

-- the same of a task
abbrev pub IsAskedOf : ContributorTask → List Bool → AskFault → ℕ → ℕ → Type 0
IsAskedOf task flags fault row place =
    IsAsked (case_of task) task.soles.now task.attacks.now flags task.limit fault row place

-- the question at some place has a fault, and hiding extra cells has come to it from the first set
pub record IsHalted (task : ContributorTask) (first : List Bool) (progress : Progress WorldLine ExtraNeed)
    (fault : AskFault) (row : ℕ) : Type 0 where
  pub place : ℕ
  pub asked : IsAskedOf task progress.hidden.flags fault row place
  pub is_extended : IsExtendedUpTo task place first progress
