-- Hidden cells that aren't primary, tried as shown, and how far this has come (own).
use Rattle.std.specs.Prelude.{◌≡◌, ℕ, ◌&&◌, ◌||◌, not, Bool, false, List, [], ◌∷◌, ◌++◌, length, nat_lt, slice_get, slice_set, All, Option, None, Some, ◌*ℤ◌, int_le, if◌then◌else◌}
use Rattle.std.specs.List.{list_all, list_any}
use Rattle.std.specs.Option.{option_map_or}
use Rattle.sdc_base.specs.declared.cell.Cell.{Cell}
use Rattle.sdc_base.specs.declared.cell.Kind.TheVariants.{Primary}
use Rattle.sdc_base.specs.declared.side.Side.{Side}
use Rattle.sdc_base.specs.HiddenSets.{is_hidden}
use Rattle.sdc_base.specs.Worlds.{level, amount_toward}
use Rattle.worlds.specs.declared.refuted.Refuted.{Refuted}
use Rattle.worlds.specs.declared.world.World.{World}
use Rattle.worlds.specs.NumberLists.{terms_of, number_given}
use Rattle.worlds.specs.RefutationFaults.{IsGivenRefutation}
use Rattle.interval_audit.specs.declared.answer.AskFault.{AskFault}
use Rattle.repair.specs.LevelQuestions.{AreGiven, IsGiven}
use Rattle.repair.specs.OnTheWay.{IsOfTrial, IsOnWay, AreAnswers}
use Rattle.worlds.specs.ProtectFaults.{asked_of}
use Rattle.repair.specs.declared.progress.Progress.{Progress}
use Rattle.repair.specs.declared.task.Task.{Task}
use Rattle.repair.specs.declared.trying.Findings.{Findings}
use Rattle.repair.specs.declared.trial.ReusableTable.{ReusableTable}
use Rattle.repair.specs.HidingOrder.{Case, IsOfKind, is_free_at, hide_subjects, StandsAt, ProtectsBefore, IsFirstUnprotected, ProtectsAll}
use Rattle.repair.specs.Repairs.{cell_and_side}
use Rattle.repair.specs.KeptWorlds.{IsServing}
use Rattle.repair.specs.Stops.{IsQuestion}
use Rattle.repair.specs.TriedCells.{StopsTrying, AreTried}
use Rattle.repair.specs.WantOfMemory.{UnlessMemory}
use Rattle.repair.specs.Tasks.{case_of}

-- whether a world moves only hidden cells
abbrev pub fits : List Bool → World → Bool
fits flags world = list_all (λ one. is_hidden flags one.cell) world.moves

-- whether a world takes a cell at least its level to a side, and moves only hidden cells
abbrev pub serves_beside : Cell → ℕ × Side → List Bool → World → Bool
serves_beside cell asked flags world =
    int_le (world.den *ℤ level asked.1 cell) (amount_toward asked.1 (number_given (terms_of world.moves) asked.0))
    && fits flags world

-- whether a world at hand, kept or spare, does
abbrev pub is_at_hand : Cell → ℕ × Side → List Bool → List World → List ReusableTable → Bool
is_at_hand cell asked flags worlds reusable =
    list_any (serves_beside cell asked flags) worlds
    || list_any (λ spare. serves_beside cell asked flags spare.world) reusable

-- the reusable tables with one more, where there are fewer than this number
abbrev pub spares_with : List ReusableTable → ℕ → ReusableTable → List ReusableTable
spares_with reusable most spare = if nat_lt (length reusable) most then reusable ++ spare ∷ [] else reusable

-- a world that serves a question for some hidden set
abbrev pub IsKept : Case → ℕ × Side → World → Type 0
IsKept c asked world = (set : List Bool) × IsServing c set asked world

-- each question has a world that serves it for some hidden set, in its order
abbrev pub AreKept : Case → List (ℕ × Side) → List World → Type 0
AreKept c [] [] = Unit {0}
AreKept c [] (world ∷ worlds) = ⊥
AreKept c (asked ∷ more) [] = ⊥
AreKept c (asked ∷ more) (world ∷ worlds) = IsKept c asked world × AreKept c more worlds

-- a spare world serves the question at its place for some hidden set
pub record IsReusableTable (c : Case) (spare : ReusableTable) : Type 0 where
  pub asked : ℕ × Side
  pub stands : StandsAt c.cells asked spare.place
  pub kept : IsKept c asked spare.world

-- a spare world is that of the answer of the question at its place while a cell below a number was tried
pub record IsTrialAnswer (c : Case) (larger : List Bool) (n : ℕ) (flags : List Bool)
    (spare : ReusableTable) : Type 0 where
  pub asked : ℕ × Side
  pub stands : StandsAt c.cells asked spare.place
  pub given : IsGiven (IsOfTrial c larger n flags) c.system c.cells asked spare.world

-- all spare worlds are
abbrev pub AreTrialAnswers : Case → List Bool → ℕ → List Bool → List ReusableTable → Type 0
AreTrialAnswers c larger n flags reusable = All (IsTrialAnswer c larger n flags) reusable

-- worlds at hand beside the kept ones: each served the question at its place
abbrev pub AreReusableTables : Case → List ReusableTable → Type 0
AreReusableTables c reusable = All (IsReusableTable c) reusable

-- for some questions, at their places, a last world: one that served the question there
abbrev pub AreLast : Case → List (Option World) → Type 0
AreLast c worlds = (place : ℕ) (asked : ℕ × Side) (world : World)
    → StandsAt c.cells asked place → slice_get worlds place ≡ Some (Some world) → IsKept c asked world

-- whether there is a last world at a place, and it moves only hidden cells
abbrev pub last_fits : List Bool → List (Option World) → ℕ → Bool
last_fits flags worlds place =
    option_map_or (λ last. option_map_or (fits flags) last false) (slice_get worlds place) false

-- the worlds with a spare in its place, where it moves only hidden cells and the world there doesn't
abbrev pub offered : List Bool → List World → ReusableTable → List World
offered flags worlds spare =
    if fits flags spare.world && not (option_map_or (fits flags) (slice_get worlds spare.place) false)
    then slice_set worlds spare.place spare.world else worlds

-- the worlds of all questions are answers for sets on the way to these flags
abbrev pub AnswerOnWay : Task → List Bool → List Refuted → List Bool → List World → Type 0
AnswerOnWay task planned repairs flags worlds =
    AreAnswers (case_of task) (IsOnWay (case_of task) planned repairs flags) (asked_of 0 task.cells.now) worlds

-- the reusable tables are answers of trials on the way to these flags
abbrev pub AnswerTrials : Task → List Bool → List Refuted → List Bool → List ReusableTable → Type 0
AnswerTrials task planned repairs flags reusable =
    AreTrialAnswers (case_of task) (hide_subjects planned repairs) (length task.cells.now) flags reusable

-- Multipliers refute the level of a primary cell for the hidden set, as its question is answered; and that question is
-- the first that the set doesn't protect.
pub record IsRefuted (c : Case) (flags : List Bool) (refuted : Refuted) : Type 0 where
  pub cell_primary : IsOfKind c.cells refuted.cell Primary
  pub first : IsFirstUnprotected c flags (cell_and_side refuted)
  pub refutes : IsGivenRefutation c.system c.cells flags refuted.cell refuted.side refuted.multipliers
  pub gives : AreGiven c.system c.cells flags (cell_and_side refuted) refuted.multipliers

-- the hidden set, in which a cell is tried as shown, protects what is asked before a place, or the first that it
-- doesn't protect is refuted
abbrev pub ProtectsBeforeOr : Case → List Bool → ℕ → ℕ → Option Refuted → Type 0
ProtectsBeforeOr c flags cell place None = ProtectsBefore c flags place
ProtectsBeforeOr c flags cell place (Some need) = (need.subject ≡ cell) × IsRefuted c flags need

-- a question has a fault, and all that is asked before it is protected
abbrev pub HasFault : Case → List Bool → ℕ → AskFault → Type 0
HasFault c flags limit fault = (place : ℕ) × IsQuestion c flags limit fault place

-- The cells below a number have been tried, from the set of all open cells on: the set that is left protects every
-- primary cell, and each free hidden cell has its need, whose multipliers refute for the set when it was tried.
abbrev pub IsTried : Case → List Bool → ℕ → List Bool → List Refuted → List ℕ → Type 0
IsTried c larger n flags needs shown =
    AreTried (λ need. need.subject) (IsRefuted c) (ProtectsAll c) (is_free_at c.cells) larger n flags needs shown

-- so far has a task come with trying cells, by its progress and its findings; spare worlds are answers of trials
pub record HasTried (task : Task) (larger : List Bool) (n : ℕ) (progress : Progress World Refuted) (tried : Findings)
    : Type 0 where
  pub are_tried : IsTried (case_of task) larger n progress.hidden.flags tried.trials.needs tried.trials.shown
  pub answers : AreTrialAnswers (case_of task) larger n progress.hidden.flags tried.reusable.items

-- a question has a fault while a cell, the last of those shown, is being tried, or once all have been tried
abbrev pub IsTryStop : Case → List Bool → ℕ → AskFault → List ℕ → Type 0
IsTryStop c larger limit fault shown =
    StopsTrying (ProtectsAll c) (is_free_at c.cells) (λ set. HasFault c set limit fault) larger shown

-- the same, but nothing under want of memory
abbrev pub TriesStopFor : Case → List Bool → ℕ → AskFault → List ℕ → Type 0
TriesStopFor c larger limit fault shown = UnlessMemory fault (IsTryStop c larger limit fault shown)
