-- Worlds kept for what is asked, and how far repairing has come (own).
use Rattle.std.specs.Prelude.{◌≡◌, ℕ, ◌+◌, ◌≤◌, ◌^◌, Bool, true, false, List, [], ◌∷◌, length, take, All, pos, ◌≤ℤ◌}
use Rattle.sdc_base.specs.Kinds.{is_primary_at}
use Rattle.sdc_base.specs.HiddenSets.{is_hidden}
use Rattle.sdc_base.specs.Patterns.{IsPattern}
use Rattle.sdc_base.specs.declared.cell.Cell.{Cell}
use Rattle.sdc_base.specs.declared.cell.Kind.TheVariants.{Primary}
use Rattle.sdc_base.specs.declared.side.Side.{Side}
use Rattle.sdc_base.specs.declared.system.System.{System}
use Rattle.cost_rule.specs.Costs.{AreCosted}
use Rattle.linked_tables.specs.declared.mark.Mark.{Mark}
use Rattle.worlds.specs.declared.multipliers.Multipliers.{Multipliers}
use Rattle.worlds.specs.declared.refuted.Refuted.{Refuted}
use Rattle.worlds.specs.declared.world.World.{World}
use Rattle.worlds.specs.WorldFaults.{IsGivenWorld}
use Rattle.worlds.specs.RefutationFaults.{IsGivenRefutation}
use Rattle.worlds.specs.ProtectFaults.{asked_of, is_reaching}
use Rattle.repair.specs.LevelQuestions.{AreGiven}
use Rattle.repair.specs.HidingOrder.{Case, IsOfKind, hide_subjects, StandsAt, ProtectsBefore}
use Rattle.repair.specs.Repairs.{AreRepairs, LastIsNotBehind, IsOfQuestionAt}

-- no level of a cell is above 2^110
pub record HasModestLevels (cell : Cell) : Type 0 where
  pub up : cell.up ≤ℤ pos (2 ^ 110)
  pub down : cell.down ≤ℤ pos (2 ^ 110)

-- What can be protected: there are a cell and a mark for each cell of the system, the marks have facts that a rule may
-- be asked about, levels are modest, and a question may take a step.
pub record CanBeProtected (system : System) (cells : List Cell) (marks : List Mark) (limit : ℕ) : Type 0 where
  pub each_cell : length cells ≡ system.cells
  pub each_mark : length marks ≡ length cells
  pub costed : All (λ mark. AreCosted mark.facts) marks
  pub modest : All HasModestLevels cells
  pub some_steps : 1 ≤ limit

-- what a protection works on fits together: one entry for each cell of the system, modest levels, and the order of
-- questions
pub record IsTask (system : System) (cells : List Cell) (prices : List ℕ) (questions : List (ℕ × Side))
    (limit : ℕ) : Type 0 where
  pub one_each : length cells ≡ system.cells
  pub priced : length prices ≡ system.cells
  pub modest : All HasModestLevels cells
  pub in_order : questions ≡ asked_of 0 cells
  pub some_steps : 1 ≤ limit

-- A primary cell may be asked about, to a side: there are a cell and a flag for each cell of the system, with modest
-- levels, the set hides the cell, and the walk may make a step.
pub record IsAskable (system : System) (cells : List Cell) (flags : List Bool) (asked : ℕ × Side)
    (limit : ℕ) : Type 0 where
  pub one_each : IsPattern system cells flags
  pub modest : All HasModestLevels cells
  pub primary : is_primary_at cells asked.0 ≡ true
  pub hidden : is_hidden flags asked.0 ≡ true
  pub some_steps : 1 ≤ limit

-- the world is one for the hidden set, and takes the primary cell that is asked about at least its level to the side
pub record IsServing (c : Case) (flags : List Bool) (asked : ℕ × Side) (world : World) : Type 0 where
  pub is_primary : IsOfKind c.cells asked.0 Primary
  pub is_world : IsGivenWorld c.system c.cells flags world
  pub reaching : is_reaching c.cells asked world ≡ true

-- each question has its world, in its order
abbrev pub AreServed : Case → List Bool → List (ℕ × Side) → List World → Type 0
AreServed c flags [] [] = Unit {0}
AreServed c flags [] (world ∷ worlds) = ⊥
AreServed c flags (asked ∷ more) [] = ⊥
AreServed c flags (asked ∷ more) (world ∷ worlds) = IsServing c flags asked world × AreServed c flags more worlds

-- the questions before this place have their worlds
abbrev pub AreServedBefore : Case → List Bool → ℕ → List World → Type 0
AreServedBefore c flags place worlds = AreServed c flags (take place (asked_of 0 c.cells)) worlds

-- repairing has come so far from the planned set: the hidden set is what the repairs made of it, they are justified and
-- in order, and none is of a question behind this place
pub record IsRepaired (c : Case) (prices : List ℕ) (planned flags : List Bool) (repairs : List Refuted)
    (place : ℕ) : Type 0 where
  pub hidden_is : flags ≡ hide_subjects planned repairs
  pub are_repairs : AreRepairs c prices planned repairs
  pub onward : LastIsNotBehind (IsOfQuestionAt c.cells) repairs place

-- the question at a place, with multipliers that refute its level for the hidden set, as it is answered
pub record IsStopped (c : Case) (flags : List Bool) (place : ℕ) (question : ℕ × Side) (m : Multipliers) : Type 0 where
  pub stands : StandsAt c.cells question place
  pub before : ProtectsBefore c flags place
  pub refutes : IsGivenRefutation c.system c.cells flags question.0 question.1 m
  pub gives : AreGiven c.system c.cells flags question m

-- how many cells are shown
abbrev pub shown_count : List Bool → ℕ
shown_count [] = 0
shown_count (true ∷ flags) = shown_count flags
shown_count (false ∷ flags) = 1 + shown_count flags
