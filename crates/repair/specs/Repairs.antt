-- Repairs: cells hidden one after another, each against a refutation (own).
use Rattle.std.specs.Prelude.{◌≡◌, ◌≢◌, ℕ, ◌≤◌, Bool, false, List, [], ◌∷◌, ◌++◌, pos}
use Rattle.sdc_base.specs.declared.cell.Cell.{Cell}
use Rattle.sdc_base.specs.declared.cell.Kind.TheVariants.{Primary, Free}
use Rattle.sdc_base.specs.declared.side.Side.{Side}
use Rattle.sdc_base.specs.HiddenSets.{is_hidden, hide}
use Rattle.worlds.specs.declared.refuted.Refuted.{Refuted}
use Rattle.worlds.specs.RefutationFaults.{IsGivenRefutation}
use Rattle.repair.specs.LevelQuestions.{AreGiven}
use Rattle.repair.specs.HidingOrder.{Case, IsOfKind, StandsAt, ProtectsBefore, coefficients_for, IsCheapest}

-- what a repair or a need refutes: its cell, to its side
abbrev pub cell_and_side : Refuted → ℕ × Side
cell_and_side refuted = (refuted.cell, refuted.side)

-- A repair is justified for a hidden set: its subject is free and shown, its cell is primary, and its multipliers
-- refute the cell's level for the set in a way in which the subject counts.
pub record IsJustified (c : Case) (flags : List Bool) (repair : Refuted) : Type 0 where
  pub subject_free : IsOfKind c.cells repair.subject Free
  pub subject_shown : is_hidden flags repair.subject ≡ false
  pub cell_primary : IsOfKind c.cells repair.cell Primary
  pub refutes : IsGivenRefutation c.system c.cells flags repair.cell repair.side repair.multipliers
  pub subject_counts : coefficients_for c.system (cell_and_side repair) repair.multipliers repair.subject ≢ pos 0

-- A repair is in order for a hidden set: the set protects all that is asked before it; its multipliers are what the
-- question of its cell gives; and its subject is the cheapest of the cells that would break them.
pub record IsInOrder (c : Case) (prices : List ℕ) (flags : List Bool) (repair : Refuted) : Type 0 where
  pub place : ℕ
  pub stands : StandsAt c.cells (cell_and_side repair) place
  pub before : ProtectsBefore c flags place
  pub gives : AreGiven c.system c.cells flags (cell_and_side repair) repair.multipliers
  pub cheapest : IsCheapest c.cells prices flags (coefficients_for c.system (cell_and_side repair) repair.multipliers)
      repair.subject

-- each of these, for which a cell is hidden, is so for the hidden set that the cells of the earlier ones made of this
-- one
abbrev pub EachInTurn : {R : Type 0} → (R → ℕ) → (List Bool → R → Type 0) → List Bool → List R → Type 0
EachInTurn subject Is flags [] = Unit {0}
EachInTurn subject Is flags (one ∷ more) = Is flags one × EachInTurn subject Is (hide flags (subject one)) more

-- the same of repairs
abbrev pub EachRepair : (List Bool → Refuted → Type 0) → List Bool → List Refuted → Type 0
EachRepair Is flags repairs = EachInTurn (λ repair. repair.subject) Is flags repairs

-- a list of repairs is justified, and in order, from a hidden set on
pub record AreRepairs (c : Case) (prices : List ℕ) (flags : List Bool) (repairs : List Refuted) : Type 0 where
  pub justified : EachRepair (IsJustified c) flags repairs
  pub ordered : EachRepair (IsInOrder c prices) flags repairs

-- the last of these, where there is one, is for what doesn't stand behind this place
abbrev pub LastIsNotBehind : {R : Type 0} → (R → ℕ → Type 0) → List R → ℕ → Type 0
LastIsNotBehind {R = R} IsFor reasons place =
    (earlier : List R) (last : R) → reasons ≡ earlier ++ last ∷ [] → (own : ℕ) × IsFor last own × (own ≤ place)

-- the question of a repair stands at this place
abbrev pub IsOfQuestionAt : List Cell → Refuted → ℕ → Type 0
IsOfQuestionAt cells repair place = StandsAt cells (cell_and_side repair) place
