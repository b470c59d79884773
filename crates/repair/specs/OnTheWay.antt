-- The hidden sets that a protection comes to on its way, and the worlds that are answers for them (own).
use Rattle.std.specs.Prelude.{◌≡◌, ◌⊎◌, ℕ, ◌<◌, Bool, true, List, [], ◌∷◌, ◌++◌, length}
use Rattle.sdc_base.specs.declared.cell.Kind.TheVariants.{Free}
use Rattle.sdc_base.specs.declared.side.Side.{Side}
use Rattle.sdc_base.specs.HiddenSets.{is_hidden}
use Rattle.worlds.specs.declared.refuted.Refuted.{Refuted}
use Rattle.worlds.specs.declared.world.World.{World}
use Rattle.repair.specs.HidingOrder.{Case, IsOfKind, hide_subjects}
use Rattle.repair.specs.LevelQuestions.{IsGiven}
use Rattle.repair.specs.Needs.{set_when_tried}

-- the set is what the first of these repairs made of the planned one
pub record IsOfFirst (planned : List Bool) (repairs : List Refuted) (set : List Bool) : Type 0 where
  pub earlier : List Refuted
  pub later : List Refuted
  pub is_cut : repairs ≡ earlier ++ later
  pub set_is : set ≡ hide_subjects planned earlier

-- the set is the one with which a free open cell below a number was tried as shown
pub record IsOfTrial (c : Case) (larger : List Bool) (n : ℕ) (flags set : List Bool) : Type 0 where
  pub cell : ℕ
  pub below : cell < n
  pub is_free : IsOfKind c.cells cell Free
  pub was_open : is_hidden larger cell ≡ true
  pub set_is : set ≡ set_when_tried flags larger cell

-- a protection came to this set: its first repairs made it of the planned one, or a cell was tried with it, or it is the
-- last
abbrev pub IsOnWay : Case → List Bool → List Refuted → List Bool → List Bool → Type 0
IsOnWay c planned repairs flags set =
    IsOfFirst planned repairs set
    ⊎ (IsOfTrial c (hide_subjects planned repairs) (length c.cells) flags set ⊎ (set ≡ flags))

-- each world is that of the answer of its question, in their order, for one of these sets
abbrev pub AreAnswers : Case → (List Bool → Type 0) → List (ℕ × Side) → List World → Type 0
AreAnswers c Is asked [] = Unit {0}
AreAnswers c Is [] (world ∷ worlds) = ⊥
AreAnswers c Is (asked ∷ more) (world ∷ worlds) = IsGiven Is c.system c.cells asked world × AreAnswers c Is more worlds
