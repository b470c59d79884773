-- Partial lists of choices as a search holds them (own).
use Rattle.std.specs.Prelude.{◌≡◌, ℕ, ◌<◌, ◌≤◌, ◌+◌, ◌++◌, Bool, true, false, List, length, map, take, slice_get, Some, ◌≤ℤ◌}
use Rattle.sdc_base.specs.Systems.{number_at}
use Rattle.rounding.specs.Choices.{Choices, unrounded_cells, by_choices}
use Rattle.rounding.specs.Namings.{IsNaming}
use Rattle.rounding.specs.Fixes.{FixedCells, number_left, IsWithin, NoneWithin, AllCanHold}
use Rattle.rounding.specs.Searches.{IsRoundingList, HasSeen, ahead_in}
use Rattle.rounding.specs.Tasks.{IsProper}

-- a choice, and how many cells were fixed before it
abbrev pub Step : Type 0
Step = Bool × ℕ

-- the choices of steps
abbrev pub choices_of : List Step → Choices
choices_of steps = map (λ step. step.0) steps

-- The numbers left are among those that the choices leave, and every rounding that makes the choices is between them.
pub record AreLeft (b : FixedCells) (choices : Choices) : Type 0 where
  pub inside : (cell : ℕ) → (number_at (by_choices false b.base b.truths choices) cell ≤ℤ number_left false b cell)
      × (number_left true b cell ≤ℤ number_at (by_choices true b.base b.truths choices) cell)
  pub sound : (rest : Choices) → IsRoundingList b.system b.truths b.base (choices ++ rest)
      → IsWithin b (by_choices false b.base b.truths (choices ++ rest))

-- the fixed cells as they were at a step
abbrev pub fixed_before : FixedCells → Step → FixedCells
fixed_before b step = record b { fixes = take step.1 b.fixes }

-- Choices one after another, each with what it fixed. Before each step every relation could hold. Where the list is
-- viable, they can now, and else no rounding is left.
pub record IsPartial (b : FixedCells) (naming : List (List ℕ)) (cells : List ℕ) (steps : List Step)
    (viable : Bool) : Type 0 where
  pub proper : IsProper b.system b.truths b.base
  pub listed : IsNaming b.system naming
  pub unrounded : cells ≡ unrounded_cells b.base 0 b.truths
  pub at_most_cells : length steps ≤ length cells
  pub ascending : (one other : ℕ) (s t : Step) → one < other → slice_get steps one ≡ Some s
      → slice_get steps other ≡ Some t → s.1 ≤ t.1
  pub marks : (place : ℕ) (step : Step) → slice_get steps place ≡ Some step → step.1 ≤ length b.fixes
  pub earlier : (place : ℕ) (step : Step) → slice_get steps place ≡ Some step
      → AreLeft (fixed_before b step) (choices_of (take place steps)) × AllCanHold (fixed_before b step)
  pub left : AreLeft b (choices_of steps)
  pub hold : viable ≡ true → AllCanHold b
  pub none : viable ≡ false → NoneWithin b

-- the same system, truths and base
abbrev pub IsSameTask : FixedCells → FixedCells → Type 0
IsSameTask before after = after ≡ record before { fixes = after.fixes }

-- what comes from a list on, in the search
abbrev pub ahead_of : FixedCells → Choices → List Choices
ahead_of b list = ahead_in b.system b.truths b.base list

-- from a list on, one list is looked at and others may be left out, and these are ahead
abbrev pub LeadsTo : FixedCells → Choices → List Choices → Type 0
LeadsTo b list lists =
    (seen : ℕ) → HasSeen b.system b.truths b.base seen (ahead_of b list)
    → HasSeen b.system b.truths b.base (seen + 1) lists
