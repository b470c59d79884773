-- What an office can state of a cell beforehand, in units (own; limits own).
use Rattle.std.specs.Prelude.{◌≡◌, ◌≤◌, ◌^◌, ℕ, List, length, slice_get, None, Some, ℤ, pos, ◌≤ℤ◌}
use Rattle.std.specs.Option.{ForSome}
use Rattle.sdc_base.specs.declared.facts.Levels.{Levels}
use Rattle.sdc_base.specs.declared.facts.CellFacts.{CellFacts}
use Rattle.linked_tables.specs.declared.mark.Mark.{Mark}
use Rattle.apriori.specs.declared.prior.Status.TheVariants.{Unsafe}
use Rattle.apriori.specs.declared.prior.Prior.{Prior}

-- the greatest price
abbrev pub most_price : ℕ
most_price = 2 ^ 40

-- the greatest level and the greatest bound
abbrev pub most_units : ℕ
most_units = 10 ^ 29

-- nothing is stated
abbrev pub empty_prior : Prior
empty_prior = record { status = None; keep = None; price = None; levels = None; bounds = None }

-- a price is from 1 to the greatest
abbrev pub IsPrice : ℕ → Type 0
IsPrice price = (1 ≤ price) × (price ≤ most_price)

-- levels that can be stated: from a unit upwards, and from 0 downwards, each to the greatest. Not: the lower one up to
-- the truth.
pub record CanBeLevels (levels : Levels) : Type 0 where
  pub unit : pos 1 ≤ℤ levels.up
  pub up : levels.up ≤ℤ pos most_units
  pub from_zero : pos 0 ≤ℤ levels.down
  pub down : levels.down ≤ℤ pos most_units

-- bounds of a cell of this truth: from 0, with the truth between them
pub record AreBounds (truth : ℤ) (bounds : ℤ × ℤ) : Type 0 where
  pub from_zero : pos 0 ≤ℤ bounds.0
  pub low : bounds.0 ≤ℤ truth
  pub high : truth ≤ℤ bounds.1
  pub at_most : bounds.1 ≤ℤ pos most_units

-- what can be stated of a cell with these facts: only a cell with records is declared unsafe
pub record IsPriorOf (facts : CellFacts) (prior : Prior) : Type 0 where
  pub unsafe : prior.status ≡ Some Unsafe → 1 ≤ facts.freq
  pub price : ForSome prior.price IsPrice
  pub levels : ForSome prior.levels CanBeLevels
  pub bounds : ForSome prior.bounds (AreBounds facts.truth)

-- one prior for each cell, of which it can be stated
pub record ArePriors (marks : List Mark) (priors : List Prior) : Type 0 where
  pub one_each : length priors ≡ length marks
  pub each : (cell : ℕ) (mark : Mark) (prior : Prior) → slice_get marks cell ≡ Some mark
      → slice_get priors cell ≡ Some prior → IsPriorOf mark.facts prior
