-- The range of the truths (own).
use Rattle.std.specs.Prelude.{◌^◌, ℤ, pos, ◌≤ℤ◌}

-- A truth is from 0 to the greatest: 10 ^ 15 units in 10 ^ 8 weight steps for each of 10 ^ 6 records. Not: any number
-- of 128 bits.
pub record IsTruth (truth : ℤ) : Type 0 where
  pub from_zero : pos 0 ≤ℤ truth
  pub at_most : truth ≤ℤ pos (10 ^ 29)
