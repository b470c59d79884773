-- A number for each cell, as a scratch has them while the rows of a problem are made (own).
use Rattle.std.specs.Prelude.{◌≡◌, ℕ, List, ℤ, pos, neg_ℤ, ◌≤ℤ◌}
use Rattle.sdc_base.specs.Forms.{Term, coefficient}
use Rattle.sdc_base.specs.Systems.{number_at}

-- the number of every cell is 0
abbrev pub AreZeros : List ℤ → Type 0
AreZeros numbers = (cell : ℕ) → number_at numbers cell ≡ pos 0

-- the number of every cell is its coefficient in multiples of cells
abbrev pub AreCoefficients : List ℤ → List Term → Type 0
AreCoefficients numbers terms = (cell : ℕ) → number_at numbers cell ≡ coefficient terms cell

-- no number is above a bound, nor below its opposite
abbrev pub AreWithin : ℤ → List ℤ → Type 0
AreWithin bound numbers = (cell : ℕ) → (neg_ℤ bound ≤ℤ number_at numbers cell) × (number_at numbers cell ≤ℤ bound)
