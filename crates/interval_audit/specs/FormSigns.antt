-- Whole numbers from -1 to 1, by which cells read_state in forms (own).
use Rattle.std.specs.Prelude.{ℤ, pos, neg_ℤ, ◌≤ℤ◌}

-- the number is -1, 0 or 1
pub record IsFormSign (number : ℤ) : Type 0 where
  pub low : neg_ℤ (pos 1) ≤ℤ number
  pub high : number ≤ℤ pos 1
