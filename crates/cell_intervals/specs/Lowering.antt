-- Fractions in lower terms (own).
use Rattle.std.specs.Prelude.{◌≡◌, ◌≤◌, ◌*◌, ℕ}

-- a fraction's terms are these lower ones, each by one and the same number
abbrev pub IsLoweredTo : ℕ → ℕ → ℕ → ℕ → Type 0
IsLoweredTo num den lower_num lower_den = (by : ℕ) × (1 ≤ by) × (num ≡ by * lower_num) × (den ≡ by * lower_den)
