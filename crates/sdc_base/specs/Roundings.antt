-- Roundings: each cell at a multiple of a base next to its truth, all relations holding (zero-restricted controlled
-- rounding; own).
use Rattle.std.specs.Prelude.{◌≡◌, ℕ, ◌<◌, List, length, ℤ, ◌+ℤ◌, ◌-ℤ◌, ◌*ℤ◌, ◌<ℤ◌}
use Rattle.sdc_base.specs.declared.system.System.{System}
use Rattle.sdc_base.specs.Systems.{number_at, HoldOn}

-- a value is a whole number of times the base
abbrev pub IsMultiple : ℤ → ℤ → Type 0
IsMultiple base value = (times : ℤ) × (value ≡ times *ℤ base)

-- a multiple of the base, less than one base from the truth
pub record IsAdjacent (base truth value : ℤ) : Type 0 where
  pub multiple : IsMultiple base value
  pub not_below : (truth -ℤ base) <ℤ value
  pub not_above : value <ℤ (truth +ℤ base)

-- a rounding of the truths to a base: each cell's value is adjacent to its truth, and every relation holds
pub record IsRounding (system : System) (truths : List ℤ) (base : ℤ) (values : List ℤ) : Type 0 where
  pub each : length values ≡ system.cells
  pub adjacent : (cell : ℕ) → cell < system.cells → IsAdjacent base (number_at truths cell) (number_at values cell)
  pub hold : HoldOn (number_at values) system.relations
