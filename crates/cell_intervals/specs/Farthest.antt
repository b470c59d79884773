-- How far worlds take a hidden cell from its truth to a side (handbook, feasibility interval; 2^110 as the farthest
-- that is asked: own).
use Rattle.std.specs.Prelude.{◌≡◌, ◌<◌, ◌*◌, ◌^◌, ℕ, Bool, List, pos, ℤ, ◌*ℤ◌}
use Rattle.sdc_base.specs.declared.cell.Cell.{Cell}
use Rattle.sdc_base.specs.declared.side.Side.{Side}
use Rattle.sdc_base.specs.declared.system.System.{System}
use Rattle.sdc_base.specs.Systems.{Numbers}
use Rattle.sdc_base.specs.Worlds.{IsWorld, amount_toward}
use Rattle.interval_audit.specs.QuestionLaws.{IsBest}
use Rattle.cell_intervals.specs.declared.ratio.Ratio.{Ratio}

-- the farthest that a world takes the cell to the side: less than 2^110, and over a denominator below 2^17
pub record IsFarthest (system : System) (cells : List Cell) (flags : List Bool) (number : ℕ) (side : Side)
    (far : Ratio) : Type 0 where
  pub is_best : IsBest system cells flags number side (pos far.num) (pos far.den)
  pub short : far.num < far.den * 2 ^ 110
  pub narrow : far.den < 2 ^ 17

-- in some world over the denominator 1 the cell lies exactly so many units to the side of its truth
abbrev pub IsWholeDistance : System → List Cell → List Bool → ℕ → Side → ℤ → Type 0
IsWholeDistance system cells flags number side distance =
    (moves : Numbers) × IsWorld system cells flags (pos 1) moves × (amount_toward side (moves number) ≡ distance)

-- how far the cell can lie to the side is a whole number of units, and some world over the denominator 1 takes it there
abbrev pub IsWholeFar : System → List Cell → List Bool → ℕ → Side → Ratio → Type 0
IsWholeFar system cells flags number side far = (far.den ≡ 1)
    × IsWholeDistance system cells flags number side (pos far.num)

-- in some world the cell lies 2^110 to the side of its truth
abbrev pub IsOpenTo : System → List Cell → List Bool → ℕ → Side → Type 0
IsOpenTo system cells flags number side =
    (den : ℤ) × (moves : Numbers) × IsWorld system cells flags den moves
    × (amount_toward side (moves number) ≡ den *ℤ pos (2 ^ 110))
