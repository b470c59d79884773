-- Worlds: complete tables that agree with all that is shown and with the stated bounds (handbook, feasibility
-- interval).
use Rattle.std.specs.Prelude.{◌≡◌, ℕ, ◌<◌, Bool, false, List, slice_get, Some, ℤ, pos, neg_ℤ, ◌+ℤ◌, ◌*ℤ◌, ◌≤ℤ◌}
use Rattle.std.specs.Option.{ForSome, option_map_or}
use Rattle.sdc_base.specs.declared.cell.Cell.{Cell}
use Rattle.sdc_base.specs.declared.side.Side.{Side}
use Rattle.sdc_base.specs.declared.side.Side.TheVariants.{Above, Below}
use Rattle.sdc_base.specs.declared.system.System.{System}
use Rattle.sdc_base.specs.HiddenSets.{is_hidden}
use Rattle.sdc_base.specs.Systems.{Numbers, HoldOn}

-- den times the value that a cell has in a world: den times its truth, and its move
abbrev pub value_over : ℤ → Cell → ℤ → ℤ
value_over den cell move = den *ℤ cell.truth +ℤ move

-- the cell's value, truth + move / den, is within the attacker's bounds
pub record IsWithinBounds (cell : Cell) (den move : ℤ) : Type 0 where
  pub from_low : (den *ℤ cell.low) ≤ℤ value_over den cell move
  pub to_high : ForSome cell.high (λ high. value_over den cell move ≤ℤ (den *ℤ high))

-- A world for a hidden set: a denominator, and a move for each cell. No shown cell moves, every relation holds on the
-- moves, and every value is within its bounds.
pub record IsWorld (system : System) (cells : List Cell) (flags : List Bool) (den : ℤ) (moves : Numbers) : Type 0 where
  pub positive : pos 1 ≤ℤ den
  pub shown_stay : (cell : ℕ) → cell < system.cells → is_hidden flags cell ≡ false → moves cell ≡ pos 0
  pub relations_hold : HoldOn moves system.relations
  pub bounds_hold : (number : ℕ) (cell : Cell) → slice_get cells number ≡ Some cell
      → IsWithinBounds cell den (moves number)

-- how far a cell must be open to a side
abbrev pub level : Side → Cell → ℤ
level Above cell = cell.up
level Below cell = cell.down

-- how far the cell with this number must be open to a side; 0 where there is no such cell
abbrev pub level_at : List Cell → Side → ℕ → ℤ
level_at cells side number = option_map_or (level side) (slice_get cells number) (pos 0)

-- an amount toward a side: upwards as it is, downwards turned round
abbrev pub amount_toward : Side → ℤ → ℤ
amount_toward Above amount = amount
amount_toward Below amount = neg_ℤ amount

-- the move takes a cell at least its level to that side
abbrev pub Reaches : Side → Cell → ℤ → ℤ → Type 0
Reaches side cell den move = (den *ℤ level side cell) ≤ℤ amount_toward side move

-- the hidden set protects the cell to that side: in some world for it the cell lies at least its level to that side
abbrev pub Protects : System → List Cell → List Bool → ℕ → Side → Type 0
Protects system cells flags number side =
    (den : ℤ) × (moves : Numbers) × (cell : Cell) ×
    IsWorld system cells flags den moves × (slice_get cells number ≡ Some cell) × Reaches side cell den (moves number)
