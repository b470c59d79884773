-- Whether a cell that has moved so far can go further within its bounds (handbook, feasibility interval).
use Rattle.std.specs.Prelude.{Bool, true, false, ℤ, ◌-ℤ◌, int_lt}
use Rattle.std.specs.Option.{option_map_or}
use Rattle.sdc_base.specs.declared.cell.Cell.{Cell}

-- a cell that has moved so far can go further up, or further down
abbrev pub has_room : Bool → Cell → ℤ → Bool
has_room true cell by = option_map_or (λ high. int_lt by (high -ℤ cell.truth)) cell.high true
has_room false cell by = int_lt (cell.low -ℤ cell.truth) by
