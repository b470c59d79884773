-- What a reader of a rounded release knows of the cells, and the tables that agree with it: by the values that are
-- shown and the base, by the stated bounds, and by how much a truth may be. That truths are whole is known for these
-- bounds alone (zero-restricted controlled rounding; own).
use Rattle.std.specs.Prelude.{◌≡◌, ◌↔◌, ◌^◌, ℕ, Bool, true, List, length, All, replicate, slice_get, Some, ℤ, pos, ◌+ℤ◌, ◌-ℤ◌, ◌*ℤ◌, ◌≤ℤ◌}
use Rattle.std.specs.Int.{int_max, int_min}
use Rattle.std.specs.Option.{option_map_or}
use Rattle.sdc_base.specs.declared.cell.Cell.{Cell}
use Rattle.sdc_base.specs.declared.cell.Kind.{Kind}
use Rattle.sdc_base.specs.declared.cell.Kind.TheVariants.{Primary, Free, Fixed}
use Rattle.sdc_base.specs.declared.side.Side.{Side}
use Rattle.sdc_base.specs.declared.system.System.{System}
use Rattle.sdc_base.specs.Systems.{Numbers, HoldOn, number_at}
use Rattle.sdc_base.specs.Worlds.{IsWorld, Reaches, value_over}

-- the greatest amount that a truth may be, in units
abbrev pub greatest_truth : ℤ
greatest_truth = pos (10 ^ 29)

-- Numbers that can be audited: there are a cell and a number for each cell of the system, no truth is above that amount,
-- and the base is from 1 to 10^22 units.
pub record CanBeAudited (system : System) (cells : List Cell) (values : List ℤ) (base : ℤ) : Type 0 where
  pub each_cell : length cells ≡ system.cells
  pub each_value : length values ≡ length cells
  pub truths : All (λ cell. cell.truth ≤ℤ pos (10 ^ 29)) cells
  pub from_one : pos 1 ≤ℤ base
  pub at_most_10_22 : base ≤ℤ pos (10 ^ 22)

-- the reader's lower bound of a cell: the stated one, or the least whole number less than one base below the shown value
abbrev pub reader_low : ℤ → ℤ → Cell → ℤ
reader_low base shown cell = int_max cell.low (shown -ℤ base +ℤ pos 1)

-- the stated upper bound of a cell, where there is one, or the greatest amount that a truth may be
abbrev pub stated_high : Cell → ℤ
stated_high cell = option_map_or (int_min greatest_truth) cell.high greatest_truth

-- the reader's upper bound: that one, or the greatest whole number less than one base above the shown value
abbrev pub reader_high : ℤ → ℤ → Cell → ℤ
reader_high base shown cell = int_min (stated_high cell) (shown +ℤ base -ℤ pos 1)

-- a cell's value, truth + move / den, is within the reader's bounds
pub record IsWithinReading (base shown : ℤ) (cell : Cell) (den move : ℤ) : Type 0 where
  pub from_low : (den *ℤ reader_low base shown cell) ≤ℤ value_over den cell move
  pub to_high : value_over den cell move ≤ℤ (den *ℤ reader_high base shown cell)

-- A world of a rounded release: a denominator, and a move for each cell. Every relation holds on the moves, and every
-- value is within the reader's bounds. No cell must stay.
pub record IsReaderWorld (system : System) (cells : List Cell) (values : List ℤ) (base den : ℤ)
    (moves : Numbers) : Type 0 where
  pub positive : pos 1 ≤ℤ den
  pub relations_hold : HoldOn moves system.relations
  pub bounds_hold : (number : ℕ) (cell : Cell) → slice_get cells number ≡ Some cell
      → IsWithinReading base (number_at values number) cell den (moves number)

-- the cell is covered to the side: some world of the release takes it there by at least its level
abbrev pub IsCovered : System → List Cell → List ℤ → ℤ → ℕ → Side → Type 0
IsCovered system cells values base number side =
    (den : ℤ) × (moves : Numbers) × (cell : Cell) × IsReaderWorld system cells values base den moves
    × (slice_get cells number ≡ Some cell) × Reaches side cell den (moves number)

-- what a cell is to the reader: one that was always shown may move as well
abbrev pub reader_kind : Kind → Kind
reader_kind Primary = Primary
reader_kind Free = Free
reader_kind Fixed = Free

-- this is the cell with the reader's bounds
pub record IsReaderCell (base shown : ℤ) (cell known : Cell) : Type 0 where
  pub truth : known.truth ≡ cell.truth
  pub low : known.low ≡ reader_low base shown cell
  pub high : known.high ≡ Some (reader_high base shown cell)
  pub up : known.up ≡ cell.up
  pub down : known.down ≡ cell.down
  pub kind : known.kind ≡ reader_kind cell.kind
  pub price : known.price ≡ cell.price

-- these are the cells with the reader's bounds, one for each
pub record AreReaderCells (cells : List Cell) (values : List ℤ) (base : ℤ) (known : List Cell) : Type 0 where
  pub each : length known ≡ length cells
  pub bounded : (number : ℕ) (cell one : Cell) → slice_get cells number ≡ Some cell
      → slice_get known number ≡ Some one → IsReaderCell base (number_at values number) cell one

-- the set in which every cell is hidden
abbrev pub all_hidden : ℕ → List Bool
all_hidden cells = replicate cells true

-- the worlds of a rounded release are those of the cells with the reader's bounds, all cells hidden
abbrev pub ReaderWorldsAreWorlds : Type 0
ReaderWorldsAreWorlds =
    (system : System) (cells : List Cell) (values : List ℤ) (base : ℤ) (known : List Cell) (den : ℤ) (moves : Numbers)
    → length cells ≡ system.cells → AreReaderCells cells values base known
    → IsWorld system known (all_hidden system.cells) den moves ↔ IsReaderWorld system cells values base den moves
