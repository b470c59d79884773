-- Whether worlds show that a hidden set protects its primary cells, and the first fault of them (own).
use Rattle.std.specs.Prelude.{◌≡◌, ℕ, ◌+◌, ◌^◌, ◌-◌, min, drop, ◌&&◌, ◌==◌, not, Bool, List, [], ◌∷◌, length, slice_get, Option, None, Some, Result, Ok, if◌then◌else◌, ◌*ℤ◌, int_le}
use Rattle.sdc_base.specs.Steps.{◌>>=◌, refuse, map_fault}
use Rattle.sdc_base.specs.declared.cell.Cell.{Cell}
use Rattle.sdc_base.specs.declared.cell.Kind.TheVariants.{Primary}
use Rattle.sdc_base.specs.declared.side.Side.{Side}
use Rattle.sdc_base.specs.declared.side.Side.TheVariants.{Above, Below}
use Rattle.sdc_base.specs.declared.system.System.{System}
use Rattle.sdc_base.specs.Kinds.{is_primary, is_fixed}
use Rattle.sdc_base.specs.HiddenSets.{is_hidden, IsPermitted}
use Rattle.sdc_base.specs.Worlds.{Protects, level_at, amount_toward}
use Rattle.worlds.specs.declared.faults.ProtectFault.{ProtectFault}
use Rattle.worlds.specs.declared.faults.ProtectFault.TheVariants as fault
use Rattle.worlds.specs.declared.pattern.Pattern.{Pattern}
use Rattle.worlds.specs.declared.world.World.{World}
use Rattle.worlds.specs.NumberLists.{terms_of, number_given}
use Rattle.worlds.specs.WorldFaults.{refuse_at, world_fault}

-- the first primary cell, from this number on, that is shown
abbrev pub primary_shown : List Bool → ℕ → List Cell → Option ℕ
primary_shown flags number [] = None
primary_shown flags number (cell ∷ cells) = if is_primary cell.kind && not (is_hidden flags number) then Some number
    else primary_shown flags (number + 1) cells

-- the first fixed cell, from this number on, that is hidden
abbrev pub fixed_hidden : List Bool → ℕ → List Cell → Option ℕ
fixed_hidden flags number [] = None
fixed_hidden flags number (cell ∷ cells) = if is_fixed cell.kind && is_hidden flags number then Some number
    else fixed_hidden flags (number + 1) cells

-- what there is to be a world for, of the cells from this number on: each primary cell, above and then below
abbrev pub asked_of : ℕ → List Cell → List (ℕ × Side)
asked_of number [] = []
asked_of number (cell ∷ cells) =
    if is_primary cell.kind then (number, Above) ∷ (number, Below) ∷ asked_of (number + 1) cells
    else asked_of (number + 1) cells

-- whether a world takes a cell at least its level to the side
abbrev pub is_reaching : List Cell → ℕ × Side → World → Bool
is_reaching cells asked world =
    int_le (world.den *ℤ level_at cells asked.1 asked.0)
    (amount_toward asked.1 (number_given (terms_of world.moves) asked.0))

-- the number of a line in 32 bits, the greatest one for all beyond
abbrev pub line_number : ℕ → ℕ
line_number line = min line (2 ^ 32 - 1)

-- the fault of the world on a line, for what is asked
abbrev pub line_fault : System → List Cell → List Bool → ℕ → ℕ × Side → World → Result (Unit {0}) ProtectFault
line_fault system cells flags line asked world =
    map_fault (fault.World (line_number line)) (world_fault system cells flags world) >>= λ _.
    refuse (fault.NotReached asked.0 asked.1) (not (is_reaching cells asked world))

-- the first fault of the worlds from this line on, one for each that is asked
abbrev pub lines_fault : System → List Cell → List Bool → ℕ → List (ℕ × Side) → List World
    → Result (Unit {0}) ProtectFault
lines_fault system cells flags line [] worlds = Ok tt
lines_fault system cells flags line (asked ∷ rest) [] = Ok tt
lines_fault system cells flags line (asked ∷ rest) (world ∷ worlds) =
    line_fault system cells flags line asked world >>= λ _. lines_fault system cells flags (line + 1) rest worlds

-- the first fault of the worlds from a line on, for what is asked of the cells from a number on
abbrev pub fault_from : Pattern → List World → ℕ → ℕ → Result (Unit {0}) ProtectFault
fault_from pattern worlds number line =
    lines_fault pattern.system.now pattern.cells.now pattern.hidden.now.flags line
    (asked_of number (drop number pattern.cells.now)) (drop line worlds)

-- the first fault of a hidden set with worlds
abbrev pub protect_fault : System → List Cell → List Bool → List World → Result (Unit {0}) ProtectFault
protect_fault system cells flags worlds =
    refuse_at fault.PrimaryShown (primary_shown flags 0 cells) >>= λ _.
    refuse_at fault.FixedHidden (fixed_hidden flags 0 cells) >>= λ _.
    refuse fault.Count (not (length worlds == length (asked_of 0 cells))) >>= λ _.
    lines_fault system cells flags 0 (asked_of 0 cells) worlds

-- the set is permitted, and protects every primary cell to both sides
pub record IsProtecting (system : System) (cells : List Cell) (flags : List Bool) : Type 0 where
  pub permitted : IsPermitted cells flags
  pub protects : (number : ℕ) (cell : Cell) (side : Side) → slice_get cells number ≡ Some cell → cell.kind ≡ Primary
      → Protects system cells flags number side
