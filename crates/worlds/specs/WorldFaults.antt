-- The first fault of a world: its denominator, the order of its moves, then each move, then each relation (own).
use Rattle.std.specs.Prelude.{ℕ, ◌+◌, ◌&&◌, Bool, true, false, List, [], ◌∷◌, slice_get, Option, None, Some, Result, Ok, Err, if◌then◌else◌, ℤ, pos, ◌*ℤ◌, int_lt, int_le}
use Rattle.std.specs.Ordering.{int_eq}
use Rattle.std.specs.Option.{option_map_or}
use Rattle.sdc_base.specs.Steps.{◌>>=◌, refuse}
use Rattle.sdc_base.specs.declared.cell.Cell.{Cell}
use Rattle.sdc_base.specs.declared.relation.Relation.{Relation}
use Rattle.sdc_base.specs.declared.system.System.{System}
use Rattle.sdc_base.specs.Forms.{Term}
use Rattle.sdc_base.specs.HiddenSets.{is_hidden}
use Rattle.sdc_base.specs.Systems.{Numbers, form}
use Rattle.sdc_base.specs.Worlds.{IsWorld, value_over}
use Rattle.worlds.specs.declared.faults.WorldFault.{WorldFault}
use Rattle.worlds.specs.declared.faults.WorldFault.TheVariants as fault
use Rattle.worlds.specs.declared.world.World.{World}
use Rattle.worlds.specs.NumberLists.{IsListed, first_misplaced, terms_of, number_given}

-- a fault at a place, where there is one
abbrev pub refuse_at : {F : Type 0} → (ℕ → F) → Option ℕ → Result (Unit {0}) F
refuse_at at None = Ok tt
refuse_at at (Some place) = Err (at place)

-- whether a move keeps the cell's value within its bounds
abbrev pub is_within : ℤ → ℤ → Cell → Bool
is_within den move cell =
    int_le (den *ℤ cell.low) (value_over den cell move)
    && option_map_or (λ high. int_le (value_over den cell move) (den *ℤ high)) cell.high true

-- a move is refused where it moves a shown cell, or else where it takes the cell beyond its bounds
abbrev pub move_fault : List Cell → List Bool → ℤ → Term → Result (Unit {0}) WorldFault
move_fault cells flags den move =
    if is_hidden flags move.0 then
    (if option_map_or (is_within den move.1) (slice_get cells move.0) false then Ok tt else Err (fault.Bound move.0))
    else Err (fault.Shown move.0)

-- the first fault of the moves
abbrev pub moves_fault : List Cell → List Bool → ℤ → List Term → Result (Unit {0}) WorldFault
moves_fault cells flags den [] = Ok tt
moves_fault cells flags den (move ∷ moves) = move_fault cells flags den move >>= λ _. moves_fault cells flags den moves

-- the first relation, from this number on, whose form isn't 0
abbrev pub relations_fault : Numbers → ℕ → List Relation → Result (Unit {0}) WorldFault
relations_fault numbers number [] = Ok tt
relations_fault numbers number (r ∷ relations) =
    if int_eq (form numbers r) (pos 0) then relations_fault numbers (number + 1) relations
    else Err (fault.Relation number)

-- the first fault of a world for a hidden set
abbrev pub world_fault : System → List Cell → List Bool → World → Result (Unit {0}) WorldFault
world_fault system cells flags world =
    refuse fault.Den (int_lt world.den (pos 1)) >>= λ _.
    refuse_at fault.Order (first_misplaced system.cells 0 0 (terms_of world.moves)) >>= λ _.
    moves_fault cells flags world.den (terms_of world.moves) >>= λ _.
    relations_fault (number_given (terms_of world.moves)) 0 system.relations

-- what is given is a world for the hidden set: its moves are listed, and with 0 for all other cells they make a world
pub record IsGivenWorld (system : System) (cells : List Cell) (flags : List Bool) (world : World) : Type 0 where
  pub listed : IsListed system.cells (terms_of world.moves)
  pub is_world : IsWorld system cells flags world.den (number_given (terms_of world.moves))
