-- Whether and how far a cell can go within its bounds.
use Rattle.std.proofs.Common.{◌≡◌, Bool, true, false, List, slice_get, Option, Some, None, ℤ, pos, negsuc, ◌+ℤ◌, ◌-ℤ◌, ◌*ℤ◌, ◌≤ℤ◌, ◌<ℤ◌, int_lt, int_le, arith, refl, ap, sym, subst, ◌∙◌}
use Rattle.std.specs.Option.{option_map_or}
use Rattle.std.proofs.Math.IntN.{*ℤ_comm}
use Rattle.std.proofs.lemmas.Int.{ints}
use Rattle.sdc_base.specs.declared.cell.Cell.{Cell}
use Rattle.sdc_base.specs.Signs.{number_with_sign}
use Rattle.sdc_base.specs.Worlds.{IsWithinBounds}
use Rattle.sdc_base.specs.Systems.{number_at}
use Rattle.flow_worlds.specs.declared.steps.Step.{Step}
use Rattle.signed_network.specs.Arcs.{is_same}
use Rattle.flow_worlds.specs.Rooms.{has_room}
use Rattle.flow_worlds.specs.Searches.{is_open}

-- within the bounds, over the denominator 1
pub kept : (cell : Cell) (by : ℤ) → cell.low ≤ℤ (cell.truth +ℤ by) → ((high : ℤ) → cell.high ≡ Some high → (cell.truth +ℤ by) ≤ℤ high) → IsWithinBounds cell (pos 1) by
kept cell by from to = record {
  from_low = omega (arith, ints, from);
  to_high = λ high is. omega (arith, ints, to high is);
}

pub from_low : (cell : Cell) (by : ℤ) → IsWithinBounds cell (pos 1) by → cell.low ≤ℤ (cell.truth +ℤ by)
from_low cell by within = omega (arith, ints, within.from_low)

pub to_high : (cell : Cell) (by high : ℤ) → IsWithinBounds cell (pos 1) by → cell.high ≡ Some high → (cell.truth +ℤ by) ≤ℤ high
to_high cell by high within is = omega (arith, ints, within.to_high high is)

-- a cell with an upper bound goes up to it
pub up_kept : (cell : Cell) (by high room : ℤ) → IsWithinBounds cell (pos 1) by → pos 0 ≤ℤ room → cell.high ≡ Some high → (by +ℤ room) ≤ℤ (high -ℤ cell.truth) → IsWithinBounds cell (pos 1) (by +ℤ room)
up_kept cell by high room within some is most =
    kept cell (by +ℤ room) (omega (arith, ints, from_low cell by within, some))
    (λ other same. let one : high ≡ other = (let both : Some high ≡ Some other = sym is ∙ same in cc) in omega (arith, ints, one, most))

-- one without an upper bound goes up
pub free_kept : (cell : Cell) (by room : ℤ) → IsWithinBounds cell (pos 1) by → pos 0 ≤ℤ room → cell.high ≡ None → IsWithinBounds cell (pos 1) (by +ℤ room)
free_kept cell by room within some is =
    kept cell (by +ℤ room) (omega (arith, ints, from_low cell by within, some)) (λ other same. absurd (let both : None ≡ Some other = sym is ∙ same in cc))

-- a cell goes down to its lower bound
pub down_kept : (cell : Cell) (by room : ℤ) → IsWithinBounds cell (pos 1) by → pos 0 ≤ℤ room → room ≤ℤ ((cell.truth -ℤ cell.low) +ℤ by) → IsWithinBounds cell (pos 1) (by -ℤ room)
down_kept cell by room within some most =
    kept cell (by -ℤ room) (omega (arith, ints, most)) (λ high is. omega (arith, ints, to_high cell by high within is, some))

times_one : (room : ℤ) → room *ℤ pos 1 ≡ room
times_one room = *ℤ_comm room (pos 1) ∙ omega (arith, ints)

times_minus : (room : ℤ) → room *ℤ negsuc 0 ≡ pos 0 -ℤ room
times_minus room = *ℤ_comm room (negsuc 0) ∙ omega (arith, ints)

pub by_turn_up : (by room : ℤ) (up : Bool) → up ≡ true → by +ℤ room *ℤ number_with_sign up (pos 1) ≡ by +ℤ room
by_turn_up by room true is = omega (arith, ints, times_one room)
by_turn_up by room false is = absurd (let clash : false ≡ true = is in cc)

pub by_turn_down : (by room : ℤ) (up : Bool) → up ≡ false → by +ℤ room *ℤ number_with_sign up (pos 1) ≡ by -ℤ room
by_turn_down by room true is = absurd (let clash : true ≡ false = is in cc)
by_turn_down by room false is = omega (arith, ints, times_minus room)

pub turned_up : (cell : Cell) (by room : ℤ) (up : Bool) → up ≡ true → IsWithinBounds cell (pos 1) (by +ℤ room) → IsWithinBounds cell (pos 1) (by +ℤ room *ℤ number_with_sign up (pos 1))
turned_up cell by room up is within = subst (λ (z : ℤ). IsWithinBounds cell (pos 1) z) (sym (by_turn_up by room up is)) within

pub turned_down : (cell : Cell) (by room : ℤ) (up : Bool) → up ≡ false → IsWithinBounds cell (pos 1) (by -ℤ room) → IsWithinBounds cell (pos 1) (by +ℤ room *ℤ number_with_sign up (pos 1))
turned_down cell by room up is within = subst (λ (z : ℤ). IsWithinBounds cell (pos 1) z) (sym (by_turn_down by room up is)) within

pub lt_from : (x y : ℤ) → int_lt x y ≡ true → x <ℤ y
lt_from x y test = grind (arith, ints, test)

-- what room means
pub room_up : (cell : Cell) (by high : ℤ) → cell.high ≡ Some high → has_room true cell by ≡ true → by <ℤ (high -ℤ cell.truth)
room_up cell by high is test = lt_from by (high -ℤ cell.truth) (sym (ap (λ (o : Option ℤ). option_map_or (λ h. int_lt by (h -ℤ cell.truth)) o true) is) ∙ test)

pub room_down : (cell : Cell) (by : ℤ) (up : Bool) → up ≡ false → has_room up cell by ≡ true → (cell.low -ℤ cell.truth) <ℤ by
room_down cell by true is test = absurd (let clash : true ≡ false = is in cc)
room_down cell by false is test = lt_from (cell.low -ℤ cell.truth) by test

-- and what it means that there is none
pub not_lt : (x y : ℤ) → int_lt x y ≡ false → y ≤ℤ x
not_lt x y test = grind (arith, ints, test)

full_up : (cell : Cell) (by : ℤ) (high : Option ℤ) → cell.high ≡ high → IsWithinBounds cell (pos 1) by → option_map_or (λ h. int_lt by (h -ℤ cell.truth)) high true ≡ false → high ≡ Some (cell.truth +ℤ by)
full_up cell by None is within test = absurd (let clash : true ≡ false = test in cc)
full_up cell by (Some high) is within test =
    let at_least : (high -ℤ cell.truth) ≤ℤ by = not_lt by (high -ℤ cell.truth) test in
    let at_most : (cell.truth +ℤ by) ≤ℤ high = to_high cell by high within is in
    ap Some (let same : high ≡ cell.truth +ℤ by = omega (arith, ints, at_least, at_most) in same)

pub no_room_up : (cell : Cell) (by : ℤ) → IsWithinBounds cell (pos 1) by → has_room true cell by ≡ false → cell.high ≡ Some (cell.truth +ℤ by)
no_room_up cell by within test = full_up cell by cell.high refl within test

pub no_room_down : (cell : Cell) (by : ℤ) → IsWithinBounds cell (pos 1) by → has_room false cell by ≡ false → cell.low ≡ cell.truth +ℤ by
no_room_down cell by within test =
    let at_most : by ≤ℤ (cell.low -ℤ cell.truth) = not_lt (cell.low -ℤ cell.truth) by test in
    let at_least : cell.low ≤ℤ (cell.truth +ℤ by) = from_low cell by within in
    omega (arith, ints, at_most, at_least)

-- what tests mean
pub le_yes : (x y : ℤ) → int_le x y ≡ true → x ≤ℤ y
le_yes x y test = grind (arith, ints, test)

pub le_no : (x y : ℤ) → int_le x y ≡ false → y <ℤ x
le_no x y test = grind (arith, ints, test)

-- ---- steps

same_as_true : (up : Bool) → is_same up true ≡ up
same_as_true true = refl
same_as_true false = refl

-- an open step's cell has room
pub open_room : (cells : List Cell) (moves : List ℤ) (step : Step) (cell : Cell) → slice_get cells step.cell ≡ Some cell → is_open true cells moves step ≡ true → has_room step.up cell (number_at moves step.cell) ≡ true
open_room cells moves step cell found test =
    ap (λ (up : Bool). has_room up cell (number_at moves step.cell)) (sym (same_as_true step.up))
    ∙ ap (λ (o : Option Cell). option_map_or (λ one. has_room (is_same step.up true) one (number_at moves step.cell)) o false) (sym found) ∙ test
