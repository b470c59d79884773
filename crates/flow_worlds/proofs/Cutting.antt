-- Where a search doesn't go round, the multipliers of what it has reached are tight.
use Rattle.std.proofs.Common.{◌≡◌, ◌≢◌, ◌⊎◌, inl, inr, ℕ, ◌<◌, ◌==◌, Bool, true, false, not, List, [], ◌∷◌, length, All, slice_get, Option, Some, ℤ, pos, ◌+ℤ◌, ◌-ℤ◌, ◌*ℤ◌, ◌<ℤ◌, arith, refl, ap, sym, subst, ◌∙◌, if◌then◌else◌}
use Rattle.std.specs.Option.{option_map_or}
use Rattle.std.proofs.lemmas.Int.{ints}
use Rattle.std.proofs.lemmas.Bool.Decides.{Decides-eqb, nat_tests}
use Rattle.std.proofs.lemmas.List.Elements.{All-nil}
use Rattle.std.proofs.lemmas.Option.{slice_get_within}
use Rattle.sdc_base.specs.declared.cell.Cell.{Cell}
use Rattle.sdc_base.specs.declared.relation.Relation.{Relation}
use Rattle.sdc_base.specs.Forms.{Term, coefficient, weighted_forms}
use Rattle.sdc_base.specs.HiddenSets.{is_hidden}
use Rattle.sdc_base.specs.Signs.{number_with_sign, times_counted}
use Rattle.sdc_base.specs.Systems.{number_at}
use Rattle.sdc_base.specs.Totals.{sum_below}
use Rattle.sdc_base.specs.Worlds.{IsWithinBounds}
use Rattle.sdc_base.proofs.TotalLemmas.{sum_of-cons}
use Rattle.worlds.specs.NumberLists.{IsListed}
use Rattle.worlds.specs.declared.multipliers.Multipliers.{Multipliers}
use Rattle.signed_network.specs.declared.arcs.Arc.{Arc}
use Rattle.flow_worlds.specs.declared.steps.Step.{Step}
use Rattle.flow_worlds.specs.declared.search.Search.{Search}
use Rattle.flow_worlds.specs.declared.task.Task.{Task}
use Rattle.signed_network.specs.Arcs.{arc_at, is_same}
use Rattle.signed_network.specs.Networks.{Touches}
use Rattle.flow_worlds.specs.Rooms.{has_room}
use Rattle.flow_worlds.specs.Steps.{step_of, step_from, turn_of}
use Rattle.flow_worlds.specs.Tasks.{IsTask}
use Rattle.flow_worlds.specs.Flows.{IsFlow}
use Rattle.flow_worlds.specs.Searches.{IsClosed, IsGone, IsOpenStep, IsSearchOf, is_open, is_reached}
use Rattle.flow_worlds.specs.Cuts.{IsCut, IsOne, IsTight, weight_of}
use Rattle.flow_worlds.proofs.Rooming.{no_room_up, no_room_down}
use Rattle.flow_worlds.proofs.Searching.{of_cell, of_up}
use Rattle.flow_worlds.proofs.Weighing.{flag_at, weights_come_to}
use Rattle.flow_worlds.proofs.Listing.{none_is_listed}

-- ---- closed steps

-- a cell that can't go to a side is at its bound there
at_bound : (b : Bool) (cell : Cell) (by : ℤ) → IsWithinBounds cell (pos 1) by → has_room b cell by ≡ false → (b ≡ true → cell.high ≡ Some (cell.truth +ℤ by)) × (b ≡ false → cell.low ≡ cell.truth +ℤ by)
at_bound true cell by within none = (λ _. no_room_up cell by within none, λ clash. absurd (let wrong : true ≡ false = clash in cc))
at_bound false cell by within none = (λ clash. absurd (let wrong : false ≡ true = clash in cc), λ _. no_room_down cell by within none)

closed_room : (forward : Bool) (cells : List Cell) (moves : List ℤ) (step : Step) (cell : Cell) → slice_get cells step.cell ≡ Some cell → is_open forward cells moves step ≡ false → has_room (is_same step.up forward) cell (number_at moves step.cell) ≡ false
closed_room forward cells moves step cell found test = ap (λ (o : Option Cell). option_map_or (λ one. has_room (is_same step.up forward) one (number_at moves step.cell)) o false) (sym found) ∙ test

-- either a test holds or not
decided : (b : Bool) → (b ≡ true) ⊎ (b ≡ false)
decided true = inl refl
decided false = inr refl

not_true : (b : Bool) → (b ≡ true → ⊥) → b ≡ false
not_true true wrong = absurd (wrong refl)
not_true false wrong = refl

-- a step out of a closed set isn't open
out_closed : (task : Task) (moves : List ℤ) (forward : Bool) (inside : ℕ → Bool) (point cell : ℕ) → IsClosed task moves forward inside → inside point ≡ true → cell < length task.arcs.now → is_hidden task.flags.now cell ≡ true → cell ≢ task.asked.cell → Touches (arc_at task.arcs.now cell) point → inside (step_from point cell (arc_at task.arcs.now cell)).end ≡ false → is_open forward task.cells.now moves (step_from point cell (arc_at task.arcs.now cell)) ≡ false
out_closed task moves forward inside point cell closed here known hidden other touches out =
    not_true (is_open forward task.cells.now moves (step_from point cell (arc_at task.arcs.now cell))) (λ opened. (let clash : true ≡ false = sym (closed point here cell known hidden touches other opened) ∙ out in cc))

-- the step from where an arc begins goes up, and that from where it ends alone goes down
from_begin : (cell : ℕ) (arc : Arc) → step_from arc.from cell arc ≡ step_of cell arc true
from_begin cell arc = ap (λ (b : Bool). step_of cell arc b) ((Decides-eqb arc.from arc.from).1 refl)

from_finish : (cell : ℕ) (arc : Arc) → arc.from ≢ arc.to → step_from arc.to cell arc ≡ step_of cell arc false
from_finish cell arc apart = ap (λ (b : Bool). step_of cell arc b) (let test : (arc.from == arc.to) ≡ false = grind (arith, nat_tests, apart) in test)

flag_yes : (reached : List Bool) (point : ℕ) → is_reached reached point ≡ true → flag_at reached point ≡ pos 1
flag_yes reached point met = ap (λ (b : Bool). if b then pos 1 else pos 0) met

flag_not : (reached : List Bool) (point : ℕ) → is_reached reached point ≡ false → flag_at reached point ≡ pos 0
flag_not reached point unmet = ap (λ (b : Bool). if b then pos 1 else pos 0) unmet

-- what a cell's coefficient says of where its arc begins and ends
signed_above : (forward f t : Bool) → pos 0 <ℤ number_with_sign (not forward) ((if t then pos 1 else pos 0) -ℤ (if f then pos 1 else pos 0)) → (f ≡ forward) × (t ≡ not forward)
signed_above true true true up = absurd (omega (arith, ints, up))
signed_above true true false up = (refl, refl)
signed_above true false true up = absurd (omega (arith, ints, up))
signed_above true false false up = absurd (omega (arith, ints, up))
signed_above false true true up = absurd (omega (arith, ints, up))
signed_above false true false up = absurd (omega (arith, ints, up))
signed_above false false true up = (refl, refl)
signed_above false false false up = absurd (omega (arith, ints, up))

signed_below : (forward f t : Bool) → number_with_sign (not forward) ((if t then pos 1 else pos 0) -ℤ (if f then pos 1 else pos 0)) <ℤ pos 0 → (f ≡ not forward) × (t ≡ forward)
signed_below true true true down = absurd (omega (arith, ints, down))
signed_below true true false down = absurd (omega (arith, ints, down))
signed_below true false true down = (refl, refl)
signed_below true false false down = absurd (omega (arith, ints, down))
signed_below false true true down = absurd (omega (arith, ints, down))
signed_below false true false down = (refl, refl)
signed_below false false true down = absurd (omega (arith, ints, down))
signed_below false false false down = absurd (omega (arith, ints, down))

-- what is known of a search that doesn't go round
pub record DoesStop (task : Task) (moves : List ℤ) (forward : Bool) (first : Step) (reached : List Bool) : Type 0 where
  pub closed : IsClosed task moves forward (is_reached reached)
  pub begins : is_reached reached first.end ≡ true
  pub open_end : is_reached reached first.start ≡ false
  pub outside : is_reached reached (length task.system.now.relations) ≡ false
  pub first_is : first ≡ step_of task.asked.cell (arc_at task.arcs.now task.asked.cell) (is_same task.asked.up forward)

apart_flags : (reached : List Bool) (one other : ℕ) → is_reached reached one ≡ true → is_reached reached other ≡ false → one ≢ other
apart_flags reached one other met unmet same = let clash : true ≡ false = sym met ∙ ap (λ (p : ℕ). is_reached reached p) same ∙ unmet in cc

-- an arc that leaves the set is over a cell that can't go that way
out_up : (task : Task) (moves : List ℤ) (forward : Bool) (first : Step) (reached : List Bool) (c : ℕ) (cell : Cell) → DoesStop task moves forward first reached → c < length task.arcs.now → is_hidden task.flags.now c ≡ true → c ≢ task.asked.cell → slice_get task.cells.now c ≡ Some cell
    → is_reached reached (arc_at task.arcs.now c).from ≡ true → is_reached reached (arc_at task.arcs.now c).to ≡ false → has_room (is_same true forward) cell (number_at moves c) ≡ false
out_up task moves forward first reached c cell stop known hidden other found from to =
    let arc : Arc = arc_at task.arcs.now c in
    let step_is : step_from arc.from c arc ≡ step_of c arc true = from_begin c arc in
    let shut = out_closed task moves forward (is_reached reached) arc.from c stop.closed from known hidden other (inl refl) (ap (λ (s : Step). is_reached reached s.end) step_is ∙ to) in
    closed_room forward task.cells.now moves (step_of c arc true) cell found (ap (λ (s : Step). is_open forward task.cells.now moves s) (sym step_is) ∙ shut)

out_down : (task : Task) (moves : List ℤ) (forward : Bool) (first : Step) (reached : List Bool) (c : ℕ) (cell : Cell) → DoesStop task moves forward first reached → c < length task.arcs.now → is_hidden task.flags.now c ≡ true → c ≢ task.asked.cell → slice_get task.cells.now c ≡ Some cell
    → is_reached reached (arc_at task.arcs.now c).to ≡ true → is_reached reached (arc_at task.arcs.now c).from ≡ false → has_room (is_same false forward) cell (number_at moves c) ≡ false
out_down task moves forward first reached c cell stop known hidden other found to from =
    let arc : Arc = arc_at task.arcs.now c in
    let apart : arc.from ≢ arc.to = λ same. apart_flags reached arc.to arc.from to from (sym same) in
    let step_is : step_from arc.to c arc ≡ step_of c arc false = from_finish c arc apart in
    let shut = out_closed task moves forward (is_reached reached) arc.to c stop.closed to known hidden other (inr refl) (ap (λ (s : Step). is_reached reached s.end) step_is ∙ from) in
    closed_room forward task.cells.now moves (step_of c arc false) cell found (ap (λ (s : Step). is_open forward task.cells.now moves s) (sym step_is) ∙ shut)

-- the asked cell's coefficient is 0
no_turn : (asked forward : Bool) (f t : Bool) (start end : Bool) → (is_same asked forward ≡ true → (start ≡ f) × (end ≡ t)) → (is_same asked forward ≡ false → (start ≡ t) × (end ≡ f)) → start ≡ false → end ≡ true → number_with_sign asked (pos 1) +ℤ number_with_sign (not forward) ((if t then pos 1 else pos 0) -ℤ (if f then pos 1 else pos 0)) ≡ pos 0
no_turn true true true t start end up down open_end begins = absurd (let clash : true ≡ false = sym (up refl).0 ∙ open_end in cc)
no_turn true true false true start end up down open_end begins = refl
no_turn true true false false start end up down open_end begins = absurd (let clash : false ≡ true = sym (up refl).1 ∙ begins in cc)
no_turn true false true true start end up down open_end begins = absurd (let clash : true ≡ false = sym (down refl).0 ∙ open_end in cc)
no_turn true false true false start end up down open_end begins = refl
no_turn true false false t start end up down open_end begins = absurd (let clash : false ≡ true = sym (down refl).1 ∙ begins in cc)
no_turn false true true true start end up down open_end begins = absurd (let clash : true ≡ false = sym (down refl).0 ∙ open_end in cc)
no_turn false true true false start end up down open_end begins = refl
no_turn false true false t start end up down open_end begins = absurd (let clash : false ≡ true = sym (down refl).1 ∙ begins in cc)
no_turn false false true t start end up down open_end begins = absurd (let clash : true ≡ false = sym (up refl).0 ∙ open_end in cc)
no_turn false false false true start end up down open_end begins = refl
no_turn false false false false start end up down open_end begins = absurd (let clash : false ≡ true = sym (up refl).1 ∙ begins in cc)

ends_up : (reached : List Bool) (cell : ℕ) (arc : Arc) (first : Step) (b : Bool) → first ≡ step_of cell arc b → b ≡ true → (is_reached reached first.start ≡ is_reached reached arc.from) × (is_reached reached first.end ≡ is_reached reached arc.to)
ends_up reached cell arc first b is up =
    let same : first ≡ step_of cell arc true = is ∙ ap (λ (u : Bool). step_of cell arc u) up in
    (ap (λ (s : Step). is_reached reached s.start) same, ap (λ (s : Step). is_reached reached s.end) same)

ends_down : (reached : List Bool) (cell : ℕ) (arc : Arc) (first : Step) (b : Bool) → first ≡ step_of cell arc b → b ≡ false → (is_reached reached first.start ≡ is_reached reached arc.to) × (is_reached reached first.end ≡ is_reached reached arc.from)
ends_down reached cell arc first b is down =
    let same : first ≡ step_of cell arc false = is ∙ ap (λ (u : Bool). step_of cell arc u) down in
    (ap (λ (s : Step). is_reached reached s.start) same, ap (λ (s : Step). is_reached reached s.end) same)

-- ---- the cut

-- the coefficient of a cell
cell_counts : (task : Task) (reached : List Bool) (forward : Bool) (multipliers : List Term) (c : ℕ) → IsTask task → c < length task.arcs.now → is_reached reached (length task.system.now.relations) ≡ false
    → coefficient (weighted_forms task.system.now.relations multipliers) c ≡ sum_below (length task.signs.now) (λ number. weight_of task.signs.now reached forward number *ℤ times_counted task.system.now.relations number c)
    → coefficient ((task.asked.cell, turn_of task.asked) ∷ weighted_forms task.system.now.relations multipliers) c ≡ (if task.asked.cell == c then turn_of task.asked else pos 0) +ℤ number_with_sign (not forward) (flag_at reached (arc_at task.arcs.now c).to -ℤ flag_at reached (arc_at task.arcs.now c).from)
cell_counts task reached forward multipliers c is known outside counts =
    sum_of-cons (λ (t : Term). if t.0 == c then t.1 else pos 0) (task.asked.cell, turn_of task.asked) (weighted_forms task.system.now.relations multipliers)
    ∙ ap (λ z. (if task.asked.cell == c then turn_of task.asked else pos 0) +ℤ z)
    (counts ∙ ap (λ (n : ℕ). sum_below n (λ number. weight_of task.signs.now reached forward number *ℤ times_counted task.system.now.relations number c)) is.are_signs.each
    ∙ weights_come_to task.system.now.relations task.signs.now reached forward c (arc_at task.arcs.now c) (is.are_arcs.arced c (omega (arith, known, is.are_arcs.each))) outside)

asked_counts : (task : Task) (moves : List ℤ) (forward : Bool) (first : Step) (reached : List Bool) → DoesStop task moves forward first reached → turn_of task.asked +ℤ number_with_sign (not forward) (flag_at reached (arc_at task.arcs.now task.asked.cell).to -ℤ flag_at reached (arc_at task.arcs.now task.asked.cell).from) ≡ pos 0
asked_counts task moves forward first reached stop =
    let arc : Arc = arc_at task.arcs.now task.asked.cell in
    no_turn task.asked.up forward (is_reached reached arc.from) (is_reached reached arc.to) (is_reached reached first.start) (is_reached reached first.end)
    (λ up. ends_up reached task.asked.cell arc first (is_same task.asked.up forward) stop.first_is up) (λ down. ends_down reached task.asked.cell arc first (is_same task.asked.up forward) stop.first_is down) stop.open_end stop.begins

same_yes : (forward : Bool) → is_same forward forward ≡ true
same_yes true = refl
same_yes false = refl

same_not : (forward : Bool) → is_same (not forward) forward ≡ false
same_not true = refl
same_not false = refl

pub cut_is : (task : Task) (moves : List ℤ) (forward : Bool) (first : Step) (reached : List Bool) (multipliers : Multipliers) → IsTask task → IsFlow task moves → DoesStop task moves forward first reached → multipliers.den ≡ pos 1 → IsListed (length task.signs.now) multipliers.by_relation → All (λ (m : Term). IsOne m.1) multipliers.by_relation
    → ((relations : List Relation) (cell : ℕ) → coefficient (weighted_forms relations multipliers.by_relation) cell ≡ sum_below (length task.signs.now) (λ number. weight_of task.signs.now reached forward number *ℤ times_counted relations number cell)) → IsCut task moves multipliers
cut_is task moves forward first reached multipliers is flow stop whole listed ones counts = record {
  whole = whole;
  listed = subst (λ (n : ℕ). IsListed n multipliers.by_relation) is.are_signs.each listed;
  ones = ones;
  tight = record {
    above = λ c cell found hidden above. (bound c cell found hidden).0 above;
    below = λ c cell found hidden below. (bound c cell found hidden).1 below;
  };
}
  where
    k : ℕ → ℤ
    k = coefficient ((task.asked.cell, turn_of task.asked) ∷ weighted_forms task.system.now.relations multipliers.by_relation)

    -- another cell than the asked one
    other_bound : (c : ℕ) (cell : Cell) → slice_get task.cells.now c ≡ Some cell → is_hidden task.flags.now c ≡ true → c < length task.arcs.now → c ≢ task.asked.cell → (z : ℤ) → z ≡ number_with_sign (not forward) (flag_at reached (arc_at task.arcs.now c).to -ℤ flag_at reached (arc_at task.arcs.now c).from) → (pos 0 <ℤ z → cell.high ≡ Some (cell.truth +ℤ number_at moves c)) × (z <ℤ pos 0 → cell.low ≡ cell.truth +ℤ number_at moves c)
    other_bound c cell found hidden known other z z_is =
        let arc : Arc = arc_at task.arcs.now c in
        let within : IsWithinBounds cell (pos 1) (number_at moves c) = flow.bounds_hold c cell found in (
          λ up. (let at = signed_above forward (is_reached reached arc.from) (is_reached reached arc.to) (subst (λ y. pos 0 <ℤ y) z_is up) in high_of forward refl c cell found hidden known other within at.0 at.1),
          λ down. (let at = signed_below forward (is_reached reached arc.from) (is_reached reached arc.to) (subst (λ y. y <ℤ pos 0) z_is down) in low_of forward refl c cell found hidden known other within at.0 at.1),
        )
      where
        high_of : (b : Bool) → forward ≡ b → (c : ℕ) (cell : Cell) → slice_get task.cells.now c ≡ Some cell → is_hidden task.flags.now c ≡ true → c < length task.arcs.now → c ≢ task.asked.cell → IsWithinBounds cell (pos 1) (number_at moves c) → is_reached reached (arc_at task.arcs.now c).from ≡ forward → is_reached reached (arc_at task.arcs.now c).to ≡ not forward → cell.high ≡ Some (cell.truth +ℤ number_at moves c)
        high_of true way c cell found hidden known other within from to =
            let shut = out_up task moves forward first reached c cell stop known hidden other found (from ∙ way) (to ∙ ap not way) in
            (at_bound true cell (number_at moves c) within (ap (λ (b : Bool). has_room (is_same true b) cell (number_at moves c)) (sym way) ∙ shut)).0 refl
        high_of false way c cell found hidden known other within from to =
            let shut = out_down task moves forward first reached c cell stop known hidden other found (to ∙ ap not way) (from ∙ way) in
            (at_bound true cell (number_at moves c) within (ap (λ (b : Bool). has_room (is_same false b) cell (number_at moves c)) (sym way) ∙ shut)).0 refl

        low_of : (b : Bool) → forward ≡ b → (c : ℕ) (cell : Cell) → slice_get task.cells.now c ≡ Some cell → is_hidden task.flags.now c ≡ true → c < length task.arcs.now → c ≢ task.asked.cell → IsWithinBounds cell (pos 1) (number_at moves c) → is_reached reached (arc_at task.arcs.now c).from ≡ not forward → is_reached reached (arc_at task.arcs.now c).to ≡ forward → cell.low ≡ cell.truth +ℤ number_at moves c
        low_of true way c cell found hidden known other within from to =
            let shut = out_down task moves forward first reached c cell stop known hidden other found (to ∙ way) (from ∙ ap not way) in
            (at_bound false cell (number_at moves c) within (ap (λ (b : Bool). has_room (is_same false b) cell (number_at moves c)) (sym way) ∙ shut)).1 refl
        low_of false way c cell found hidden known other within from to =
            let shut = out_up task moves forward first reached c cell stop known hidden other found (from ∙ ap not way) (to ∙ way) in
            (at_bound false cell (number_at moves c) within (ap (λ (b : Bool). has_room (is_same true b) cell (number_at moves c)) (sym way) ∙ shut)).1 refl

    bound : (c : ℕ) (cell : Cell) → slice_get task.cells.now c ≡ Some cell → is_hidden task.flags.now c ≡ true → (pos 0 <ℤ coefficient ((task.asked.cell, turn_of task.asked) ∷ weighted_forms task.system.now.relations multipliers.by_relation) c → cell.high ≡ Some (cell.truth +ℤ number_at moves c)) × (coefficient ((task.asked.cell, turn_of task.asked) ∷ weighted_forms task.system.now.relations multipliers.by_relation) c <ℤ pos 0 → cell.low ≡ cell.truth +ℤ number_at moves c)
    bound c cell found hidden =
        let known : c < length task.arcs.now = omega (arith, slice_get_within task.cells.now c cell found, is.are_arcs.each, is.ground.each_cell) in
        let counted = cell_counts task reached forward multipliers.by_relation c is known stop.outside (counts task.system.now.relations c) in
        elim (task.asked.cell == c) as (λ b. (task.asked.cell == c) ≡ b → (pos 0 <ℤ coefficient ((task.asked.cell, turn_of task.asked) ∷ weighted_forms task.system.now.relations multipliers.by_relation) c → cell.high ≡ Some (cell.truth +ℤ number_at moves c)) × (coefficient ((task.asked.cell, turn_of task.asked) ∷ weighted_forms task.system.now.relations multipliers.by_relation) c <ℤ pos 0 → cell.low ≡ cell.truth +ℤ number_at moves c)) [
          | true ↦ λ test.
              let same : task.asked.cell ≡ c = (Decides-eqb task.asked.cell c).0 test in
              let none : coefficient ((task.asked.cell, turn_of task.asked) ∷ weighted_forms task.system.now.relations multipliers.by_relation) c ≡ pos 0 =
              counted ∙ ap (λ (b : Bool). (if b then turn_of task.asked else pos 0) +ℤ number_with_sign (not forward) (flag_at reached (arc_at task.arcs.now c).to -ℤ flag_at reached (arc_at task.arcs.now c).from)) test
              ∙ ap (λ (n : ℕ). turn_of task.asked +ℤ number_with_sign (not forward) (flag_at reached (arc_at task.arcs.now n).to -ℤ flag_at reached (arc_at task.arcs.now n).from)) (sym same)
              ∙ asked_counts task moves forward first reached stop in
              (λ up. absurd (omega (arith, ints, none, up)), λ down. absurd (omega (arith, ints, none, down)))
          | false ↦ λ test.
              let apart : c ≢ task.asked.cell = grind (arith, nat_tests, test) in
              let z_is = counted ∙ ap (λ (b : Bool). (if b then turn_of task.asked else pos 0) +ℤ number_with_sign (not forward) (flag_at reached (arc_at task.arcs.now c).to -ℤ flag_at reached (arc_at task.arcs.now c).from)) test in
              other_bound c cell found hidden known apart (coefficient ((task.asked.cell, turn_of task.asked) ∷ weighted_forms task.system.now.relations multipliers.by_relation) c) (omega (arith, ints, z_is))
        ] refl

-- ---- the asked cell can't go at all

asked_alone : (asked : ℕ) (turn : ℤ) (c : ℕ) → coefficient ((asked, turn) ∷ []) c ≡ (if asked == c then turn else pos 0)
asked_alone asked turn c = sum_of-cons (λ (t : Term). if t.0 == c then t.1 else pos 0) (asked, turn) [] ∙ omega (arith, ints)

pub none_is_cut : (task : Task) (moves : List ℤ) (multipliers : Multipliers) → IsFlow task moves → is_open true task.cells.now moves task.asked ≡ false → multipliers.den ≡ pos 1 → multipliers.by_relation ≡ [] → IsCut task moves multipliers
none_is_cut task moves multipliers flow shut whole none = record {
  whole = whole;
  listed = subst (λ (ms : List Term). IsListed (length task.system.now.relations) ms) (sym none) (none_is_listed (length task.system.now.relations));
  ones = subst (λ (ms : List Term). All (λ (m : Term). IsOne m.1) ms) (sym none) (All-nil (λ (m : Term). IsOne m.1));
  tight = subst (λ (ms : List Term). IsTight task.cells.now task.flags.now (number_at moves) (coefficient ((task.asked.cell, turn_of task.asked) ∷ weighted_forms task.system.now.relations ms))) (sym none) (record {
    above = λ c cell found hidden up. (bound c cell found task.asked.up refl).0 up;
    below = λ c cell found hidden down. (bound c cell found task.asked.up refl).1 down;
  });
}
  where
    bound : (c : ℕ) (cell : Cell) → slice_get task.cells.now c ≡ Some cell → (b : Bool) → task.asked.up ≡ b → (pos 0 <ℤ coefficient ((task.asked.cell, turn_of task.asked) ∷ []) c → cell.high ≡ Some (cell.truth +ℤ number_at moves c)) × (coefficient ((task.asked.cell, turn_of task.asked) ∷ []) c <ℤ pos 0 → cell.low ≡ cell.truth +ℤ number_at moves c)
    bound c cell found b way =
        elim (task.asked.cell == c) as (λ t. (task.asked.cell == c) ≡ t → (pos 0 <ℤ coefficient ((task.asked.cell, turn_of task.asked) ∷ []) c → cell.high ≡ Some (cell.truth +ℤ number_at moves c)) × (coefficient ((task.asked.cell, turn_of task.asked) ∷ []) c <ℤ pos 0 → cell.low ≡ cell.truth +ℤ number_at moves c)) [
          | true ↦ λ test.
              let same : task.asked.cell ≡ c = (Decides-eqb task.asked.cell c).0 test in
              let count : coefficient ((task.asked.cell, turn_of task.asked) ∷ []) c ≡ number_with_sign b (pos 1) = asked_alone task.asked.cell (turn_of task.asked) c ∙ ap (λ (t : Bool). if t then turn_of task.asked else pos 0) test ∙ ap (λ (u : Bool). number_with_sign u (pos 1)) way in
              let there : slice_get task.cells.now task.asked.cell ≡ Some cell = ap (λ (n : ℕ). slice_get task.cells.now n) same ∙ found in
              let no_room : has_room (is_same b true) cell (number_at moves c) ≡ false = ap (λ (u : Bool). has_room (is_same u true) cell (number_at moves c)) (sym way) ∙ ap (λ (n : ℕ). has_room (is_same task.asked.up true) cell (number_at moves n)) (sym same) ∙ closed_room true task.cells.now moves task.asked cell there shut in
              by_way b cell (number_at moves c) (coefficient ((task.asked.cell, turn_of task.asked) ∷ []) c) (flow.bounds_hold c cell found) count no_room
          | false ↦ λ test.
              let count : coefficient ((task.asked.cell, turn_of task.asked) ∷ []) c ≡ pos 0 = asked_alone task.asked.cell (turn_of task.asked) c ∙ ap (λ (t : Bool). if t then turn_of task.asked else pos 0) test in
              (λ up. absurd (omega (arith, ints, count, up)), λ down. absurd (omega (arith, ints, count, down)))
        ] refl
      where
        by_way : (b : Bool) (cell : Cell) (by z : ℤ) → IsWithinBounds cell (pos 1) by → z ≡ number_with_sign b (pos 1) → has_room (is_same b true) cell by ≡ false → (pos 0 <ℤ z → cell.high ≡ Some (cell.truth +ℤ by)) × (z <ℤ pos 0 → cell.low ≡ cell.truth +ℤ by)
        by_way true cell by z within is room = (λ up. no_room_up cell by within room, λ down. absurd (omega (arith, ints, is, down)))
        by_way false cell by z within is room = (λ up. absurd (omega (arith, ints, is, up)), λ down. no_room_down cell by within room)

-- ---- a search backward

turned_same : (up : Bool) → is_same (not up) false ≡ up
turned_same true = refl
turned_same false = refl

plain_same : (up : Bool) → is_same up true ≡ up
plain_same true = refl
plain_same false = refl

not_same : (up : Bool) → is_same up false ≡ not up
not_same true = refl
not_same false = refl

-- the asked step turned round is open backward where it is open forward
pub turned_open : (task : Task) (moves : List ℤ) (step : Step) → IsTask task → IsOpenStep task moves true task.asked → step ≡ step_of task.asked.cell (arc_at task.arcs.now task.asked.cell) (not task.asked.up) → IsOpenStep task moves false step
turned_open task moves step is opened so =
    subst (IsOpenStep task moves false) (sym so) (record {
      known = omega (arith, cell_is, opened.known);
      hidden = ap (λ (c : ℕ). is_hidden task.flags.now c) cell_is ∙ opened.hidden;
      along = along task.asked.cell (not task.asked.up);
      opened = ap (λ (c : ℕ). option_map_or (λ one. has_room (is_same turned.up false) one (number_at moves c)) (slice_get task.cells.now c) false) cell_is
          ∙ ap (λ (b : Bool). option_map_or (λ one. has_room b one (number_at moves task.asked.cell)) (slice_get task.cells.now task.asked.cell) false) (ap (λ (u : Bool). is_same u false) up_is ∙ turned_same task.asked.up ∙ sym (plain_same task.asked.up)) ∙ opened.opened;
    })
  where
    turned : Step
    turned = step_of task.asked.cell (arc_at task.arcs.now task.asked.cell) (not task.asked.up)

    cell_is : (step_of task.asked.cell (arc_at task.arcs.now task.asked.cell) (not task.asked.up)).cell ≡ task.asked.cell
    cell_is = of_cell task.asked.cell (arc_at task.arcs.now task.asked.cell) (not task.asked.up)

    up_is : (step_of task.asked.cell (arc_at task.arcs.now task.asked.cell) (not task.asked.up)).up ≡ not task.asked.up
    up_is = of_up task.asked.cell (arc_at task.arcs.now task.asked.cell) (not task.asked.up)

    along : (c : ℕ) (u : Bool) → step_of c (arc_at task.arcs.now c) u ≡ step_of (step_of c (arc_at task.arcs.now c) u).cell (arc_at task.arcs.now (step_of c (arc_at task.arcs.now c) u).cell) (step_of c (arc_at task.arcs.now c) u).up
    along c true = refl
    along c false = refl

-- what a search forward hasn't reached is closed backward
pub unmet_closed : (task : Task) (moves : List ℤ) (reached : List Bool) → IsClosed task moves true (is_reached reached) → IsClosed task moves false (λ point. not (is_reached reached point))
unmet_closed task moves reached closed point out cell known hidden touches other opened =
    elim (decided (is_reached reached (step_from point cell arc).end)) as (λ _. not (is_reached reached (step_from point cell arc).end) ≡ true) [
      | inl met ↦ absurd (let clash : true ≡ false = sym (back (arc.from == point) refl touches met opened) ∙ unmet point out in cc)
      | inr unmet_end ↦ ap not unmet_end
    ]
  where
    arc : Arc
    arc = arc_at task.arcs.now cell

    unmet : (p : ℕ) → not (is_reached reached p) ≡ true → is_reached reached p ≡ false
    unmet p is = not_true (is_reached reached p) (λ met. (let clash : false ≡ true = sym (ap not met) ∙ is in cc))

    open_other : (u v : Bool) → u ≡ not v → is_open false task.cells.now moves (step_of cell (arc_at task.arcs.now cell) u) ≡ true → is_open true task.cells.now moves (step_of cell (arc_at task.arcs.now cell) v) ≡ true
    open_other true true is test = absurd (let clash : true ≡ false = is in cc)
    open_other true false is test = test
    open_other false true is test = test
    open_other false false is test = absurd (let clash : false ≡ true = is in cc)

    back : (b : Bool) → ((arc_at task.arcs.now cell).from == point) ≡ b → Touches (arc_at task.arcs.now cell) point → is_reached reached (step_from point cell (arc_at task.arcs.now cell)).end ≡ true → is_open false task.cells.now moves (step_from point cell (arc_at task.arcs.now cell)) ≡ true → is_reached reached point ≡ true
    back true test touching met opens =
        let from_is : (arc_at task.arcs.now cell).from ≡ point = (Decides-eqb (arc_at task.arcs.now cell).from point).0 test in
        let step_is : step_from point cell (arc_at task.arcs.now cell) ≡ step_of cell (arc_at task.arcs.now cell) true = ap (λ (u : Bool). step_of cell (arc_at task.arcs.now cell) u) test in
        let to_met : is_reached reached (arc_at task.arcs.now cell).to ≡ true = ap (λ (s : Step). is_reached reached s.end) (sym step_is) ∙ met in
        elim (decided ((arc_at task.arcs.now cell).from == (arc_at task.arcs.now cell).to)) as (λ _. is_reached reached point ≡ true) [
          | inl same ↦ ap (λ (p : ℕ). is_reached reached p) (sym from_is ∙ (Decides-eqb (arc_at task.arcs.now cell).from (arc_at task.arcs.now cell).to).0 same) ∙ to_met
          | inr differ ↦
              let back_is : step_from (arc_at task.arcs.now cell).to cell (arc_at task.arcs.now cell) ≡ step_of cell (arc_at task.arcs.now cell) false = ap (λ (u : Bool). step_of cell (arc_at task.arcs.now cell) u) differ in
              let open_back : is_open true task.cells.now moves (step_from (arc_at task.arcs.now cell).to cell (arc_at task.arcs.now cell)) ≡ true = ap (λ (s : Step). is_open true task.cells.now moves s) back_is ∙ open_other true false refl (ap (λ (s : Step). is_open false task.cells.now moves s) (sym step_is) ∙ opens) in
              ap (λ (p : ℕ). is_reached reached p) (sym from_is) ∙ sym (ap (λ (s : Step). is_reached reached s.end) back_is) ∙ closed (arc_at task.arcs.now cell).to to_met cell known hidden (inr refl) other open_back
        ]
    back false test (inl from) met opens = absurd (let yes_is : ((arc_at task.arcs.now cell).from == point) ≡ true = (Decides-eqb (arc_at task.arcs.now cell).from point).1 from in let clash : true ≡ false = sym yes_is ∙ test in cc)
    back false test (inr to) met opens =
        let step_is : step_from point cell (arc_at task.arcs.now cell) ≡ step_of cell (arc_at task.arcs.now cell) false = ap (λ (u : Bool). step_of cell (arc_at task.arcs.now cell) u) test in
        let from_met : is_reached reached (arc_at task.arcs.now cell).from ≡ true = ap (λ (s : Step). is_reached reached s.end) (sym step_is) ∙ met in
        let back_is : step_from (arc_at task.arcs.now cell).from cell (arc_at task.arcs.now cell) ≡ step_of cell (arc_at task.arcs.now cell) true = from_begin cell (arc_at task.arcs.now cell) in
        let open_back : is_open true task.cells.now moves (step_from (arc_at task.arcs.now cell).from cell (arc_at task.arcs.now cell)) ≡ true = ap (λ (s : Step). is_open true task.cells.now moves s) back_is ∙ open_other false true refl (ap (λ (s : Step). is_open false task.cells.now moves s) (sym step_is) ∙ opens) in
        ap (λ (p : ℕ). is_reached reached p) (sym to) ∙ sym (ap (λ (s : Step). is_reached reached s.end) back_is) ∙ closed (arc_at task.arcs.now cell).from from_met cell known hidden (inl refl) other open_back

-- a search forward that doesn't go round stops, unless it reaches the outside
pub forward_stops : (task : Task) (moves : List ℤ) (search : Search) → IsTask task → IsSearchOf task moves true task.asked search → IsGone task moves true search → is_reached search.reached.items task.asked.start ≡ false → is_reached search.reached.items (length task.system.now.relations) ≡ false → DoesStop task moves true task.asked search.reached.items
forward_stops task moves search is has gone unmet outside = record {
  closed = gone;
  begins = ap (λ (s : Step). is_reached search.reached.items s.end) (sym has.begins) ∙ has.met 0 has.are_visits.some;
  open_end = unmet;
  outside = outside;
  first_is = is.asked_along ∙ ap (λ (u : Bool). step_of task.asked.cell (arc_at task.arcs.now task.asked.cell) u) (sym (plain_same task.asked.up));
}

turned_start : (cell : ℕ) (arc : Arc) (up : Bool) → (step_of cell arc (not up)).start ≡ (step_of cell arc up).end
turned_start cell arc true = refl
turned_start cell arc false = refl

turned_end : (cell : ℕ) (arc : Arc) (up : Bool) → (step_of cell arc (not up)).end ≡ (step_of cell arc up).start
turned_end cell arc true = refl
turned_end cell arc false = refl

-- no point that a search backward reaches is reached forward
apart_reached : (task : Task) (moves : List ℤ) (turned : Step) (forward backward : Search) → IsTask task → IsSearchOf task moves true task.asked forward → IsGone task moves true forward → is_reached forward.reached.items task.asked.start ≡ false → turned ≡ step_of task.asked.cell (arc_at task.arcs.now task.asked.cell) (not task.asked.up) → IsSearchOf task moves false turned backward → (point : ℕ) → is_reached backward.reached.items point ≡ true → is_reached forward.reached.items point ≡ false
apart_reached task moves turned forward backward is has gone unmet so back point met =
    let arc : Arc = arc_at task.arcs.now task.asked.cell in
    let end_is_start : turned.end ≡ task.asked.start = ap (λ (s : Step). s.end) so ∙ turned_end task.asked.cell arc task.asked.up ∙ sym (ap (λ (s : Step). s.start) is.asked_along) in
    let starts : not (is_reached forward.reached.items turned.end) ≡ true = ap (λ (p : ℕ). not (is_reached forward.reached.items p)) end_is_start ∙ ap not unmet in
    let out : not (is_reached forward.reached.items point) ≡ true = back.least (λ p. not (is_reached forward.reached.items p)) (unmet_closed task moves forward.reached.items gone) starts point met in
    not_true (is_reached forward.reached.items point) (λ yes_met. (let clash : false ≡ true = sym (ap not yes_met) ∙ out in cc))

unmet_where : (forward backward : List Bool) (point : ℕ) → (is_reached backward point ≡ true → is_reached forward point ≡ false) → is_reached forward point ≡ true → is_reached backward point ≡ false
unmet_where forward backward point apart met = not_true (is_reached backward point) (λ back. (let clash : true ≡ false = sym met ∙ apart back in cc))

pub backward_ends : (task : Task) (moves : List ℤ) (turned : Step) (forward backward : Search) → IsTask task → IsSearchOf task moves true task.asked forward → IsGone task moves true forward → is_reached forward.reached.items task.asked.start ≡ false → turned ≡ step_of task.asked.cell (arc_at task.arcs.now task.asked.cell) (not task.asked.up) → IsSearchOf task moves false turned backward → is_reached backward.reached.items turned.start ≡ false
backward_ends task moves turned forward backward is has gone unmet so back =
    let arc : Arc = arc_at task.arcs.now task.asked.cell in
    let start_is_end : turned.start ≡ task.asked.end = ap (λ (s : Step). s.start) so ∙ turned_start task.asked.cell arc task.asked.up ∙ sym (ap (λ (s : Step). s.end) is.asked_along) in
    let met : is_reached forward.reached.items turned.start ≡ true = ap (λ (p : ℕ). is_reached forward.reached.items p) start_is_end ∙ ap (λ (s : Step). is_reached forward.reached.items s.end) (sym has.begins) ∙ has.met 0 has.are_visits.some in
    unmet_where forward.reached.items backward.reached.items turned.start (apart_reached task moves turned forward backward is has gone unmet so back turned.start) met

-- a point that can't be reached both ways, and is unmet backward where it is unmet forward
unmet_either : (forward backward : List Bool) (point : ℕ) → (is_reached backward point ≡ true → is_reached forward point ≡ false) → (is_reached forward point ≡ false → is_reached backward point ≡ false) → is_reached backward point ≡ false
unmet_either forward backward point apart unmet = not_true (is_reached backward point) (λ back. (let clash : true ≡ false = sym back ∙ unmet (apart back) in cc))

pub backward_stops : (task : Task) (moves : List ℤ) (turned : Step) (forward backward : Search) → IsTask task → IsSearchOf task moves true task.asked forward → IsGone task moves true forward → is_reached forward.reached.items task.asked.start ≡ false → (is_reached forward.reached.items (length task.system.now.relations) ≡ false → is_reached backward.reached.items (length task.system.now.relations) ≡ false) → turned ≡ step_of task.asked.cell (arc_at task.arcs.now task.asked.cell) (not task.asked.up) → IsSearchOf task moves false turned backward → IsGone task moves false backward → DoesStop task moves false turned backward.reached.items
backward_stops task moves turned forward backward is has gone unmet outside so back back_gone = record {
  closed = back_gone;
  begins = ap (λ (s : Step). is_reached backward.reached.items s.end) (sym back.begins) ∙ back.met 0 back.are_visits.some;
  open_end = backward_ends task moves turned forward backward is has gone unmet so back;
  outside = unmet_either forward.reached.items backward.reached.items (length task.system.now.relations) (apart_reached task moves turned forward backward is has gone unmet so back (length task.system.now.relations)) outside;
  first_is = so ∙ ap (λ (u : Bool). step_of task.asked.cell (arc_at task.arcs.now task.asked.cell) u) (sym (not_same task.asked.up));
}
