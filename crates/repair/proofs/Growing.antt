-- Worlds for a hidden set are worlds for every larger one.
use Rattle.std.proofs.Common.{◌≡◌, ℕ, Bool, List, [], ◌∷◌, ◌++◌, All, ℤ, pos, ◌*ℤ◌, ◌≤ℤ◌, ◌<◌, take, refl, ap, subst, arith, length}
use Rattle.std.specs.Option.{option_map_or}
use Rattle.std.proofs.lemmas.List.{length-take}
use Rattle.std.proofs.lemmas.List.Elements.{All-nil, All-cons}
use Rattle.std.proofs.lemmas.Option.{slice_get_within}
use Rattle.worlds.specs.ProtectFaults.{asked_of}
use Rattle.sdc_base.specs.declared.cell.Cell.{Cell}
use Rattle.sdc_base.specs.declared.side.Side.{Side}
use Rattle.sdc_base.specs.declared.system.System.{System}
use Rattle.sdc_base.specs.Systems.{Numbers}
use Rattle.sdc_base.specs.Worlds.{IsWorld, Protects, level, level_at, amount_toward}
use Rattle.worlds.specs.declared.world.World.{World}
use Rattle.worlds.specs.NumberLists.{terms_of, number_given}
use Rattle.worlds.specs.WorldFaults.{IsGivenWorld}
use Rattle.worlds.proofs.Bounds.{decides_le}
use Rattle.repair.specs.HidingOrder.{Case, StandsAt}
use Rattle.repair.specs.KeptWorlds.{IsServing, AreServed, AreServedBefore}
use Rattle.repair.proofs.Flags.{IsWithin, shown_within}

pub world_more : (system : System) (cells : List Cell) (flags more : List Bool) (den : ℤ) (moves : Numbers) → IsWithin flags more → IsWorld system cells flags den moves → IsWorld system cells more den moves
world_more system cells flags more den moves within is = record {
  positive = is.positive;
  shown_stay = λ cell inside shown. is.shown_stay cell inside (shown_within flags more cell within shown);
  relations_hold = is.relations_hold;
  bounds_hold = is.bounds_hold;
}

pub given_more : (system : System) (cells : List Cell) (flags more : List Bool) (world : World) → IsWithin flags more → IsGivenWorld system cells flags world → IsGivenWorld system cells more world
given_more system cells flags more world within is = record { listed = is.listed; is_world = world_more system cells flags more world.den (number_given (terms_of world.moves)) within is.is_world }

pub protects_more : (system : System) (cells : List Cell) (flags more : List Bool) (number : ℕ) (side : Side) → IsWithin flags more → Protects system cells flags number side → Protects system cells more number side
protects_more system cells flags more number side within is = (is.0, is.1, is.2, world_more system cells flags more is.0 is.1 within is.3, is.4, is.5)

pub all_protected_more : (c : Case) (flags more : List Bool) (asked : List (ℕ × Side)) → IsWithin flags more → All (λ (q : ℕ × Side). Protects c.system c.cells flags q.0 q.1) asked → All (λ (q : ℕ × Side). Protects c.system c.cells more q.0 q.1) asked
all_protected_more c flags more asked within all = λ k d inside. protects_more c.system c.cells flags more _ _ within (all k d inside)

pub served_more : (c : Case) (flags more : List Bool) (asked : List (ℕ × Side)) (worlds : List World) → IsWithin flags more → AreServed c flags asked worlds → AreServed c more asked worlds
served_more c flags more [] [] within are = tt
served_more c flags more [] (world ∷ worlds) within are = are
served_more c flags more (one ∷ asked) [] within are = are
served_more c flags more (one ∷ asked) (world ∷ worlds) within are =
    (record { is_primary = are.0.is_primary; is_world = given_more c.system c.cells flags more world within are.0.is_world; reaching = are.0.reaching }, served_more c flags more asked worlds within are.1)

-- one more question with its world
pub served_push : (c : Case) (flags : List Bool) (asked : List (ℕ × Side)) (worlds : List World) (one : ℕ × Side) (world : World) → AreServed c flags asked worlds → IsServing c flags one world → AreServed c flags (asked ++ one ∷ []) (worlds ++ world ∷ [])
served_push c flags [] [] one world are is = (is, tt)
served_push c flags [] (w ∷ worlds) one world are is = absurd are
served_push c flags (q ∷ asked) [] one world are is = absurd are
served_push c flags (q ∷ asked) (w ∷ worlds) one world are is = (are.0, served_push c flags asked worlds one world are.1 is)

-- a world that serves shows that the set protects
pub serving_protects : (c : Case) (flags : List Bool) (asked : ℕ × Side) (world : World) → IsServing c flags asked world → Protects c.system c.cells flags asked.0 asked.1
serving_protects c flags asked world is =
    let cell : Cell = is.is_primary.cell in
    let moves : Numbers = number_given (terms_of world.moves) in
    let least : level_at c.cells asked.1 asked.0 ≡ level asked.1 cell = ap (λ o. option_map_or (level asked.1) o (pos 0)) is.is_primary.found in
    let reach : (world.den *ℤ level_at c.cells asked.1 asked.0) ≤ℤ amount_toward asked.1 (moves asked.0) = (decides_le (world.den *ℤ level_at c.cells asked.1 asked.0) (amount_toward asked.1 (moves asked.0))).0 is.reaching in
    (world.den, moves, cell, is.is_world.is_world, is.is_primary.found, subst (λ l. (world.den *ℤ l) ≤ℤ amount_toward asked.1 (moves asked.0)) least reach)

pub served_protect : (c : Case) (flags : List Bool) (asked : List (ℕ × Side)) (worlds : List World) → AreServed c flags asked worlds → All (λ (q : ℕ × Side). Protects c.system c.cells flags q.0 q.1) asked
served_protect c flags [] [] are = All-nil (λ (q : ℕ × Side). Protects c.system c.cells flags q.0 q.1)
served_protect c flags [] (world ∷ worlds) are = absurd are
served_protect c flags (one ∷ asked) [] are = absurd are
served_protect c flags (one ∷ asked) (world ∷ worlds) are =
    All-cons (λ (q : ℕ × Side). Protects c.system c.cells flags q.0 q.1) one asked (serving_protects c flags one world are.0) (served_protect c flags asked worlds are.1)

pub served_length : (c : Case) (flags : List Bool) (asked : List (ℕ × Side)) (worlds : List World) → AreServed c flags asked worlds → length worlds ≡ length asked
served_length c flags [] [] are = refl
served_length c flags [] (world ∷ worlds) are = absurd are
served_length c flags (one ∷ asked) [] are = absurd are
served_length c flags (one ∷ asked) (world ∷ worlds) are = omega (arith, served_length c flags asked worlds are.1)

-- there are as many worlds as questions before the place
pub served_so_far : (c : Case) (flags : List Bool) (place : ℕ) (asked : ℕ × Side) (worlds : List World) → StandsAt c.cells asked place → AreServedBefore c flags place worlds → length worlds ≡ place
served_so_far c flags place asked worlds stands are =
    let within : place < length (asked_of 0 c.cells) = slice_get_within (asked_of 0 c.cells) place asked stands in
    omega (arith, served_length c flags (take place (asked_of 0 c.cells)) worlds are, length-take place (asked_of 0 c.cells), within)
