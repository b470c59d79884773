-- Worlds without a fault show that the hidden set protects every primary cell.
use Rattle.std.proofs.Common.{◌≡◌, ℕ, zero, suc, ◌+◌, ◌<◌, ◌==◌, ◌&&◌, not, Bool, true, false, List, [], ◌∷◌, length, drop, get_or, All, Option, None, Some, Result, Ok, Err, slice_get, ℤ, pos, ◌*ℤ◌, ◌≤ℤ◌, arith, refl, ap, sym, ◌∙◌, subst, if◌then◌else◌}
use Rattle.std.specs.Option.{option_map_or}
use Rattle.std.proofs.lemmas.Bool.Decides.{Decides-eqb}
use Rattle.std.proofs.lemmas.List.{drop_more}
use Rattle.std.proofs.lemmas.List.Elements.{All-nil, All-head, All-tail, All-cons}
use Rattle.std.proofs.lemmas.Option.{slice_get_within, get_or_from_slice_get, slice_get-get_or}
use Rattle.sdc_base.specs.Steps.{◌>>=◌, refuse, map_fault}
use Rattle.sdc_base.proofs.StepLemmas.{bind_ok}
use Rattle.sdc_base.specs.declared.cell.Cell.{Cell}
use Rattle.sdc_base.specs.declared.cell.Kind.{Kind}
use Rattle.sdc_base.specs.declared.cell.Kind.TheVariants.{Primary, Fixed}
use Rattle.sdc_base.specs.declared.side.Side.{Side}
use Rattle.sdc_base.specs.declared.side.Side.TheVariants.{Above, Below}
use Rattle.sdc_base.specs.declared.system.System.{System}
use Rattle.sdc_base.specs.Kinds.{is_primary, is_fixed}
use Rattle.sdc_base.specs.HiddenSets.{is_hidden}
use Rattle.sdc_base.specs.Worlds.{Protects, level, level_at, amount_toward}
use Rattle.worlds.specs.declared.faults.ProtectFault.{ProtectFault}
use Rattle.worlds.specs.declared.faults.ProtectFault.TheVariants as fault
use Rattle.worlds.specs.declared.faults.WorldFault.{WorldFault}
use Rattle.worlds.specs.declared.world.World.{World}
use Rattle.worlds.specs.NumberLists.{terms_of, number_given}
use Rattle.worlds.specs.WorldFaults.{refuse_at, world_fault, IsGivenWorld}
use Rattle.worlds.specs.ProtectFaults.{primary_shown, fixed_hidden, asked_of, is_reaching, line_number, line_fault, lines_fault, protect_fault, IsProtecting}
use Rattle.worlds.proofs.Bounds.{decides_le}
use Rattle.worlds.proofs.WorldLaws.{not_refused, none_refused, world_law}

-- ---- counts

cut : (number : ℕ) (cell : Cell) (cells : List Cell) → length (asked_of number (cell ∷ cells)) ≡ length (asked_of number (cell ∷ [])) + length (asked_of (number + 1) cells)
cut number cell cells =
    elim (is_primary cell.kind) as (λ b. length (if b then (number, Above) ∷ (number, Below) ∷ asked_of (number + 1) cells else asked_of (number + 1) cells) ≡ length (if b then (number, Above) ∷ (number, Below) ∷ asked_of (number + 1) [] else asked_of (number + 1) []) + length (asked_of (number + 1) cells)) [
      | true ↦ omega arith
      | false ↦ omega arith
    ]

-- one cell more
pub asked_next : (cells : List Cell) (i : ℕ) (cell : Cell) → i < length cells → cell ≡ get_or cells i cell → length (asked_of i (drop i cells)) ≡ length (asked_of i (cell ∷ [])) + length (asked_of (i + 1) (drop (i + 1) cells))
asked_next cells i cell within is =
    ap (λ (l : List Cell). length (asked_of i l)) (drop_more cells i cell within ∙ ap (λ c. c ∷ drop (i + 1) cells) (sym is))
    ∙ cut i cell (drop (i + 1) cells)

-- ---- permitted sets

pub start : (P : ℕ → Type 0) (n : ℕ) → P (0 + n) → P n
start P n h = let same : 0 + n ≡ n = omega arith in subst P same h

not_false : (a : Bool) → not a ≡ false → a ≡ true
not_false true is = refl
not_false false is = absurd cc

hidden_from : (a hidden : Bool) (number : ℕ) (rest : Option ℕ) → a ≡ true → (if a && not hidden then Some number else rest) ≡ None → hidden ≡ true
hidden_from true true number rest is none = refl
hidden_from true false number rest is none = absurd cc
hidden_from false hidden number rest is none = absurd cc

shown_from : (a hidden : Bool) (number : ℕ) (rest : Option ℕ) → a ≡ true → (if a && hidden then Some number else rest) ≡ None → hidden ≡ false
shown_from true true number rest is none = absurd cc
shown_from true false number rest is none = refl
shown_from false hidden number rest is none = absurd cc

rest_from : (a : Bool) (number : ℕ) (rest : Option ℕ) → (if a then Some number else rest) ≡ None → rest ≡ None
rest_from true number rest none = absurd cc
rest_from false number rest none = none

get_back : (one : Cell) (cells : List Cell) (i : ℕ) (cell : Cell) → slice_get (one ∷ cells) (suc i) ≡ Some cell → slice_get cells i ≡ Some cell
get_back one cells i cell found =
    let within : suc i < length (one ∷ cells) = slice_get_within (one ∷ cells) (suc i) cell found in
    let here : get_or cells i cell ≡ cell = get_or_from_slice_get (one ∷ cells) (suc i) cell cell found in
    slice_get-get_or cells i cell (omega (arith, within)) ∙ ap Some here

cases_primary : (kind : Kind) → kind ≡ Primary → is_primary kind ≡ true
cases_primary kind is = ap is_primary is

cases_fixed : (kind : Kind) → kind ≡ Fixed → is_fixed kind ≡ true
cases_fixed kind is = ap is_fixed is

none_shown : (flags : List Bool) (number : ℕ) (cells : List Cell) → primary_shown flags number cells ≡ None → (i : ℕ) (cell : Cell) → slice_get cells i ≡ Some cell → is_primary cell.kind ≡ true → is_hidden flags (number + i) ≡ true
none_shown flags number [] none i cell found is = absurd (let within : i < 0 = slice_get_within {A = Cell} [] i cell found in omega (arith, within))
none_shown flags number (one ∷ cells) none zero cell found is =
    let same : one ≡ cell = cc in
    let own : is_primary one.kind ≡ true = ap (λ (c : Cell). is_primary c.kind) same ∙ is in
    let here : number + 0 ≡ number = omega arith in
    ap (is_hidden flags) here ∙ hidden_from (is_primary one.kind) (is_hidden flags number) number (primary_shown flags (number + 1) cells) own none
none_shown flags number (one ∷ cells) none (suc i) cell found is =
    let later : primary_shown flags (number + 1) cells ≡ None = rest_from (is_primary one.kind && not (is_hidden flags number)) number (primary_shown flags (number + 1) cells) none in
    let there : slice_get cells i ≡ Some cell = get_back one cells i cell found in
    let same : number + suc i ≡ number + 1 + i = omega arith in
    ap (is_hidden flags) same ∙ none_shown flags (number + 1) cells later i cell there is

none_hidden : (flags : List Bool) (number : ℕ) (cells : List Cell) → fixed_hidden flags number cells ≡ None → (i : ℕ) (cell : Cell) → slice_get cells i ≡ Some cell → is_fixed cell.kind ≡ true → is_hidden flags (number + i) ≡ false
none_hidden flags number [] none i cell found is = absurd (let within : i < 0 = slice_get_within {A = Cell} [] i cell found in omega (arith, within))
none_hidden flags number (one ∷ cells) none zero cell found is =
    let same : one ≡ cell = cc in
    let own : is_fixed one.kind ≡ true = ap (λ (c : Cell). is_fixed c.kind) same ∙ is in
    let here : number + 0 ≡ number = omega arith in
    ap (is_hidden flags) here ∙ shown_from (is_fixed one.kind) (is_hidden flags number) number (fixed_hidden flags (number + 1) cells) own none
none_hidden flags number (one ∷ cells) none (suc i) cell found is =
    let later : fixed_hidden flags (number + 1) cells ≡ None = rest_from (is_fixed one.kind && is_hidden flags number) number (fixed_hidden flags (number + 1) cells) none in
    let there : slice_get cells i ≡ Some cell = get_back one cells i cell found in
    let same : number + suc i ≡ number + 1 + i = omega arith in
    ap (is_hidden flags) same ∙ none_hidden flags (number + 1) cells later i cell there is

-- ---- worlds

-- what is asked has a world without a fault that reaches it
abbrev IsServed : System → List Cell → List Bool → ℕ × Side → Type 0
IsServed system cells flags asked = (world : World) × (world_fault system cells flags world ≡ Ok tt) × (is_reaching cells asked world ≡ true)

fault_seen : (view : WorldFault → ProtectFault) (r : Result (Unit {0}) WorldFault) (x : Unit {0}) → map_fault view r ≡ Ok x → r ≡ Ok tt
fault_seen view (Ok y) x ok = refl
fault_seen view (Err e) x ok = absurd cc

line_served : (system : System) (cells : List Cell) (flags : List Bool) (line : ℕ) (asked : ℕ × Side) (world : World) → line_fault system cells flags line asked world ≡ Ok tt → IsServed system cells flags asked
line_served system cells flags line asked world ok =
    let parts = bind_ok (map_fault (fault.World (line_number line)) (world_fault system cells flags world)) (λ _. refuse (fault.NotReached asked.0 asked.1) (not (is_reaching cells asked world))) tt ok in
    let test : not (is_reaching cells asked world) ≡ false = not_refused (fault.NotReached asked.0 asked.1) (not (is_reaching cells asked world)) parts.2 in
    (world, fault_seen (fault.World (line_number line)) (world_fault system cells flags world) parts.0 parts.1, not_false (is_reaching cells asked world) test)

all_served : (system : System) (cells : List Cell) (flags : List Bool) (line : ℕ) (asked : List (ℕ × Side)) (worlds : List World) → length worlds ≡ length asked → lines_fault system cells flags line asked worlds ≡ Ok tt → All (IsServed system cells flags) asked
all_served system cells flags line [] worlds count ok = All-nil (IsServed system cells flags)
all_served system cells flags line (one ∷ asked) [] count ok = absurd (omega (arith, count))
all_served system cells flags line (one ∷ asked) (world ∷ worlds) count ok =
    let parts = bind_ok (line_fault system cells flags line one world) (λ _. lines_fault system cells flags (line + 1) asked worlds) tt ok in
    All-cons (IsServed system cells flags) one asked (line_served system cells flags line one world parts.1)
    (all_served system cells flags (line + 1) asked worlds (omega (arith, count)) parts.2)

asked_tail : (P : ℕ × Side → Type 0) (number : ℕ) (one : Cell) (cells : List Cell) → All P (asked_of number (one ∷ cells)) → All P (asked_of (number + 1) cells)
asked_tail P number one cells all =
    elim (is_primary one.kind) as (λ b. All P (if b then (number, Above) ∷ (number, Below) ∷ asked_of (number + 1) cells else asked_of (number + 1) cells) → All P (asked_of (number + 1) cells)) [
      | true ↦ λ each. All-tail P (number, Below) (asked_of (number + 1) cells) (All-tail P (number, Above) ((number, Below) ∷ asked_of (number + 1) cells) each)
      | false ↦ λ each. each
    ] all

-- what holds of all that is asked holds of both sides of a primary cell
pub both_asked : (P : ℕ × Side → Type 0) (number : ℕ) (cells : List Cell) → All P (asked_of number cells) → (i : ℕ) (cell : Cell) → slice_get cells i ≡ Some cell → is_primary cell.kind ≡ true → P (number + i, Above) × P (number + i, Below)
both_asked P number [] all i cell found is = absurd (let within : i < 0 = slice_get_within {A = Cell} [] i cell found in omega (arith, within))
both_asked P number (one ∷ cells) all zero cell found is =
    let same : one ≡ cell = cc in
    let own : is_primary one.kind ≡ true = ap (λ (c : Cell). is_primary c.kind) same ∙ is in
    let list : asked_of number (one ∷ cells) ≡ (number, Above) ∷ (number, Below) ∷ asked_of (number + 1) cells = ap (λ b. if b then (number, Above) ∷ (number, Below) ∷ asked_of (number + 1) cells else asked_of (number + 1) cells) own in
    let each : All P ((number, Above) ∷ (number, Below) ∷ asked_of (number + 1) cells) = subst (All P) list all in
    let here : number ≡ number + 0 = omega arith in (
      subst (λ n. P (n, Above)) here (All-head P (number, Above) ((number, Below) ∷ asked_of (number + 1) cells) each),
      subst (λ n. P (n, Below)) here (All-head P (number, Below) (asked_of (number + 1) cells) (All-tail P (number, Above) ((number, Below) ∷ asked_of (number + 1) cells) each)),
    )
both_asked P number (one ∷ cells) all (suc i) cell found is =
    let there : slice_get cells i ≡ Some cell = get_back one cells i cell found in
    let same : number + 1 + i ≡ number + suc i = omega arith in
    let later : P (number + 1 + i, Above) × P (number + 1 + i, Below) = both_asked P (number + 1) cells (asked_tail P number one cells all) i cell there is in
    (subst (λ n. P (n, Above)) same later.0, subst (λ n. P (n, Below)) same later.1)

protects_one : (system : System) (cells : List Cell) (flags : List Bool) (number : ℕ) (cell : Cell) (side : Side) → length cells ≡ system.cells → slice_get cells number ≡ Some cell → IsServed system cells flags (number, side) → Protects system cells flags number side
protects_one system cells flags number cell side one_each found served =
    let world : World = served.0 in
    let given_world : IsGivenWorld system cells flags world = (world_law system cells flags world one_each).0 served.1 in
    let moves : ℕ → ℤ = number_given (terms_of world.moves) in
    let least : level_at cells side number ≡ level side cell = ap (λ o. option_map_or (level side) o (pos 0)) found in
    let reach : (world.den *ℤ level_at cells side number) ≤ℤ amount_toward side (moves number) = (decides_le (world.den *ℤ level_at cells side number) (amount_toward side (moves number))).0 served.2 in
    (world.den, moves, cell, given_world.is_world, found, subst (λ l. (world.den *ℤ l) ≤ℤ amount_toward side (moves number)) least reach)

pub by_side : (P : Side → Type 0) → P Above → P Below → (side : Side) → P side
by_side P above below Above = above
by_side P above below Below = below

pub protect_law : (system : System) (cells : List Cell) (flags : List Bool) (worlds : List World) → length cells ≡ system.cells → protect_fault system cells flags worlds ≡ Ok tt → IsProtecting system cells flags
protect_law system cells flags worlds one_each ok =
    let asked : List (ℕ × Side) = asked_of 0 cells in
    let last : Result (Unit {0}) ProtectFault = lines_fault system cells flags 0 asked worlds in
    let one = bind_ok (refuse_at fault.PrimaryShown (primary_shown flags 0 cells)) (λ _. refuse_at fault.FixedHidden (fixed_hidden flags 0 cells) >>= λ _. refuse fault.Count (not (length worlds == length asked)) >>= λ _. last) tt ok in
    let two = bind_ok (refuse_at fault.FixedHidden (fixed_hidden flags 0 cells)) (λ _. refuse fault.Count (not (length worlds == length asked)) >>= λ _. last) tt one.2 in
    let three = bind_ok (refuse fault.Count (not (length worlds == length asked))) (λ _. last) tt two.2 in
    let test : (length worlds == length asked) ≡ true = not_false (length worlds == length asked) (not_refused fault.Count (not (length worlds == length asked)) three.1) in
    let count : length worlds ≡ length asked = (Decides-eqb (length worlds) (length asked)).0 test in
    let served : All (IsServed system cells flags) asked = all_served system cells flags 0 asked worlds count three.2 in
    record {
      permitted = record {
        primary_hidden = λ number cell found is. start (λ n. is_hidden flags n ≡ true) number (none_shown flags 0 cells (none_refused fault.PrimaryShown (primary_shown flags 0 cells) one.1) number cell found (cases_primary cell.kind is));
        fixed_shown = λ number cell found is. start (λ n. is_hidden flags n ≡ false) number (none_hidden flags 0 cells (none_refused fault.FixedHidden (fixed_hidden flags 0 cells) two.1) number cell found (cases_fixed cell.kind is));
      };
      protects = λ number cell side found is.
          let both = both_asked (IsServed system cells flags) 0 cells served number cell found (cases_primary cell.kind is) in
          protects_one system cells flags number cell side one_each found
          (by_side (λ s. IsServed system cells flags (number, s)) (start (λ n. IsServed system cells flags (n, Above)) number both.0) (start (λ n. IsServed system cells flags (n, Below)) number both.1) side);
    }
