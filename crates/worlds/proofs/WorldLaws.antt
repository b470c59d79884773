-- The first fault of a world is none exactly where what is given is a world.
use Rattle.std.proofs.Common.{◌≡◌, ◌≢◌, ◌↔◌, ℕ, ◌+◌, ◌<◌, Bool, true, false, List, [], ◌∷◌, length, fold, All, Option, None, Some, Result, Ok, Err, slice_get, ℤ, pos, ◌+ℤ◌, ◌-ℤ◌, ◌*ℤ◌, ◌≤ℤ◌, int_lt, int_le, arith, refl, ap, sym, ◌∙◌, subst, if◌then◌else◌}
use Rattle.std.specs.Option.{ForSome, option_map_or}
use Rattle.std.specs.Ordering.{int_eq}
use Rattle.std.proofs.lemmas.Int.{ints}
use Rattle.std.proofs.lemmas.Bool.Decides.{Decides-int_eq}
use Rattle.std.proofs.lemmas.List.Elements.{All-nil, All-head, All-tail, All-cons, All-weaker}
use Rattle.sdc_base.specs.Steps.{◌>>=◌, refuse}
use Rattle.sdc_base.proofs.StepLemmas.{bind_ok}
use Rattle.sdc_base.proofs.WholeNumbers.{times_up}
use Rattle.sdc_base.proofs.WeakDual.{there}
use Rattle.sdc_base.specs.declared.cell.Cell.{Cell}
use Rattle.sdc_base.specs.declared.relation.Relation.{Relation}
use Rattle.sdc_base.specs.declared.system.System.{System}
use Rattle.sdc_base.specs.Totals.{sum_of}
use Rattle.sdc_base.specs.Forms.{Term}
use Rattle.sdc_base.specs.HiddenSets.{is_hidden}
use Rattle.sdc_base.specs.Systems.{Numbers, form, HoldOn, number_at}
use Rattle.sdc_base.specs.Worlds.{IsWorld, IsWithinBounds, value_over}
use Rattle.worlds.specs.declared.faults.WorldFault.{WorldFault}
use Rattle.worlds.specs.declared.faults.WorldFault.TheVariants as fault
use Rattle.worlds.specs.declared.world.Move.{Move}
use Rattle.worlds.specs.declared.world.World.{World}
use Rattle.worlds.specs.NumberLists.{IsListed, first_misplaced, terms_of, number_given}
use Rattle.worlds.specs.WorldFaults.{refuse_at, is_within, move_fault, moves_fault, relations_fault, world_fault, IsGivenWorld}
use Rattle.worlds.proofs.Bounds.{decides_le}
use Rattle.worlds.proofs.TrueTests.{and_true, both_true, true_unless}
use Rattle.worlds.proofs.Lists.{listed_where_none, none_where_listed, of_given, each_given}

-- ---- steps

pub then_ok : {A B F : Type 0} (r : Result A F) (f : A → Result B F) (x : A) (y : B) → r ≡ Ok x → f x ≡ Ok y → (r >>= f) ≡ Ok y
then_ok r f x y is later = subst (λ s. (s >>= f) ≡ Ok y) (sym is) later

pub not_refused : {F : Type 0} (one : F) (wrong : Bool) → refuse one wrong ≡ Ok tt → wrong ≡ false
not_refused one true ok = absurd cc
not_refused one false ok = refl

pub passes : {F : Type 0} (one : F) (wrong : Bool) → wrong ≡ false → refuse one wrong ≡ Ok tt
passes one wrong is = rw is refl

pub none_refused : {F : Type 0} (number_at : ℕ → F) (place : Option ℕ) → refuse_at number_at place ≡ Ok tt → place ≡ None
none_refused number_at None ok = refl
none_refused number_at (Some place) ok = absurd cc

pub passes_none : {F : Type 0} (number_at : ℕ → F) (place : Option ℕ) → place ≡ None → refuse_at number_at place ≡ Ok tt
passes_none number_at place is = rw is refl

pub from_one : (z : ℤ) → int_lt z (pos 1) ≡ false → pos 1 ≤ℤ z
from_one z is = grind (arith, ints, is)

pub below_one : (z : ℤ) → pos 1 ≤ℤ z → int_lt z (pos 1) ≡ false
below_one z is = grind (arith, ints, is)

-- ---- bounds

high_says : (den move : ℤ) (cell : Cell) (high : Option ℤ) → option_map_or (λ bound. int_le (value_over den cell move) (den *ℤ bound)) high true ≡ true → ForSome high (λ bound. value_over den cell move ≤ℤ (den *ℤ bound))
high_says den move cell None is = λ bound there. absurd cc
high_says den move cell (Some high) is = λ bound there. let same : high ≡ bound = cc in subst (λ b. value_over den cell move ≤ℤ (den *ℤ b)) same ((decides_le (value_over den cell move) (den *ℤ high)).0 is)

high_test : (den move : ℤ) (cell : Cell) (high : Option ℤ) → ForSome high (λ bound. value_over den cell move ≤ℤ (den *ℤ bound)) → option_map_or (λ bound. int_le (value_over den cell move) (den *ℤ bound)) high true ≡ true
high_test den move cell None is = refl
high_test den move cell (Some high) is = (decides_le (value_over den cell move) (den *ℤ high)).1 (is high refl)

within_says : (den move : ℤ) (cell : Cell) → is_within den move cell ≡ true → IsWithinBounds cell den move
within_says den move cell is =
    let both : (int_le (den *ℤ cell.low) (value_over den cell move) ≡ true) × (option_map_or (λ bound. int_le (value_over den cell move) (den *ℤ bound)) cell.high true ≡ true) =
    and_true (int_le (den *ℤ cell.low) (value_over den cell move)) (option_map_or (λ bound. int_le (value_over den cell move) (den *ℤ bound)) cell.high true) is in
    record { from_low = (decides_le (den *ℤ cell.low) (value_over den cell move)).0 both.0; to_high = high_says den move cell cell.high both.1 }

within_test : (den move : ℤ) (cell : Cell) → IsWithinBounds cell den move → is_within den move cell ≡ true
within_test den move cell bounds =
    both_true (int_le (den *ℤ cell.low) (value_over den cell move)) (option_map_or (λ bound. int_le (value_over den cell move) (den *ℤ bound)) cell.high true)
    ((decides_le (den *ℤ cell.low) (value_over den cell move)).1 bounds.from_low) (high_test den move cell cell.high bounds.to_high)

-- a cell that doesn't move is within its bounds
stays : (den : ℤ) (cell : Cell) → pos 1 ≤ℤ den → IsWithinBounds cell den (pos 0)
stays den cell positive = record {
  from_low = omega (arith, ints, times_up den cell.low cell.truth (omega (arith, ints, positive)) cell.low_within);
  to_high = λ high there. omega (arith, ints, times_up den cell.truth high (omega (arith, ints, positive)) (cell.high_beyond high there));
}

-- ---- moves

-- a move is none of a shown cell, and keeps the cell within its bounds
abbrev Keeps : List Cell → List Bool → ℤ → ℕ → ℤ → Type 0
Keeps cells flags den number move = (is_hidden flags number ≡ false → move ≡ pos 0) × ((cell : Cell) → slice_get cells number ≡ Some cell → IsWithinBounds cell den move)

within_at : (cells : List Cell) (number : ℕ) (den move : ℤ) → option_map_or (is_within den move) (slice_get cells number) false ≡ true → (cell : Cell) → slice_get cells number ≡ Some cell → IsWithinBounds cell den move
within_at cells number den move is cell there =
    let here : option_map_or (is_within den move) (slice_get cells number) false ≡ is_within den move cell = ap (λ o. option_map_or (is_within den move) o false) there in
    within_says den move cell (sym here ∙ is)

abbrev told : Bool → Bool → ℕ → Result (Unit {0}) WorldFault
told hidden within number = if hidden then (if within then Ok tt else Err (fault.Bound number)) else Err (fault.Shown number)

told_says : (hidden within : Bool) (number : ℕ) → told hidden within number ≡ Ok tt → (hidden ≡ true) × (within ≡ true)
told_says true true number ok = (refl, refl)
told_says true false number ok = absurd cc
told_says false within number ok = absurd cc

move_kept : (cells : List Cell) (flags : List Bool) (den : ℤ) (term : Term) → move_fault cells flags den term ≡ Ok tt → Keeps cells flags den term.0 term.1
move_kept cells flags den term ok =
    let both : (is_hidden flags term.0 ≡ true) × (option_map_or (is_within den term.1) (slice_get cells term.0) false ≡ true) =
    told_says (is_hidden flags term.0) (option_map_or (is_within den term.1) (slice_get cells term.0) false) term.0 ok in
    ((λ shown. absurd (let clash : true ≡ false = sym both.0 ∙ shown in cc)), within_at cells term.0 den term.1 both.1)

move_passes : (cells : List Cell) (flags : List Bool) (den : ℤ) (term : Term) → term.0 < length cells → term.1 ≢ pos 0 → Keeps cells flags den term.0 term.1 → move_fault cells flags den term ≡ Ok tt
move_passes cells flags den term inside counts keeps =
    let hidden : is_hidden flags term.0 ≡ true = true_unless (is_hidden flags term.0) (λ shown. absurd (counts (keeps.0 shown))) in
    let found : (cell : Cell) × (slice_get cells term.0 ≡ Some cell) = there cells term.0 inside in
    let within : option_map_or (is_within den term.1) (slice_get cells term.0) false ≡ true = ap (λ o. option_map_or (is_within den term.1) o false) found.1 ∙ within_test den term.1 found.0 (keeps.1 found.0 found.1) in
    rw hidden (rw within refl)

moves_kept : (cells : List Cell) (flags : List Bool) (den : ℤ) (terms : List Term) → moves_fault cells flags den terms ≡ Ok tt → All (λ (t : Term). Keeps cells flags den t.0 t.1) terms
moves_kept cells flags den [] ok = All-nil (λ (t : Term). Keeps cells flags den t.0 t.1)
moves_kept cells flags den (term ∷ terms) ok =
    let parts = bind_ok (move_fault cells flags den term) (λ _. moves_fault cells flags den terms) tt ok in
    All-cons (λ (t : Term). Keeps cells flags den t.0 t.1) term terms (move_kept cells flags den term parts.1) (moves_kept cells flags den terms parts.2)

moves_pass : (cells : List Cell) (flags : List Bool) (den : ℤ) (terms : List Term) → All (λ (t : Term). t.0 < length cells) terms → All (λ (t : Term). t.1 ≢ pos 0) terms → All (λ (t : Term). Keeps cells flags den t.0 t.1) terms → moves_fault cells flags den terms ≡ Ok tt
moves_pass cells flags den [] inside counts keeps = refl
moves_pass cells flags den (term ∷ terms) inside counts keeps =
    let Inside : Term → Type 0 = λ t. t.0 < length cells in
    let Counts : Term → Type 0 = λ t. t.1 ≢ pos 0 in
    let Kept : Term → Type 0 = λ t. Keeps cells flags den t.0 t.1 in
    then_ok (move_fault cells flags den term) (λ _. moves_fault cells flags den terms) tt tt
    (move_passes cells flags den term (All-head Inside term terms inside) (All-head Counts term terms counts) (All-head Kept term terms keeps))
    (moves_pass cells flags den terms (All-tail Inside term terms inside) (All-tail Counts term terms counts) (All-tail Kept term terms keeps))

-- ---- relations

pub relations_hold : (numbers : Numbers) (number : ℕ) (relations : List Relation) → relations_fault numbers number relations ≡ Ok tt → HoldOn numbers relations
relations_hold numbers number [] ok = All-nil (λ r. form numbers r ≡ pos 0)
relations_hold numbers number (r ∷ relations) ok =
    elim (int_eq (form numbers r) (pos 0)) as (λ b. int_eq (form numbers r) (pos 0) ≡ b → (if b then relations_fault numbers (number + 1) relations else Err (fault.Relation number)) ≡ Ok tt → HoldOn numbers (r ∷ relations)) [
      | true ↦ λ is later. All-cons (λ r. form numbers r ≡ pos 0) r relations ((Decides-int_eq (form numbers r) (pos 0)).0 is) (relations_hold numbers (number + 1) relations later)
      | false ↦ λ is bad. absurd cc
    ] refl ok

relations_pass : (numbers : Numbers) (number : ℕ) (relations : List Relation) → HoldOn numbers relations → relations_fault numbers number relations ≡ Ok tt
relations_pass numbers number [] hold = refl
relations_pass numbers number (r ∷ relations) hold =
    let here : int_eq (form numbers r) (pos 0) ≡ true = (Decides-int_eq (form numbers r) (pos 0)).1 (All-head (λ r. form numbers r ≡ pos 0) r relations hold) in
    rw here (relations_pass numbers (number + 1) relations (All-tail (λ r. form numbers r ≡ pos 0) r relations hold))

-- numbers that are the same have the same first relation that doesn't hold
sum_same : (f g : Numbers) (cells : List ℕ) (a b : ℤ) → ((cell : ℕ) → f cell ≡ g cell) → a ≡ b → fold (λ sum cell. sum +ℤ f cell) a cells ≡ fold (λ sum cell. sum +ℤ g cell) b cells
sum_same f g [] a b same start = start
sum_same f g (cell ∷ cells) a b same start = sum_same f g cells (a +ℤ f cell) (b +ℤ g cell) same (ap (λ x. x +ℤ f cell) start ∙ ap (λ y. b +ℤ y) (same cell))

pub relations_same : (f g : Numbers) (number : ℕ) (relations : List Relation) → ((cell : ℕ) → f cell ≡ g cell) → relations_fault f number relations ≡ relations_fault g number relations
relations_same f g number [] same = refl
relations_same f g number (r ∷ relations) same =
    let forms : form f r ≡ form g r = ap (λ x. x -ℤ sum_of f r.parts) (same r.total) ∙ ap (λ y. g r.total -ℤ y) (sum_same f g r.parts (pos 0) (pos 0) same refl) in
    ap (λ z. if int_eq z (pos 0) then relations_fault f (number + 1) relations else Err (fault.Relation number)) forms
    ∙ ap (λ later. if int_eq (form g r) (pos 0) then later else Err (fault.Relation number)) (relations_same f g (number + 1) relations same)

-- ---- the whole

world_from : (system : System) (cells : List Cell) (flags : List Bool) (world : World) → world_fault system cells flags world ≡ Ok tt → IsGivenWorld system cells flags world
world_from system cells flags world ok =
    let den : ℤ = world.den in
    let terms : List Term = terms_of world.moves in
    let moves : Numbers = number_given terms in
    let one = bind_ok (refuse fault.Den (int_lt den (pos 1))) (λ _. refuse_at fault.Order (first_misplaced system.cells 0 0 terms) >>= λ _. moves_fault cells flags den terms >>= λ _. relations_fault moves 0 system.relations) tt ok in
    let two = bind_ok (refuse_at fault.Order (first_misplaced system.cells 0 0 terms)) (λ _. moves_fault cells flags den terms >>= λ _. relations_fault moves 0 system.relations) tt one.2 in
    let three = bind_ok (moves_fault cells flags den terms) (λ _. relations_fault moves 0 system.relations) tt two.2 in
    let positive : pos 1 ≤ℤ den = from_one den (not_refused fault.Den (int_lt den (pos 1)) one.1) in
    let listed : IsListed system.cells terms = listed_where_none system.cells terms (none_refused fault.Order (first_misplaced system.cells 0 0 terms) two.1) in
    let kept : All (λ (t : Term). Keeps cells flags den t.0 t.1) terms = moves_kept cells flags den terms three.1 in
    let each : (cell : ℕ) → Keeps cells flags den cell (moves cell) = λ cell.
    of_given (Keeps cells flags den cell) cell terms ((λ _. refl), λ one there. stays den one positive)
    (All-weaker (λ (t : Term). Keeps cells flags den t.0 t.1) (λ (t : Term). t.0 ≡ cell → Keeps cells flags den cell t.1) (λ t keeps is. subst (λ n. Keeps cells flags den n t.1) is keeps) terms kept) in
    record {
      listed = listed;
      is_world = record {
        positive = positive;
        shown_stay = λ cell inside. (each cell).0;
        relations_hold = relations_hold moves 0 system.relations three.2;
        bounds_hold = λ number. (each number).1;
      };
    }

-- in a world each move that is listed is kept to
kept_each : (system : System) (cells : List Cell) (flags : List Bool) (den : ℤ) (moves : Numbers) → IsWorld system cells flags den moves → (terms : List Term) → All (λ (t : Term). t.0 < system.cells) terms → All (λ (t : Term). moves t.0 ≡ t.1) terms → All (λ (t : Term). Keeps cells flags den t.0 t.1) terms
kept_each system cells flags den moves world [] inside same = All-nil (λ (t : Term). Keeps cells flags den t.0 t.1)
kept_each system cells flags den moves world (term ∷ terms) inside same =
    let Inside : Term → Type 0 = λ t. t.0 < system.cells in
    let Given : Term → Type 0 = λ t. moves t.0 ≡ t.1 in
    let is : moves term.0 ≡ term.1 = All-head Given term terms same in
    let here : Keeps cells flags den term.0 (moves term.0) = (world.shown_stay term.0 (All-head Inside term terms inside), world.bounds_hold term.0) in
    All-cons (λ (t : Term). Keeps cells flags den t.0 t.1) term terms (subst (Keeps cells flags den term.0) is here)
    (kept_each system cells flags den moves world terms (All-tail Inside term terms inside) (All-tail Given term terms same))

fault_none : (system : System) (cells : List Cell) (flags : List Bool) (world : World) → length cells ≡ system.cells → IsGivenWorld system cells flags world → world_fault system cells flags world ≡ Ok tt
fault_none system cells flags world one_each is =
    let den : ℤ = world.den in
    let terms : List Term = terms_of world.moves in
    let moves : Numbers = number_given terms in
    let own : IsWorld system cells flags den moves = is.is_world in
    let inside : All (λ (t : Term). t.0 < length cells) terms = subst (λ n. All (λ (t : Term). t.0 < n) terms) (sym one_each) is.listed.named in
    let kept : All (λ (t : Term). Keeps cells flags den t.0 t.1) terms = kept_each system cells flags den moves own terms is.listed.named (each_given 0 terms is.listed.ascending) in
    then_ok (refuse fault.Den (int_lt den (pos 1))) (λ _. refuse_at fault.Order (first_misplaced system.cells 0 0 terms) >>= λ _. moves_fault cells flags den terms >>= λ _. relations_fault moves 0 system.relations) tt tt
    (passes fault.Den (int_lt den (pos 1)) (below_one den own.positive))
    (then_ok (refuse_at fault.Order (first_misplaced system.cells 0 0 terms)) (λ _. moves_fault cells flags den terms >>= λ _. relations_fault moves 0 system.relations) tt tt
    (passes_none fault.Order (first_misplaced system.cells 0 0 terms) (none_where_listed system.cells terms is.listed))
    (then_ok (moves_fault cells flags den terms) (λ _. relations_fault moves 0 system.relations) tt tt
    (moves_pass cells flags den terms inside is.listed.counting kept)
    (relations_pass moves 0 system.relations own.relations_hold)))

pub world_law : (system : System) (cells : List Cell) (flags : List Bool) (world : World) → length cells ≡ system.cells → (world_fault system cells flags world ≡ Ok tt) ↔ IsGivenWorld system cells flags world
world_law system cells flags world one_each = (world_from system cells flags world, fault_none system cells flags world one_each)

-- what the checker comes to behind the moves
pub fault_behind_moves : (system : System) (cells : List Cell) (flags : List Bool) (world : World) (moves : List Move) (numbers : List ℤ) → moves ≡ world.moves → int_lt world.den (pos 1) ≡ false → first_misplaced system.cells 0 0 (terms_of moves) ≡ None → moves_fault cells flags world.den (terms_of moves) ≡ Ok tt → ((cell : ℕ) → number_at numbers cell ≡ number_given (terms_of moves) cell) → relations_fault (number_at numbers) 0 system.relations ≡ world_fault system cells flags world
fault_behind_moves system cells flags world moves numbers same positive placed kept each =
    let terms : List Term = terms_of world.moves in
    let placed_own : first_misplaced system.cells 0 0 terms ≡ None = subst (λ ms. first_misplaced system.cells 0 0 (terms_of ms) ≡ None) same placed in
    let kept_own : moves_fault cells flags world.den terms ≡ Ok tt = subst (λ ms. moves_fault cells flags world.den (terms_of ms) ≡ Ok tt) same kept in
    let each_own : (cell : ℕ) → number_at numbers cell ≡ number_given terms cell = subst (λ (ms : List Move). (cell : ℕ) → number_at numbers cell ≡ number_given (terms_of ms) cell) same each in
    rw (positive, placed_own, kept_own) (relations_same (number_at numbers) (number_given terms) 0 system.relations each_own)

-- the cells that moves name
inside_from : (size : ℕ) (moves : List Move) → All (λ (t : Term). t.0 < size) (terms_of moves) → All (λ (one : Move). one.cell < size) moves
inside_from size [] all = All-nil (λ (one : Move). one.cell < size)
inside_from size (one ∷ moves) all =
    let In : Term → Type 0 = λ t. t.0 < size in
    All-cons (λ (m : Move). m.cell < size) one moves (All-head In (one.cell, one.by) (terms_of moves) all) (inside_from size moves (All-tail In (one.cell, one.by) (terms_of moves) all))

pub moves_inside : (size n : ℕ) (moves : List Move) → first_misplaced size 0 0 (terms_of moves) ≡ None → n ≡ size → All (λ (one : Move). one.cell < n) moves
moves_inside size n moves placed same =
    let listed : IsListed size (terms_of moves) = listed_where_none size (terms_of moves) placed in
    subst (λ k. All (λ (one : Move). one.cell < k) moves) (sym same) (inside_from size moves listed.named)
