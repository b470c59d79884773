-- Each world is a point of a question's problem.
use Rattle.std.proofs.Common.{◌≡◌, ℕ, ◌<◌, ◌==◌, ◌||◌, Bool, true, false, List, [], ◌∷◌, length, Option, None, Some, is_some, slice_get, All, ℤ, pos, negsuc, neg_ℤ, ◌+ℤ◌, ◌-ℤ◌, ◌*ℤ◌, ◌≤ℤ◌, int_lt, arith, refl, ap, sym, ◌∙◌, subst, if◌then◌else◌}
use Rattle.std.specs.List.{flat_map, list_any}
use Rattle.std.specs.Option.{option_map_or}
use Rattle.std.proofs.Math.IntN.{*ℤ_comm}
use Rattle.std.proofs.lemmas.Int.{ints, by_lt_z}
use Rattle.std.proofs.lemmas.Bool.Decides.{Decides-eqb}
use Rattle.std.proofs.lemmas.List.Elements.{All-nil, All-cons, All-head, All-tail, All-map, All-append, All-get_or}
use Rattle.std.proofs.lemmas.Option.{get_or_from_slice_get}
use Rattle.sdc_base.specs.declared.cell.Cell.{Cell}
use Rattle.sdc_base.specs.declared.relation.Relation.{Relation}
use Rattle.sdc_base.specs.declared.system.System.{System}
use Rattle.sdc_base.specs.Totals.{sum_of}
use Rattle.sdc_base.specs.Forms.{Term, coefficient}
use Rattle.sdc_base.specs.HiddenSets.{is_hidden}
use Rattle.sdc_base.specs.Refutations.{rise}
use Rattle.sdc_base.specs.Components.{mentions}
use Rattle.sdc_base.specs.Systems.{Numbers, NamesCells, form}
use Rattle.sdc_base.proofs.WholeNumbers.{times_up}
use Rattle.sdc_base.specs.Worlds.{IsWorld, IsWithinBounds, amount_toward}
use Rattle.sdc_base.proofs.TotalLemmas.{sum_of-cons}
use Rattle.sdc_base.proofs.WeakDual.{lessened, there}
use Rattle.tableau.specs.declared.problem.LinRow.{LinRow}
use Rattle.interval_audit.specs.Points.{comes_to}
use Rattle.interval_audit.specs.Groups.{Group, IsGroup, members}
use Rattle.interval_audit.specs.Columns.{up_column, down_column, moves_of}
use Rattle.interval_audit.specs.Labels.{Label, CapAbove, CapBelow, Form, Negated, caps_for, forms_for, is_met, met_relations, labels, rise_at, fall, fall_at}
use Rattle.interval_audit.specs.Problems.{row_of}
use Rattle.interval_audit.specs.QuestionLaws.{WorldsArePoints}
use Rattle.interval_audit.proofs.Ranks.{All-members}
use Rattle.interval_audit.proofs.Members.{All-flat}
use Rattle.interval_audit.proofs.Spread.{spread, spread_up, spread_down}
use Rattle.interval_audit.proofs.Moves.{form_comes_to, found_inside, objective_comes_to, cap_comes_to, moves_in, moves_out}
use Rattle.interval_audit.proofs.Points.{Keeps, meets}

-- the part of a number above 0
abbrev pub above_none : ℤ → ℤ
above_none z = if int_lt (pos 0) z then z else pos 0

above_from : (z : ℤ) → pos 0 ≤ℤ above_none z
above_from z =
    by_lt_z (pos 0) z
    (λ up. let test : int_lt (pos 0) z ≡ true = grind (arith, ints) in rw test (omega (arith, ints)))
    (λ down. let test : int_lt (pos 0) z ≡ false = grind (arith, ints) in rw test (omega (arith, ints)))

above_most : (z most : ℤ) → pos 0 ≤ℤ most → z ≤ℤ most → above_none z ≤ℤ most
above_most z most one other = elim (int_lt (pos 0) z) as (λ b. (if b then z else pos 0) ≤ℤ most) [ true ↦ other | false ↦ one ]

parts_make : (z : ℤ) → above_none z -ℤ above_none (neg_ℤ z) ≡ z
parts_make z =
    by_lt_z (pos 0) z
    (λ up. let one : int_lt (pos 0) z ≡ true = grind (arith, ints) in let other : int_lt (pos 0) (neg_ℤ z) ≡ false = grind (arith, ints) in rw (one, other) (omega (arith, ints)))
    (λ down.
    let one : int_lt (pos 0) z ≡ false = grind (arith, ints) in
    by_lt_z (pos 0) (neg_ℤ z)
    (λ low. let other : int_lt (pos 0) (neg_ℤ z) ≡ true = grind (arith, ints) in rw (one, other) (omega (arith, ints)))
    (λ none. let other : int_lt (pos 0) (neg_ℤ z) ≡ false = grind (arith, ints) in rw (one, other) (omega (arith, ints))))

-- terms that don't count below 0 have no coefficient below 0
pub coefficient_from : (terms : List Term) (c : ℕ) → All (λ (t : Term). pos 0 ≤ℤ t.1) terms → pos 0 ≤ℤ coefficient terms c
coefficient_from [] c all = omega (arith, ints)
coefficient_from (t ∷ terms) c all =
    let own : pos 0 ≤ℤ (if t.0 == c then t.1 else pos 0) = elim (t.0 == c) as (λ b. pos 0 ≤ℤ (if b then t.1 else pos 0)) [ true ↦ All-head (λ (t : Term). pos 0 ≤ℤ t.1) t terms all | false ↦ omega (arith, ints) ] in
    omega (arith, ints, own, coefficient_from terms c (All-tail (λ (t : Term). pos 0 ≤ℤ t.1) t terms all), sum_of-cons (λ (t : Term). if t.0 == c then t.1 else pos 0) t terms)

-- the amounts that make moves
abbrev ups : Numbers → Numbers
ups moves c = above_none (moves c)

abbrev downs : Numbers → Numbers
downs moves c = above_none (neg_ℤ (moves c))

abbrev amounts_of : Group → ℕ → Numbers → Numbers
amounts_of group n moves = coefficient (spread group n (ups moves) (downs moves))

amounts_from : (group : Group) (n : ℕ) (moves : Numbers) (column : ℕ) → pos 0 ≤ℤ amounts_of group n moves column
amounts_from group n moves column =
    let From : Term → Type 0 = λ t. pos 0 ≤ℤ t.1 in
    coefficient_from (spread group n (ups moves) (downs moves)) column
    (All-flat From (λ d. (up_column group d, ups moves d) ∷ (down_column group d, downs moves d) ∷ []) (members group n)
    (All-members group (λ d. All From ((up_column group d, ups moves d) ∷ (down_column group d, downs moves d) ∷ [])) n
    (λ d below is. All-cons From (up_column group d, ups moves d) ((down_column group d, downs moves d) ∷ []) (above_from (moves d)) (All-cons From (down_column group d, downs moves d) [] (above_from (neg_ℤ (moves d))) (All-nil From)))))

-- they make the moves of the group
made_in : (group : Group) (n : ℕ) (moves : Numbers) (c : ℕ) → c < n → group c ≡ true → moves_of group (amounts_of group n moves) c ≡ moves c
made_in group n moves c below is =
    moves_in group (amounts_of group n moves) c is
    ∙ ap (λ z. z -ℤ amounts_of group n moves (down_column group c)) (spread_up group n c (ups moves) (downs moves) below is)
    ∙ ap (λ z. ups moves c -ℤ z) (spread_down group n c (ups moves) (downs moves) below is)
    ∙ parts_make (moves c)

-- ---- forms of relations that are met

same_parts : (f g : Numbers) (parts : List ℕ) → ((part : ℕ) → list_any (λ p. p == part) parts ≡ true → f part ≡ g part) → sum_of f parts ≡ sum_of g parts
same_parts f g [] same = refl
same_parts f g (part ∷ parts) same =
    let here : f part ≡ g part = same part (ap (λ b. b || list_any (λ p. p == part) parts) ((Decides-eqb part part).1 refl)) in
    let rest : sum_of f parts ≡ sum_of g parts = same_parts f g parts (λ one named. same one (ap (λ b. part == one || b) named ∙ or_true (part == one))) in
    omega (arith, ints, here, rest, sum_of-cons f part parts, sum_of-cons g part parts)
  where
    or_true : (a : Bool) → (a || true) ≡ true
    or_true true = refl
    or_true false = refl

pub same_form : (f g : Numbers) (r : Relation) → ((c : ℕ) → mentions r c ≡ true → f c ≡ g c) → form f r ≡ form g r
same_form f g r same =
    let total : f r.total ≡ g r.total = same r.total (ap (λ b. b || list_any (λ p. p == r.total) r.parts) ((Decides-eqb r.total r.total).1 refl)) in
    let parts : sum_of f r.parts ≡ sum_of g r.parts = same_parts f g r.parts (λ part named. same part (ap (λ b. r.total == part || b) named ∙ or_true (r.total == part))) in
    omega (arith, ints, total, parts)
  where
    or_true : (a : Bool) → (a || true) ≡ true
    or_true true = refl
    or_true false = refl

or_true : (a : Bool) → (a || true) ≡ true
or_true true = refl
or_true false = refl

-- a relation that is met names a cell of the group
part_met : (group : Group) (parts : List ℕ) → list_any group parts ≡ true → (c : ℕ) × (list_any (λ p. p == c) parts ≡ true) × (group c ≡ true)
part_met group [] is = absurd cc
part_met group (part ∷ parts) is = one (group part) refl (λ rest. part_met group parts rest)
  where
    one : (b : Bool) → group part ≡ b → (list_any group parts ≡ true → (c : ℕ) × (list_any (λ p. p == c) parts ≡ true) × (group c ≡ true)) → (c : ℕ) × (list_any (λ p. p == c) (part ∷ parts) ≡ true) × (group c ≡ true)
    one true own more = (part, ap (λ b. b || list_any (λ p. p == part) parts) ((Decides-eqb part part).1 refl), own)
    one false own more =
        let rest = more (ap (λ b. b || list_any group parts) (sym own) ∙ is) in
        (rest.0, ap (λ b. part == rest.0 || b) rest.1 ∙ or_true (part == rest.0), rest.2)

pub met_by : (group : Group) (r : Relation) → is_met group r ≡ true → (c : ℕ) × (mentions r c ≡ true) × (group c ≡ true)
met_by group r is = by (group r.total) refl
  where
    by : (b : Bool) → group r.total ≡ b → (c : ℕ) × (mentions r c ≡ true) × (group c ≡ true)
    by true own = (r.total, ap (λ b. b || list_any (λ p. p == r.total) r.parts) ((Decides-eqb r.total r.total).1 refl), own)
    by false own =
        let rest = part_met group r.parts (ap (λ b. b || list_any group r.parts) (sym own) ∙ is) in
        (rest.0, ap (λ b. r.total == rest.0 || b) rest.1 ∙ or_true (r.total == rest.0), rest.2)

-- ---- all rows are kept

lift : (den a b : ℤ) → pos 1 ≤ℤ den → a ≤ℤ b → (den *ℤ a) ≤ℤ (den *ℤ b)
lift den a b positive h = times_up den a b (omega (arith, ints, positive)) h

-- the caps of a cell of the group
cap_low : (system : System) (cells : List Cell) (flags : List Bool) (group : Group) (den : ℤ) (moves : Numbers) → length cells ≡ system.cells → IsWorld system cells flags den moves → (c : ℕ) → c < system.cells → group c ≡ true → Keeps system cells group den (amounts_of group system.cells moves) (CapBelow c)
cap_low system cells flags group den moves each world c below own =
    let found = there cells c (omega (arith, below, each)) in
    let cell : Cell = found.0 in
    let low : (den *ℤ cell.low) ≤ℤ (den *ℤ cell.truth +ℤ moves c) = (world.bounds_hold c cell found.1).from_low in
    let high : (den *ℤ cell.low) ≤ℤ (den *ℤ cell.truth) = lift den cell.low cell.truth world.positive cell.low_within in
    let far : den *ℤ fall cell ≡ den *ℤ cell.truth -ℤ den *ℤ cell.low = lessened den cell.low cell.truth in
    let most : above_none (neg_ℤ (moves c)) ≤ℤ (den *ℤ fall cell) = above_most (neg_ℤ (moves c)) (den *ℤ fall cell) (omega (arith, ints, high, far)) (omega (arith, ints, low, far)) in
    let bound : fall_at cells c ≡ fall cell = ap (λ o. option_map_or fall o (pos 0)) found.1 in
    let sum : comes_to (amounts_of group system.cells moves) ((down_column group c, pos 1) ∷ []) ≡ above_none (neg_ℤ (moves c)) = cap_comes_to (amounts_of group system.cells moves) (down_column group c) ∙ spread_down group system.cells c (ups moves) (downs moves) below own in
    rw (sum, bound) most

risen : (cell : Cell) (high : Option ℤ) (den move : ℤ) → cell.high ≡ high → pos 1 ≤ℤ den → IsWithinBounds cell den move → is_some high ≡ true → above_none move ≤ℤ (den *ℤ option_map_or (λ bound. bound -ℤ cell.truth) high (pos 0))
risen cell None den move same positive within some = absurd cc
risen cell (Some bound) den move same positive within some =
    let high : (den *ℤ cell.truth) ≤ℤ (den *ℤ bound) = lift den cell.truth bound positive (cell.high_beyond bound same) in
    let most : (den *ℤ cell.truth +ℤ move) ≤ℤ (den *ℤ bound) = within.to_high bound same in
    let far : den *ℤ (bound -ℤ cell.truth) ≡ den *ℤ bound -ℤ den *ℤ cell.truth = lessened den cell.truth bound in
    above_most move (den *ℤ (bound -ℤ cell.truth)) (omega (arith, ints, high, far)) (omega (arith, ints, most, far))

cap_high : (system : System) (cells : List Cell) (flags : List Bool) (group : Group) (den : ℤ) (moves : Numbers) → length cells ≡ system.cells → IsWorld system cells flags den moves → (c : ℕ) → c < system.cells → group c ≡ true → option_map_or (λ (cell : Cell). is_some cell.high) (slice_get cells c) false ≡ true → Keeps system cells group den (amounts_of group system.cells moves) (CapAbove c)
cap_high system cells flags group den moves each world c below own bounded =
    let found = there cells c (omega (arith, below, each)) in
    let cell : Cell = found.0 in
    let some : is_some cell.high ≡ true = ap (λ o. option_map_or (λ (one : Cell). is_some one.high) o false) (sym found.1) ∙ bounded in
    let most : above_none (moves c) ≤ℤ (den *ℤ rise cell) = risen cell cell.high den (moves c) refl world.positive (world.bounds_hold c cell found.1) some in
    let bound : rise_at cells c ≡ rise cell = ap (λ o. option_map_or rise o (pos 0)) found.1 in
    let sum : comes_to (amounts_of group system.cells moves) ((up_column group c, pos 1) ∷ []) ≡ above_none (moves c) = cap_comes_to (amounts_of group system.cells moves) (up_column group c) ∙ spread_up group system.cells c (ups moves) (downs moves) below own in
    rw (sum, bound) most

caps_kept : (system : System) (cells : List Cell) (flags : List Bool) (group : Group) (den : ℤ) (moves : Numbers) → length cells ≡ system.cells → IsWorld system cells flags den moves → (c : ℕ) → c < system.cells → group c ≡ true → All (Keeps system cells group den (amounts_of group system.cells moves)) (caps_for cells c)
caps_kept system cells flags group den moves each world c below own = by (option_map_or (λ (cell : Cell). is_some cell.high) (slice_get cells c) false) refl
  where
    K : Label → Type 0
    K = Keeps system cells group den (amounts_of group system.cells moves)

    by : (b : Bool) → option_map_or (λ (cell : Cell). is_some cell.high) (slice_get cells c) false ≡ b → All K (if b then CapAbove c ∷ CapBelow c ∷ [] else CapBelow c ∷ [])
    by true is = All-cons K (CapAbove c) (CapBelow c ∷ []) (cap_high system cells flags group den moves each world c below own is) (All-cons K (CapBelow c) [] (cap_low system cells flags group den moves each world c below own) (All-nil K))
    by false is = All-cons K (CapBelow c) [] (cap_low system cells flags group den moves each world c below own) (All-nil K)

-- on the cells that a relation which is met names, the moves are those of the world
named_same : (system : System) (cells : List Cell) (flags : List Bool) (group : Group) (asked : ℕ) (den : ℤ) (moves : Numbers) → IsGroup system flags group asked → IsWorld system cells flags den moves → (number : ℕ) (r : Relation) → slice_get system.relations number ≡ Some r → is_met group r ≡ true → (c : ℕ) → mentions r c ≡ true → c < system.cells → moves_of group (amounts_of group system.cells moves) c ≡ moves c
named_same system cells flags group asked den moves is world number r found met c named inside = by (group c) refl
  where
    by : (b : Bool) → group c ≡ b → moves_of group (amounts_of group system.cells moves) c ≡ moves c
    by true own = made_in group system.cells moves c inside own
    by false own =
        let from = met_by group r met in
        let shown : is_hidden flags c ≡ false =
        elim (is_hidden flags c) as (λ b. is_hidden flags c ≡ b → b ≡ false) [
          | true ↦ λ hides. absurd (let no : true ≡ false = sym (is.closed number r from.0 c found from.1 named from.2 hides) ∙ own in cc)
          | false ↦ λ hides. refl
        ] refl in
        moves_out group (amounts_of group system.cells moves) c own ∙ sym (world.shown_stay c inside shown)

-- a named cell is one of the system's
pub named_inside : (system : System) (number : ℕ) (r : Relation) → slice_get system.relations number ≡ Some r → (c : ℕ) → mentions r c ≡ true → c < system.cells
named_inside system number r found c named = by (r.total == c) refl
  where
    inside : NamesCells system.cells r
    inside = found_inside system number r found

    among : (parts : List ℕ) → All (λ part. part < system.cells) parts → list_any (λ p. p == c) parts ≡ true → c < system.cells
    among [] all is = absurd cc
    among (part ∷ parts) all is =
        let rest : list_any (λ p. p == c) parts ≡ true → c < system.cells = λ more. among parts (All-tail (λ part. part < system.cells) part parts all) more in
        elim (part == c) as (λ b. (part == c) ≡ b → (b || list_any (λ p. p == c) parts) ≡ true → c < system.cells) [
          | true ↦ λ same more. subst (λ k. k < system.cells) ((Decides-eqb part c).0 same) (All-head (λ part. part < system.cells) part parts all)
          | false ↦ λ same more. rest more
        ] refl is

    by : (b : Bool) → (r.total == c) ≡ b → c < system.cells
    by true same = subst (λ k. k < system.cells) ((Decides-eqb r.total c).0 same) inside.total_named
    by false same = among r.parts inside.parts_named (ap (λ b. b || list_any (λ p. p == c) r.parts) (sym same) ∙ named)

forms_kept : (system : System) (cells : List Cell) (flags : List Bool) (group : Group) (asked : ℕ) (den : ℤ) (moves : Numbers) → IsGroup system flags group asked → IsWorld system cells flags den moves → (number : ℕ) → number < length system.relations → meets group system.relations number ≡ true → All (Keeps system cells group den (amounts_of group system.cells moves)) (forms_for number)
forms_kept system cells flags group asked den moves is world number inside test =
    let amounts : Numbers = amounts_of group system.cells moves in
    let K : Label → Type 0 = Keeps system cells group den amounts in
    let has = found (slice_get system.relations number) refl in
    let r : Relation = has.0 in
    let met : is_met group r ≡ true = ap (λ o. option_map_or (is_met group) o false) (sym has.1) ∙ test in
    let same : form (moves_of group amounts) r ≡ form moves r = same_form (moves_of group amounts) moves r (λ c named. named_same system cells flags group asked den moves is world number r has.1 met c named (named_inside system number r has.1 c named)) in
    let holds : form moves r ≡ pos 0 = subst (λ one. form moves one ≡ pos 0) (get_or_from_slice_get system.relations number r r has.1) (All-get_or (λ one. form moves one ≡ pos 0) system.relations number r inside world.relations_hold) in
    let none : form (moves_of group amounts) r ≡ pos 0 = same ∙ holds in
    let one : K (Form number) = omega (arith, ints, form_comes_to system group amounts (pos 1) number r has.1, none, *ℤ_comm den (pos 0)) in
    let other : K (Negated number) = omega (arith, ints, form_comes_to system group amounts (negsuc 0) number r has.1, none, *ℤ_comm den (pos 0)) in
    All-cons K (Form number) (Negated number ∷ []) one (All-cons K (Negated number) [] other (All-nil K))
  where
    found : (o : Option Relation) → slice_get system.relations number ≡ o → (r : Relation) × (slice_get system.relations number ≡ Some r)
    found (Some r) at = (r, at)
    found None at = absurd (let no : true ≡ false = sym test ∙ ap (λ o. option_map_or (is_met group) o false) at in cc)

all_kept : (system : System) (cells : List Cell) (flags : List Bool) (group : Group) (asked : ℕ) (den : ℤ) (moves : Numbers) → length cells ≡ system.cells → IsGroup system flags group asked → IsWorld system cells flags den moves → All (Keeps system cells group den (amounts_of group system.cells moves)) (labels system.relations cells group system.cells)
all_kept system cells flags group asked den moves each is world =
    let K : Label → Type 0 = Keeps system cells group den (amounts_of group system.cells moves) in
    All-append K (flat_map (caps_for cells) (members group system.cells)) (flat_map forms_for (met_relations group system.relations))
    (All-flat K (caps_for cells) (members group system.cells) (All-members group (λ c. All K (caps_for cells c)) system.cells (λ c below own. caps_kept system cells flags group den moves each world c below own)))
    (All-flat K forms_for (met_relations group system.relations) (All-members (meets group system.relations) (λ number. All K (forms_for number)) (length system.relations) (λ number below test. forms_kept system cells flags group asked den moves is world number below test)))

pub worlds_are_points : WorldsArePoints
worlds_are_points system cells flags group question den moves each is world = (
  amounts_of group system.cells moves,
  record {
    positive = world.positive;
    from_zero = λ column inside. amounts_from group system.cells moves column;
    within = All-map (λ (row : LinRow). comes_to (amounts_of group system.cells moves) row.entries ≤ℤ (den *ℤ row.bound)) (row_of system cells group) (labels system.relations cells group system.cells) (all_kept system cells flags group question.cell den moves each is world);
  },
  ap (amount_toward question.side) (sym (made_in group system.cells moves question.cell is.asked_known is.asked_inside)) ∙ sym (objective_comes_to group system.cells question.cell question.side (amounts_of group system.cells moves) is.asked_known),
)
