-- What forms and caps come to on the moves that amounts of columns make.
use Rattle.std.proofs.Common.{◌≡◌, ℕ, ◌<◌, ◌||◌, Bool, true, false, List, [], ◌∷◌, map, Some, slice_get, All, ℤ, pos, neg_ℤ, ◌-ℤ◌, ◌*ℤ◌, arith, refl, ap, ◌∙◌, subst, if◌then◌else◌}
use Rattle.std.specs.List.{list_any}
use Rattle.std.specs.Option.{option_map_or}
use Rattle.std.proofs.Math.IntN.{*ℤ_comm}
use Rattle.std.proofs.lemmas.Int.{ints}
use Rattle.std.proofs.lemmas.List.Elements.{All-nil, All-cons, All-map, All-get_or}
use Rattle.std.proofs.lemmas.Option.{slice_get_within, get_or_from_slice_get}
use Rattle.sdc_base.specs.declared.relation.Relation.{Relation}
use Rattle.sdc_base.specs.declared.side.Side.{Side}
use Rattle.sdc_base.specs.declared.side.Side.TheVariants.{Above, Below}
use Rattle.sdc_base.specs.declared.system.System.{System}
use Rattle.sdc_base.specs.Totals.{sum_of}
use Rattle.sdc_base.specs.Forms.{Term, form_times}
use Rattle.sdc_base.specs.Systems.{Numbers, NamesCells, form}
use Rattle.sdc_base.specs.Worlds.{amount_toward}
use Rattle.sdc_base.proofs.WholeNumbers.{distrib, minus_times}
use Rattle.sdc_base.proofs.TotalLemmas.{sum_of-cons, sum_of-map, times_sum}
use Rattle.sdc_base.proofs.WeakDual.{value_of}
use Rattle.interval_audit.specs.Points.{comes_to}
use Rattle.interval_audit.specs.Groups.{Group}
use Rattle.interval_audit.specs.Columns.{up_column, down_column, moves_of, entries_of}
use Rattle.interval_audit.specs.Labels.{form_at, is_met}
use Rattle.interval_audit.specs.Problems.{asked_move}
use Rattle.interval_audit.proofs.Spread.{entries_are_value}

-- a form so many times comes to so many times what the form is
value_of-form_times : (numbers : Numbers) (times : ℤ) (r : Relation) → value_of numbers (form_times times r) ≡ times *ℤ form numbers r
value_of-form_times numbers times r =
    sum_of-cons (λ (t : Term). t.1 *ℤ numbers t.0) (r.total, times) (map (λ part. (part, neg_ℤ times)) r.parts)
    ∙ omega (arith, ints, sum_of-map (λ (t : Term). t.1 *ℤ numbers t.0) (λ part. (part, neg_ℤ times)) r.parts, times_sum (neg_ℤ times) numbers r.parts, minus_times times (sum_of numbers r.parts), distrib times (numbers r.total) (neg_ℤ (sum_of numbers r.parts)), *ℤ_comm times (neg_ℤ (sum_of numbers r.parts)), minus_times (sum_of numbers r.parts) times, *ℤ_comm times (sum_of numbers r.parts))

-- a form's terms name cells of the system
pub terms_inside : (n : ℕ) (times : ℤ) (r : Relation) → NamesCells n r → All (λ (t : Term). t.0 < n) (form_times times r)
terms_inside n times r inside = All-cons (λ (t : Term). t.0 < n) (r.total, times) (map (λ part. (part, neg_ℤ times)) r.parts) inside.total_named (All-map (λ (t : Term). t.0 < n) (λ (part : ℕ). (part, neg_ℤ times)) r.parts inside.parts_named)

-- the relation with a number names cells of the system
pub found_inside : (system : System) (number : ℕ) (r : Relation) → slice_get system.relations number ≡ Some r → NamesCells system.cells r
found_inside system number r found =
    subst (NamesCells system.cells) (get_or_from_slice_get system.relations number r r found) (All-get_or (NamesCells system.cells) system.relations number r (slice_get_within system.relations number r found) system.named)

-- a form's entries come to so many times what the form is on the moves
pub form_comes_to : (system : System) (group : Group) (amounts : Numbers) (times : ℤ) (number : ℕ) (r : Relation) → slice_get system.relations number ≡ Some r → comes_to amounts (entries_of group system.cells (form_at system.relations times number)) ≡ times *ℤ form (moves_of group amounts) r
form_comes_to system group amounts times number r found =
    ap (λ o. comes_to amounts (entries_of group system.cells (option_map_or (form_times times) o []))) found
    ∙ entries_are_value group system.cells amounts (form_times times r) (terms_inside system.cells times r (found_inside system number r found))
    ∙ value_of-form_times (moves_of group amounts) times r

toward_one : (side : Side) (m : ℤ) → amount_toward side (pos 1) *ℤ m ≡ amount_toward side m
toward_one Above m = omega (arith, ints)
toward_one Below m = omega (arith, ints, minus_times (pos 1) m)

-- the objective comes to the asked cell's move to its side
pub objective_comes_to : (group : Group) (n asked : ℕ) (side : Side) (amounts : Numbers) → asked < n → comes_to amounts (entries_of group n (asked_move asked side)) ≡ amount_toward side (moves_of group amounts asked)
objective_comes_to group n asked side amounts inside =
    entries_are_value group n amounts (asked_move asked side) (All-cons (λ (t : Term). t.0 < n) (asked, amount_toward side (pos 1)) [] inside (All-nil (λ (t : Term). t.0 < n)))
    ∙ sum_of-cons (λ (t : Term). t.1 *ℤ moves_of group amounts t.0) (asked, amount_toward side (pos 1)) []
    ∙ omega (arith, ints, toward_one side (moves_of group amounts asked))

-- a cap's one entry comes to the amount of its column
pub cap_comes_to : (amounts : Numbers) (column : ℕ) → comes_to amounts ((column, pos 1) ∷ []) ≡ amounts column
cap_comes_to amounts column = sum_of-cons (λ (t : Term). t.1 *ℤ amounts t.0) (column, pos 1) [] ∙ omega (arith, ints)

-- ---- moves in and out of the group

pub moves_in : (group : Group) (amounts : Numbers) (c : ℕ) → group c ≡ true → moves_of group amounts c ≡ amounts (up_column group c) -ℤ amounts (down_column group c)
moves_in group amounts c is = ap (λ b. if b then amounts (up_column group c) -ℤ amounts (down_column group c) else pos 0) is

pub moves_out : (group : Group) (amounts : Numbers) (c : ℕ) → group c ≡ false → moves_of group amounts c ≡ pos 0
moves_out group amounts c is = ap (λ b. if b then amounts (up_column group c) -ℤ amounts (down_column group c) else pos 0) is

-- a relation that no cell of the group stands in holds
parts_out : (group : Group) (amounts : Numbers) (parts : List ℕ) → list_any group parts ≡ false → sum_of (moves_of group amounts) parts ≡ pos 0
parts_out group amounts [] none = refl
parts_out group amounts (part ∷ parts) none =
    let both = or_false (group part) (list_any group parts) none in
    omega (arith, ints, sum_of-cons (moves_of group amounts) part parts, moves_out group amounts part both.0, parts_out group amounts parts both.1)
  where
    or_false : (a b : Bool) → (a || b) ≡ false → (a ≡ false) × (b ≡ false)
    or_false true b h = absurd cc
    or_false false b h = (refl, h)

pub unmet_holds : (group : Group) (amounts : Numbers) (r : Relation) → is_met group r ≡ false → form (moves_of group amounts) r ≡ pos 0
unmet_holds group amounts r none =
    let both = or_false (group r.total) (list_any group r.parts) none in
    omega (arith, ints, moves_out group amounts r.total both.0, parts_out group amounts r.parts both.1)
  where
    or_false : (a b : Bool) → (a || b) ≡ false → (a ≡ false) × (b ≡ false)
    or_false true b h = absurd cc
    or_false false b h = (refl, h)
