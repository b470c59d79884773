-- Multipliers brought to lowest terms have the same bound sum, so many times less.
use Rattle.std.proofs.Common.{◌≡◌, ℕ, ◌+◌, ◌*◌, ◌≤◌, Bool, true, false, List, [], ◌∷◌, length, None, Some, slice_get, ℤ, pos, ◌+ℤ◌, ◌-ℤ◌, ◌*ℤ◌, ◌≤ℤ◌, ◌<ℤ◌, int_lt, arith, ap, sym, ◌∙◌, subst, if◌then◌else◌}
use Rattle.std.specs.List.{flat_map}
use Rattle.std.specs.Option.{option_map_or}
use Rattle.std.proofs.Math.IntN.{*ℤ_comm}
use Rattle.std.proofs.lemmas.Int.{ints, by_lt_z}
use Rattle.sdc_base.specs.declared.cell.Cell.{Cell}
use Rattle.sdc_base.specs.declared.system.System.{System}
use Rattle.sdc_base.specs.Forms.{Term, coefficient}
use Rattle.sdc_base.specs.HiddenSets.{is_hidden}
use Rattle.sdc_base.specs.Systems.{Numbers}
use Rattle.sdc_base.specs.Refutations.{rise, share, share_at, bound_sum, AreBounded}
use Rattle.sdc_base.proofs.WholeNumbers.{distrib, assoc, times_more, times_up}
use Rattle.sdc_base.proofs.TotalLemmas.{sum_of-cons, sum_below-same, sum_below-times}
use Rattle.sdc_base.proofs.WeakDual.{value_of}
use Rattle.worlds.specs.declared.multipliers.Multipliers.{Multipliers}
use Rattle.worlds.specs.NumberLists.{IsListed}
use Rattle.worlds.specs.RefutationFaults.{terms_added}
use Rattle.interval_audit.specs.declared.question.Question.{Question}
use Rattle.interval_audit.specs.Groups.{Group, members}
use Rattle.interval_audit.specs.Labels.{caps_for, labels, met_relations, relation_terms, multiplier}
use Rattle.interval_audit.specs.Problems.{asked_move}
use Rattle.interval_audit.specs.QuestionLaws.{refuting_by}
use Rattle.interval_audit.specs.LowestTerms.{times_each}
use Rattle.interval_audit.specs.Readings.{AreMultipliersOf}
use Rattle.interval_audit.proofs.Points.{meets}
use Rattle.interval_audit.proofs.Forms.{has_at, refuting_at}
use Rattle.interval_audit.proofs.Givens.{listed_is, listed_less}
use Rattle.interval_audit.proofs.Pairing.{counted_value}

value_times : (F : Numbers) (by : ℤ) (less : List Term) → value_of F (times_each by less) ≡ by *ℤ value_of F less
value_times F by [] = omega (arith, ints, *ℤ_comm by (pos 0))
value_times F by (t ∷ less) =
    sum_of-cons (λ (t : Term). t.1 *ℤ F t.0) (t.0, by *ℤ t.1) (times_each by less)
    ∙ omega (arith, ints, value_times F by less, assoc by t.1 (F t.0), distrib by (t.1 *ℤ F t.0) (value_of F less), ap (λ z. by *ℤ z) (sum_of-cons (λ (t : Term). t.1 *ℤ F t.0) t less))

-- there are weights for the caps and for the forms
abbrev pub AreLong : System → List Cell → Group → List ℤ → Type 0
AreLong system cells group weights = length (flat_map (caps_for cells) (members group system.cells)) + 2 * length (met_relations group system.relations) ≤ length weights

-- the coefficients are so many times those of the multipliers that are read
pub scaled : (system : System) (cells : List Cell) (group : Group) (question : Question) (q : ℤ) (weights : List ℤ) (read : Multipliers) (is : AreMultipliersOf system cells group q weights read) → AreLong system cells group weights → (c : ℕ)
    → coefficient (refuting_by system cells group question q weights) c ≡ is.by *ℤ coefficient (terms_added system question.cell question.side read) c
scaled system cells group question q weights read is long c =
    let F : Numbers = has_at system.relations c in
    let move : ℤ = coefficient (asked_move question.cell question.side) c in
    let counts : List Term = relation_terms weights (labels system.relations cells group system.cells) in
    let value : value_of F counts ≡ is.by *ℤ value_of F read.by_relation =
    counted_value F system.relations cells group system.cells weights long ∙ ap (value_of F) is.each_same ∙ value_times F is.by read.by_relation in
    let asked : q *ℤ move ≡ is.by *ℤ (read.den *ℤ move) = ap (λ z. z *ℤ move) is.den_same ∙ assoc is.by read.den move in
    let own : coefficient (terms_added system question.cell question.side read) c ≡ read.den *ℤ move +ℤ value_of F read.by_relation = refuting_at system.relations question.cell question.side read.den read.by_relation c in
    refuting_at system.relations question.cell question.side q counts c
    ∙ omega (arith, ints, value, asked, distrib is.by (read.den *ℤ move) (value_of F read.by_relation))
    ∙ ap (λ z. is.by *ℤ z) (sym own)

-- ---- shares

sign_same : (by z : ℤ) → pos 1 ≤ℤ by → int_lt (pos 0) (by *ℤ z) ≡ int_lt (pos 0) z
sign_same by z positive =
    by_lt_z (pos 0) z
    (λ up.
    let more : pos 0 <ℤ (by *ℤ z) = omega (arith, ints, times_more by (pos 0) z positive up, *ℤ_comm by (pos 0)) in
    let one : int_lt (pos 0) (by *ℤ z) ≡ true = grind (arith, ints, more) in
    let other : int_lt (pos 0) z ≡ true = grind (arith, ints, up) in
    one ∙ sym other)
    (λ down.
    let less : (by *ℤ z) ≤ℤ pos 0 = omega (arith, ints, times_up by z (pos 0) (omega (arith, ints, positive)) down, *ℤ_comm by (pos 0)) in
    let one : int_lt (pos 0) (by *ℤ z) ≡ false = grind (arith, ints, less) in
    let other : int_lt (pos 0) z ≡ false = grind (arith, ints, down) in
    one ∙ sym other)

share_times : (hidden : Bool) (by z : ℤ) (cell : Cell) → pos 1 ≤ℤ by → share hidden (by *ℤ z) cell ≡ by *ℤ share hidden z cell
share_times false by z cell positive = omega (arith, ints, *ℤ_comm by (pos 0))
share_times true by z cell positive =
    ap (λ b. if b then (by *ℤ z) *ℤ rise cell else (by *ℤ z) *ℤ (cell.low -ℤ cell.truth)) (sign_same by z positive)
    ∙ elim (int_lt (pos 0) z) as (λ b. (if b then (by *ℤ z) *ℤ rise cell else (by *ℤ z) *ℤ (cell.low -ℤ cell.truth)) ≡ by *ℤ (if b then z *ℤ rise cell else z *ℤ (cell.low -ℤ cell.truth))) [
      | true ↦ assoc by z (rise cell)
      | false ↦ assoc by z (cell.low -ℤ cell.truth)
    ]

share_at_times : (cells : List Cell) (flags : List Bool) (by : ℤ) (k less : Numbers) (c : ℕ) → pos 1 ≤ℤ by → k c ≡ by *ℤ less c → share_at cells flags k c ≡ by *ℤ share_at cells flags less c
share_at_times cells flags by k less c positive is =
    elim (slice_get cells c) as (λ o. option_map_or (share (is_hidden flags c) (k c)) o (pos 0) ≡ by *ℤ option_map_or (share (is_hidden flags c) (less c)) o (pos 0)) [
      | None ↦ omega (arith, ints, *ℤ_comm by (pos 0))
      | Some cell ↦ ap (λ z. share (is_hidden flags c) z cell) is ∙ share_times (is_hidden flags c) by (less c) cell positive
    ]

pub sum_times : (cells : List Cell) (flags : List Bool) (by : ℤ) (k less : Numbers) → pos 1 ≤ℤ by → ((c : ℕ) → k c ≡ by *ℤ less c) → bound_sum cells flags k ≡ by *ℤ bound_sum cells flags less
sum_times cells flags by k less positive is =
    sum_below-same (length cells) (share_at cells flags k) (λ c. by *ℤ share_at cells flags less c) (λ c below. share_at_times cells flags by k less c positive (is c)) ∙ sum_below-times (length cells) by (share_at cells flags less)

pub bounded_less : (cells : List Cell) (flags : List Bool) (by : ℤ) (k less : Numbers) → pos 1 ≤ℤ by → ((c : ℕ) → k c ≡ by *ℤ less c) → AreBounded cells flags k → AreBounded cells flags less
bounded_less cells flags by k less positive is bounded number cell found hides up =
    bounded number cell found hides (omega (arith, ints, is number, times_more by (pos 0) (less number) positive up, *ℤ_comm by (pos 0)))

-- the multipliers that are read are listed
pub read_listed : (system : System) (cells : List Cell) (group : Group) (q : ℤ) (weights : List ℤ) (read : Multipliers) → AreMultipliersOf system cells group q weights read → IsListed (length system.relations) read.by_relation
read_listed system cells group q weights read is =
    listed_less is.by (length system.relations) read.by_relation (subst (IsListed (length system.relations)) is.each_same (listed_is (meets group system.relations) (multiplier weights (labels system.relations cells group system.cells)) (length system.relations)))
