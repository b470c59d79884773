-- Going round: where numbers beside their truths go, and when they are multiples.
use Rattle.std.proofs.Common.{◌≡◌, ◌⊎◌, inl, inr, true, false, ℤ, pos, negsuc, neg_ℤ, ◌+ℤ◌, ◌-ℤ◌, ◌*ℤ◌, ◌≤ℤ◌, int_lt, arith, refl, ap, sym, subst, ◌∙◌}
use Rattle.std.specs.Int.RustNames.{int_rem, int_div}
use Rattle.std.proofs.Math.IntN.{*ℤ_comm}
use Rattle.std.proofs.lemmas.Int.{ints, quot-rem}
use Rattle.std.proofs.lemmas.Bool.Decides.{Decides-int_eq}
use Rattle.sdc_base.proofs.WholeNumbers.{distrib, minus_times}
use Rattle.sdc_base.specs.Roundings.{IsMultiple, IsAdjacent}
use Rattle.rounding.specs.Neighbours.{is_multiple, multiple_down, neighbour}
use Rattle.rounding.specs.Rings.{IsBeside, room}
use Rattle.rounding.proofs.Adjacency.{left_within, none_or_one, neighbour_is_multiple, no_rest, some_rest, down_is, multiple_is_adjacent}

-- a cell doesn't move, or isn't a multiple and moves up or down
abbrev pub IsTurn : ℤ → ℤ → ℤ → Type 0
IsTurn base number turn = (turn ≡ pos 0) ⊎ ((is_multiple base number ≡ false) × ((turn ≡ pos 1) ⊎ (turn ≡ negsuc 0)))

-- ---- multiples

-- a number of bases is a multiple
pub is_multiple_from : (base number : ℤ) → pos 1 ≤ℤ base → pos 0 ≤ℤ number → IsMultiple base number → is_multiple base number ≡ true
is_multiple_from base number positive from (times, is) =
    let within = left_within base number positive from in
    let d : ℤ = times -ℤ int_div number base in
    let apart : base *ℤ d ≡ int_rem number base = distrib base times (neg_ℤ (int_div number base)) ∙ omega (arith, ints, *ℤ_comm base (neg_ℤ (int_div number base)), minus_times (int_div number base) base, *ℤ_comm base times, is, quot-rem number base) in
    (Decides-int_eq (int_rem number base) (pos 0)).1
    (elim (none_or_one base d positive (omega (arith, ints, apart, within.0, within.1)) (omega (arith, ints, apart, within.0, within.1))) as (λ _. int_rem number base ≡ pos 0) [
      | inl none ↦ sym apart ∙ ap (λ z. base *ℤ z) none ∙ *ℤ_comm base (pos 0) ∙ omega (arith, ints)
      | inr one ↦ absurd (let whole : base *ℤ d ≡ base = ap (λ z. base *ℤ z) one ∙ *ℤ_comm base (pos 1) ∙ omega (arith, ints) in omega (arith, ints, apart, whole, within.1))
    ])

-- a number beside its truth that is no multiple lies above the multiple below the truth by what is left of it
rest_is : (base truth number : ℤ) → pos 1 ≤ℤ base → pos 0 ≤ℤ truth → pos 0 ≤ℤ number → IsBeside base truth number → is_multiple base number ≡ false → int_rem number base ≡ number -ℤ multiple_down base truth
rest_is base truth number positive from from' beside not =
    let within = left_within base number positive from' in
    let some = some_rest base number positive from' not in
    let d : ℤ = int_div number base -ℤ int_div truth base in
    let apart : base *ℤ d ≡ (number -ℤ int_rem number base) -ℤ multiple_down base truth =
    distrib base (int_div number base) (neg_ℤ (int_div truth base)) ∙ omega (arith, ints, *ℤ_comm base (neg_ℤ (int_div truth base)), minus_times (int_div truth base) base, *ℤ_comm base (int_div number base), quot-rem number base, down_is base truth) in
    let low = beside.low in
    let high = beside.high in
    elim (none_or_one base d positive (omega (arith, ints, apart, low, within.1)) (omega (arith, ints, apart, high, within.0))) as (λ _. int_rem number base ≡ number -ℤ multiple_down base truth) [
      | inl none ↦ (let zero_times : base *ℤ d ≡ pos 0 = ap (λ z. base *ℤ z) none ∙ *ℤ_comm base (pos 0) ∙ omega (arith, ints) in omega (arith, ints, apart, zero_times))
      | inr one ↦ absurd (let whole : base *ℤ d ≡ base = ap (λ z. base *ℤ z) one ∙ *ℤ_comm base (pos 1) ∙ omega (arith, ints) in omega (arith, ints, apart, whole, high, some))
    ]

pub down_from : (base truth : ℤ) → pos 1 ≤ℤ base → pos 0 ≤ℤ truth → pos 0 ≤ℤ multiple_down base truth
down_from (pos b) (pos t) positive from = omega (arith, ints)
down_from (negsuc b) truth positive from = absurd (omega (arith, ints))
down_from (pos b) (negsuc t) positive from = absurd (omega (arith, ints))

stays_put : (number by turn : ℤ) → turn ≡ pos 0 → number +ℤ by *ℤ turn ≡ number
stays_put number by turn none = let still : by *ℤ turn ≡ pos 0 = ap (λ z. by *ℤ z) none ∙ *ℤ_comm by (pos 0) ∙ omega (arith, ints) in omega (arith, ints, still)

goes_up : (number by turn : ℤ) → turn ≡ pos 1 → number +ℤ by *ℤ turn ≡ number +ℤ by
goes_up number by turn one = let once : by *ℤ turn ≡ by = ap (λ z. by *ℤ z) one ∙ *ℤ_comm by (pos 1) ∙ omega (arith, ints) in omega (arith, ints, once)

goes_down : (number by turn : ℤ) → turn ≡ negsuc 0 → number +ℤ by *ℤ turn ≡ number -ℤ by
goes_down number by turn one = let once : by *ℤ turn ≡ neg_ℤ by = ap (λ z. by *ℤ z) one ∙ *ℤ_comm by (negsuc 0) ∙ minus_times (pos 1) by ∙ omega (arith, ints) in omega (arith, ints, once)

pub up_room : (base number turn : ℤ) → turn ≡ pos 1 → room base number turn ≡ base -ℤ int_rem number base
up_room base number turn one = let test : int_lt (pos 0) turn ≡ true = grind (arith, ints, one) in rw test refl

pub down_room : (base number turn : ℤ) → turn ≡ negsuc 0 → room base number turn ≡ int_rem number base
down_room base number turn one = let test : int_lt (pos 0) turn ≡ false = grind (arith, ints, one) in rw test refl

pub not_none : (turn : ℤ) → (turn ≡ pos 1) ⊎ (turn ≡ negsuc 0) → turn ≡ pos 0 → ⊥
not_none turn (inl up) none = omega (arith, ints, up, none)
not_none turn (inr down_so) none = omega (arith, ints, down_so, none)

pub from_none : (base truth number : ℤ) → pos 1 ≤ℤ base → pos 0 ≤ℤ truth → IsBeside base truth number → pos 0 ≤ℤ number
from_none base truth number positive from beside = let low = beside.low in omega (arith, ints, low, down_from base truth positive from)

-- where the number isn't a multiple, neither is the truth
still_stays : (base truth number after : ℤ) → IsBeside base truth number → is_multiple base number ≡ false → is_multiple base truth ≡ true → after ≡ truth
still_stays base truth number after beside not is =
    let same : is_multiple base number ≡ true = ap (λ z. is_multiple base z) (beside.stays is) ∙ is in
    absurd (let clash : true ≡ false = sym same ∙ not in cc)

pub moved_beside : (base truth number turn by : ℤ) → pos 1 ≤ℤ base → pos 0 ≤ℤ truth → IsBeside base truth number → IsTurn base number turn → pos 0 ≤ℤ by → ((turn ≡ pos 0 → ⊥) → by ≤ℤ room base number turn) → IsBeside base truth (number +ℤ by *ℤ turn)
moved_beside base truth number turn by positive from beside (inl none) some near = subst (IsBeside base truth) (sym (stays_put number by turn none)) beside
moved_beside base truth number turn by positive from beside (inr (not, inl one)) some near =
    let rest = rest_is base truth number positive from (from_none base truth number positive from beside) beside not in
    let short = near (not_none turn (inl one)) in
    let space = up_room base number turn one in
    let low = beside.low in
    subst (IsBeside base truth) (sym (goes_up number by turn one)) (record { low = omega (arith, ints, low, some); high = omega (arith, ints, rest, short, space); stays = still_stays base truth number (number +ℤ by) beside not })
moved_beside base truth number turn by positive from beside (inr (not, inr one)) some near =
    let rest = rest_is base truth number positive from (from_none base truth number positive from beside) beside not in
    let short = near (not_none turn (inr one)) in
    let space = down_room base number turn one in
    let high = beside.high in
    subst (IsBeside base truth) (sym (goes_down number by turn one)) (record { low = omega (arith, ints, rest, short, space); high = omega (arith, ints, high, some); stays = still_stays base truth number (number -ℤ by) beside not })

pub multiple_stays_put : (base number turn by : ℤ) → IsTurn base number turn → is_multiple base number ≡ true → number +ℤ by *ℤ turn ≡ number
multiple_stays_put base number turn by (inl none) is = stays_put number by turn none
multiple_stays_put base number turn by (inr (not, way)) is = absurd (let clash : true ≡ false = sym is ∙ not in cc)

pub one_becomes : (base number turn : ℤ) → pos 1 ≤ℤ base → pos 0 ≤ℤ number → IsTurn base number turn → (turn ≡ pos 0 → ⊥) → is_multiple base (number +ℤ room base number turn *ℤ turn) ≡ true
one_becomes base number turn positive from (inl none) moves = absurd (moves none)
one_becomes base number turn positive from (inr (not, inl one)) moves =
    let up : number +ℤ room base number turn *ℤ turn ≡ neighbour base number true = goes_up number (room base number turn) turn one ∙ omega (arith, ints, up_room base number turn one) in
    let low = down_from base number positive from in
    ap (λ z. is_multiple base z) up ∙ is_multiple_from base (neighbour base number true) positive (omega (arith, ints, low)) (neighbour_is_multiple base number true)
one_becomes base number turn positive from (inr (not, inr one)) moves =
    let down_to : number +ℤ room base number turn *ℤ turn ≡ neighbour base number false = goes_down number (room base number turn) turn one ∙ omega (arith, ints, down_room base number turn one) in
    ap (λ z. is_multiple base z) down_to ∙ is_multiple_from base (neighbour base number false) positive (down_from base number positive from) (neighbour_is_multiple base number false)

pub beside_is_adjacent : (base truth number : ℤ) → pos 1 ≤ℤ base → pos 0 ≤ℤ truth → IsBeside base truth number → is_multiple base number ≡ true → IsAdjacent base truth number
beside_is_adjacent base truth number positive from beside is =
    let within = left_within base truth positive from in
    let low = beside.low in
    let high = beside.high in
    elim (is_multiple base truth) as (λ b. is_multiple base truth ≡ b → IsAdjacent base truth number) [
      | true ↦ λ whole. subst (IsAdjacent base truth) (sym (beside.stays whole)) (multiple_is_adjacent base truth positive whole)
      | false ↦ λ partly.
          let rest = some_rest base truth positive from partly in
          record {
            multiple = (int_div number base, omega (arith, ints, quot-rem number base, no_rest base number is));
            not_below = omega (arith, ints, low, within.1);
            not_above = omega (arith, ints, high, rest);
          }
    ] refl
