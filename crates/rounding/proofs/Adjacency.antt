-- The multiples next to a truth are its neighbours.
use Rattle.std.proofs.Common.{◌≡◌, ◌⊎◌, inl, inr, Bool, true, false, ℤ, pos, negsuc, neg_ℤ, ◌+ℤ◌, ◌-ℤ◌, ◌*ℤ◌, ◌≤ℤ◌, ◌<ℤ◌, arith, ap, sym, ◌∙◌}
use Rattle.std.specs.Int.RustNames.{int_rem, int_div}
use Rattle.std.proofs.Math.IntN.{*ℤ_comm}
use Rattle.std.proofs.lemmas.Int.{ints, by_lt_z, quot-rem}
use Rattle.std.proofs.lemmas.Bool.Decides.{Decides-int_eq}
use Rattle.sdc_base.proofs.WholeNumbers.{distrib, distrib_right, times_up, minus_times}
use Rattle.sdc_base.specs.Roundings.{IsMultiple, IsAdjacent}
use Rattle.rounding.specs.Neighbours.{is_multiple, multiple_down, neighbour}

-- what is left of a truth above the multiple below it is from 0 and below the base
pub left_within : (base truth : ℤ) → pos 1 ≤ℤ base → pos 0 ≤ℤ truth → (pos 0 ≤ℤ int_rem truth base) × (int_rem truth base <ℤ base)
left_within (pos b) (pos t) positive from = (omega (arith, ints), omega (arith, ints))
left_within (negsuc b) truth positive from = absurd (omega (arith, ints))
left_within (pos b) (negsuc t) positive from = absurd (omega (arith, ints))

pub no_rest : (base truth : ℤ) → is_multiple base truth ≡ true → int_rem truth base ≡ pos 0
no_rest base truth is = (Decides-int_eq (int_rem truth base) (pos 0)).0 is

pub some_rest : (base truth : ℤ) → pos 1 ≤ℤ base → pos 0 ≤ℤ truth → is_multiple base truth ≡ false → pos 0 <ℤ int_rem truth base
some_rest base truth positive from is =
    by_lt_z (pos 0) (int_rem truth base) (λ above. above)
    (λ not_above.
    let none : int_rem truth base ≡ pos 0 = omega (arith, ints, (left_within base truth positive from).0, not_above) in
    let clash : false ≡ true = sym is ∙ (Decides-int_eq (int_rem truth base) (pos 0)).1 none in
    absurd cc)

pub down_is : (base truth : ℤ) → multiple_down base truth ≡ int_div truth base *ℤ base
down_is base truth = omega (arith, ints, quot-rem truth base)

pub neighbour_is_multiple : (base truth : ℤ) (choice : Bool) → IsMultiple base (neighbour base truth choice)
neighbour_is_multiple base truth false = (int_div truth base, down_is base truth)
neighbour_is_multiple base truth true = (int_div truth base +ℤ pos 1, omega (arith, ints, down_is base truth, distrib_right base (int_div truth base) (pos 1)))

pub neighbour_is_adjacent : (base truth : ℤ) (choice : Bool) → pos 1 ≤ℤ base → pos 0 ≤ℤ truth → is_multiple base truth ≡ false → IsAdjacent base truth (neighbour base truth choice)
neighbour_is_adjacent base truth false positive from is =
    let within = left_within base truth positive from in
    record { multiple = neighbour_is_multiple base truth false; not_below = omega (arith, ints, within.0, within.1); not_above = omega (arith, ints, within.0, within.1) }
neighbour_is_adjacent base truth true positive from is =
    let within = left_within base truth positive from in
    let rest = some_rest base truth positive from is in
    record { multiple = neighbour_is_multiple base truth true; not_below = omega (arith, ints, within.0, within.1); not_above = omega (arith, ints, rest) }

pub multiple_is_adjacent : (base truth : ℤ) → pos 1 ≤ℤ base → is_multiple base truth ≡ true → IsAdjacent base truth truth
multiple_is_adjacent base truth positive is =
    record { multiple = (int_div truth base, omega (arith, ints, quot-rem truth base, no_rest base truth is)); not_below = omega (arith, ints); not_above = omega (arith, ints) }

-- a whole number of bases between less one and two is none or one
pub none_or_one : (base d : ℤ) → pos 1 ≤ℤ base → neg_ℤ base <ℤ (base *ℤ d) → (base *ℤ d) <ℤ (base +ℤ base) → (d ≡ pos 0) ⊎ (d ≡ pos 1)
none_or_one base d positive low high =
    by_lt_z d (pos 0)
    (λ below. absurd (let far : (base *ℤ d) ≤ℤ (base *ℤ negsuc 0) = times_up base d (negsuc 0) (omega (arith, ints)) (omega (arith, ints)) in omega (arith, ints, far)))
    (λ from. by_lt_z (pos 1) d
    (λ above. absurd (let far : (base *ℤ pos 2) ≤ℤ (base *ℤ d) = times_up base (pos 2) d (omega (arith, ints)) (omega (arith, ints)) in omega (arith, ints, far)))
    (λ to. by_lt_z d (pos 1) (λ less. inl (omega (arith, ints))) (λ not_less. inr (omega (arith, ints)))))

-- an adjacent multiple is the one below, or one base above that
adjacent_either : (base truth value : ℤ) → pos 1 ≤ℤ base → pos 0 ≤ℤ truth → IsAdjacent base truth value → (value ≡ multiple_down base truth) ⊎ (value ≡ multiple_down base truth +ℤ base)
adjacent_either base truth value positive from adjacent =
    let within = left_within base truth positive from in
    let times : ℤ = adjacent.multiple.0 in
    let quotient : ℤ = int_div truth base in
    let d : ℤ = times -ℤ quotient in
    let apart : base *ℤ d ≡ value -ℤ multiple_down base truth = distrib base times (neg_ℤ quotient) ∙ omega (arith, ints, *ℤ_comm base (neg_ℤ quotient), minus_times quotient base, *ℤ_comm base times, adjacent.multiple.1, down_is base truth) in
    let low = adjacent.not_below in
    let high = adjacent.not_above in
    found base d value truth apart (none_or_one base d positive (omega (arith, ints, apart, low, within.0, within.1)) (omega (arith, ints, apart, high, within.0, within.1)))
  where
    found : (base d value truth : ℤ) → base *ℤ d ≡ value -ℤ multiple_down base truth → (d ≡ pos 0) ⊎ (d ≡ pos 1) → (value ≡ multiple_down base truth) ⊎ (value ≡ multiple_down base truth +ℤ base)
    found base d value truth apart (inl none) = inl (let zero_times : base *ℤ d ≡ base *ℤ pos 0 = ap (λ k. base *ℤ k) none in omega (arith, ints, apart, zero_times))
    found base d value truth apart (inr one) = inr (let one_times : base *ℤ d ≡ base *ℤ pos 1 = ap (λ k. base *ℤ k) one in omega (arith, ints, apart, one_times))

-- where the truth isn't a multiple, an adjacent multiple is a neighbour
pub adjacent_is_neighbour : (base truth value : ℤ) → pos 1 ≤ℤ base → pos 0 ≤ℤ truth → IsAdjacent base truth value → (choice : Bool) × (value ≡ neighbour base truth choice)
adjacent_is_neighbour base truth value positive from adjacent =
    elim (adjacent_either base truth value positive from adjacent) as (λ _. (choice : Bool) × (value ≡ neighbour base truth choice)) [ inl is ↦ (false, is) | inr is ↦ (true, is) ]

-- a truth that is a multiple stays
pub multiple_stays : (base truth value : ℤ) → pos 1 ≤ℤ base → pos 0 ≤ℤ truth → is_multiple base truth ≡ true → IsAdjacent base truth value → value ≡ truth
multiple_stays base truth value positive from is adjacent =
    let none = no_rest base truth is in
    let high = adjacent.not_above in
    elim (adjacent_either base truth value positive from adjacent) as (λ _. value ≡ truth) [
      | inl same ↦ omega (arith, ints, same, none)
      | inr up ↦ absurd (omega (arith, ints, up, none, high))
    ]
