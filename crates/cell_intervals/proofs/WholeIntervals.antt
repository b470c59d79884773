-- Whole ends of intervals, from whole answers of their questions.
use Rattle.std.proofs.Common.{◌≡◌, ℕ, ◌+◌, ◌-◌, ◌*◌, ◌<◌, ◌≤◌, ◌^◌, Bool, List, All, length, Some, slice_get, slice_index_or, ℤ, pos, ◌≤ℤ◌, to_z, of_z, unsigned_abs, arith, ap, sym, subst, ◌∙◌}
use Prim.Native.Nat.{◌∣◌}
use Rattle.std.specs.Int.{w128}
use Rattle.std.proofs.Math.Nat.{one-dvd, eq-one_of_dvd-one}
use Rattle.std.proofs.lemmas.Int.{ints}
use Rattle.sdc_base.specs.declared.cell.Cell.{Cell}
use Rattle.sdc_base.specs.declared.fraction.Fraction.{Fraction}
use Rattle.sdc_base.specs.declared.side.Side.{Side}
use Rattle.sdc_base.specs.declared.side.Side.TheVariants.{Above, Below}
use Rattle.sdc_base.specs.declared.system.System.{System}
use Rattle.sdc_base.specs.Worlds.{IsWorld, amount_toward}
use Rattle.worlds.specs.declared.multipliers.Multipliers.{Multipliers}
use Rattle.worlds.specs.declared.world.World.{World}
use Rattle.worlds.specs.NumberLists.{terms_of, number_given}
use Rattle.worlds.specs.WorldFaults.{IsGivenWorld}
use Rattle.interval_audit.specs.declared.question.Question.{Question}
use Rattle.interval_audit.specs.Answers.{StopsShort}
use Rattle.interval_audit.specs.declared.answer.Answer.TheVariants.{Reaches, Stops}
use Rattle.interval_audit.specs.Ends.{IsEndQuestion, IsWholeEnd}
use Rattle.interval_audit.specs.QuestionLaws.{IsBest}
use Rattle.cell_intervals.specs.declared.interval.UpperEnd.TheVariants.{At, Open}
use Rattle.cell_intervals.specs.declared.ratio.Ratio.{Ratio}
use Rattle.cell_intervals.specs.Farthest.{IsFarthest, IsWholeDistance, IsWholeFar}
use Rattle.cell_intervals.specs.Intervals.{IsWholeUpperEnd, IsWholeValue}
use Rattle.cell_intervals.specs.Lowering.{IsLoweredTo}
use Rattle.cell_intervals.proofs.Bounding.{part_answer, same_cell, truth_is}
use Rattle.cell_intervals.proofs.Reaching.{best_from_zero, size_is}

-- ---- how far worlds over the denominator 1 take a cell

distance_of : (system : System) (cells : List Cell) (flags : List Bool) (number : ℕ) (side : Side) (amount : ℤ) (world : World) → IsGivenWorld system cells flags world → world.den ≡ pos 1 → amount_toward side (number_given (terms_of world.moves) number) ≡ amount → IsWholeDistance system cells flags number side amount
distance_of system cells flags number side amount world is whole exactly =
    (number_given (terms_of world.moves), subst (λ den. IsWorld system cells flags den (number_given (terms_of world.moves))) whole is.is_world, exactly)

pub whole_reach : (system : System) (cells : List Cell) (flags : List Bool) (number : ℕ) (side : Side) (world : World) → IsWholeEnd system cells flags number side (Reaches world) → IsWholeDistance system cells flags number side (pos (2 ^ 110))
whole_reach system cells flags number side world end = distance_of system cells flags number side (pos (2 ^ 110)) world end.is_world end.whole end.exactly

-- a best value over 1 in lowest terms is a whole number
whole_lowered : (num den : ℕ) (far : Ratio) → den ≡ 1 → IsLoweredTo num den far.num far.den → ((times : ℕ) → den ∣ times * num → far.den ∣ times) → (far.den ≡ 1) × (num ≡ far.num)
whole_lowered num den far one lowered least =
    let far_one : far.den ≡ 1 = eq-one_of_dvd-one (least 1 (subst (λ d. d ∣ (1 * num)) (sym one) (one-dvd (1 * num)))) in
    let by_one : lowered.0 ≡ 1 = omega (arith, lowered.3, one, ap (λ d. lowered.0 * d) far_one) in
    (far_one, omega (arith, lowered.2, ap (λ b. b * far.num) by_one))

pub whole_stop : (system : System) (cells : List Cell) (flags : List Bool) (number : ℕ) (side : Side) (question : Question) (best : Fraction) (world : World) (multipliers : Multipliers) (num den : ℕ) (far : Ratio) → IsEndQuestion number side question
    → StopsShort system cells flags question best world multipliers → num ≡ unsigned_abs best.num → den ≡ unsigned_abs best.den → IsLoweredTo num den far.num far.den → ((times : ℕ) → den ∣ times * num → far.den ∣ times)
    → IsWholeEnd system cells flags number side (Stops best world multipliers) → IsWholeFar system cells flags number side far
whole_stop system cells flags number side question best world multipliers num den far asks stops num_size den_size lowered least whole =
    let own : IsBest system cells flags number side best.num best.den = subst (λ s. IsBest system cells flags number s best.num best.den) asks.side_is (subst (λ c. IsBest system cells flags c question.side best.num best.den) asks.cell_is stops.is_best) in
    let num_is : best.num ≡ pos num = size_is best.num (best_from_zero system cells flags number side best.num best.den own) ∙ ap pos (sym num_size) in
    let both = whole_lowered num den far (den_size ∙ ap unsigned_abs whole.0) lowered least in
    (both.0, subst (λ z. IsWholeDistance system cells flags number side z) (num_is ∙ ap pos both.1) (distance_of system cells flags number side best.num world whole.1.is_world whole.1.whole whole.1.exactly))

-- ---- the lower end

low_whole : (system : System) (cells : List Cell) (flags : List Bool) (number : ℕ) (known : Cell) (truth : ℕ) (far low : Ratio) → known.truth ≡ pos truth → far.num ≤ truth * far.den → low.num ≡ truth * far.den - far.num → low.den ≡ far.den
    → IsWholeFar system cells flags number Below far → IsWholeValue system cells flags number known low
low_whole system cells flags number known truth far low truth_same within num_is den_is whole =
    let times : truth * far.den ≡ truth * 1 = ap (λ d. truth * d) whole.0 in
    (den_is ∙ whole.0, (whole.1.0, whole.1.1, omega (arith, ints, truth_same, times, within, num_is, whole.1.2)))

pub low_whole_answer : (system : System) (cells : List Cell) (flags : List Bool) (number : ℕ) (d : Cell) (truth : ℕ) (far low : Ratio) → number < length cells → All (λ (cell : Cell). cell.truth ≤ℤ pos (10 ^ 29)) cells → truth ≡ unsigned_abs (to_z w128 (of_z w128 (slice_index_or cells number d).truth))
    → low.num ≡ truth * far.den - far.num → low.den ≡ far.den → IsFarthest system cells flags number Below far → IsWholeFar system cells flags number Below far → (known : Cell) → slice_get cells number ≡ Some known → IsWholeValue system cells flags number known low
low_whole_answer system cells flags number d truth far low inside few size num den farthest whole known found =
    subst (λ k. IsWholeValue system cells flags number k low) (same_cell cells number d known inside found)
    (low_whole system cells flags number (slice_index_or cells number d) truth far low (truth_is cells number d truth inside few size) (part_answer system cells flags number d truth far inside few size farthest) num den whole)

-- ---- the upper end

high_whole : (system : System) (cells : List Cell) (flags : List Bool) (number : ℕ) (known : Cell) (truth : ℕ) (far high : Ratio) → known.truth ≡ pos truth → high.num ≡ truth * far.den + far.num → high.den ≡ far.den
    → IsWholeFar system cells flags number Above far → IsWholeValue system cells flags number known high
high_whole system cells flags number known truth far high truth_same num_is den_is whole =
    let times : truth * far.den ≡ truth * 1 = ap (λ d. truth * d) whole.0 in
    (den_is ∙ whole.0, (whole.1.0, whole.1.1, omega (arith, ints, truth_same, times, num_is, whole.1.2)))

pub high_whole_answer : (system : System) (cells : List Cell) (flags : List Bool) (number : ℕ) (d : Cell) (truth : ℕ) (far high : Ratio) → number < length cells → All (λ (cell : Cell). cell.truth ≤ℤ pos (10 ^ 29)) cells → truth ≡ unsigned_abs (to_z w128 (of_z w128 (slice_index_or cells number d).truth))
    → high.num ≡ truth * far.den + far.num → high.den ≡ far.den → IsWholeFar system cells flags number Above far → (known : Cell) → slice_get cells number ≡ Some known → IsWholeUpperEnd system cells flags number known (At high)
high_whole_answer system cells flags number d truth far high inside few size num den whole known found =
    subst (λ k. IsWholeValue system cells flags number k high) (same_cell cells number d known inside found)
    (high_whole system cells flags number (slice_index_or cells number d) truth far high (truth_is cells number d truth inside few size) num den whole)

pub open_whole : (system : System) (cells : List Cell) (flags : List Bool) (number : ℕ) (known : Cell) → IsWholeDistance system cells flags number Above (pos (2 ^ 110)) → IsWholeUpperEnd system cells flags number known Open
open_whole system cells flags number known lies = (lies.0, lies.1, omega (arith, ints, lies.2))
