-- How far worlds take a cell, from the answer of its question.
use Rattle.std.proofs.Common.{◌≡◌, ℕ, ◌*◌, ◌<◌, ◌≤◌, ◌^◌, Bool, List, [], ◌∷◌, ℤ, pos, negsuc, ◌*ℤ◌, ◌≤ℤ◌, ◌<ℤ◌, FitsSigned, slice_index_or, unsigned_abs, arith, refl, ap, sym, subst, ◌∙◌}
use Prim.Native.Nat.{◌∣◌}
use Rattle.std.specs.Int.{w128}
use Rattle.std.proofs.Math.IntN.{*ℤ_comm}
use Rattle.std.proofs.Math.Nat.{dvd-mul_left, mul_assoc}
use Rattle.std.proofs.lemmas.Int.{ints, unsigned_abs-mul}
use Rattle.std.proofs.lemmas.Nat.Gcd.{le_of_dvd}
use Rattle.sdc_base.specs.declared.cell.Cell.{Cell}
use Rattle.sdc_base.specs.declared.relation.Relation.{Relation}
use Rattle.sdc_base.specs.declared.side.Side.{Side}
use Rattle.sdc_base.specs.declared.side.Side.TheVariants.{Above, Below}
use Rattle.sdc_base.specs.declared.system.System.{System}
use Rattle.sdc_base.specs.Forms.{coefficient}
use Rattle.sdc_base.specs.Refutations.{bound_sum}
use Rattle.sdc_base.specs.Systems.{form, Numbers}
use Rattle.sdc_base.specs.Totals.{sum_of}
use Rattle.sdc_base.specs.Worlds.{IsWorld, amount_toward}
use Rattle.sdc_base.proofs.WholeNumbers.{assoc, below_from_times, swap_times}
use Rattle.sdc_base.proofs.TotalLemmas.{sum_of-cons}
use Rattle.worlds.specs.declared.multipliers.Multipliers.{Multipliers}
use Rattle.worlds.specs.declared.world.World.{World}
use Rattle.worlds.specs.NumberLists.{terms_of, number_given}
use Rattle.worlds.specs.RefutationFaults.{terms_added}
use Rattle.sdc_base.specs.declared.fraction.Fraction.{Fraction}
use Rattle.interval_audit.specs.declared.question.Question.{Question}
use Rattle.interval_audit.specs.Answers.{ReachesTarget, StopsShort}
use Rattle.interval_audit.specs.Ends.{IsEndQuestion}
use Rattle.interval_audit.specs.QuestionLaws.{IsBest}
use Rattle.cell_intervals.specs.declared.ratio.Ratio.{Ratio}
use Rattle.cell_intervals.specs.Farthest.{IsFarthest, IsOpenTo}
use Rattle.cell_intervals.specs.Lowering.{IsLoweredTo}
use Rattle.interval_audit.proofs.Best.{cancel_le, cancel_same}

-- ---- whole numbers

pub size_is : (z : ℤ) → pos 0 ≤ℤ z → z ≡ pos (unsigned_abs z)
size_is (pos n) from = refl
size_is (negsuc n) from = absurd (omega (arith, ints, from))

-- ---- the truths are a world

sum_none : (parts : List ℕ) → sum_of (λ _. pos 0) parts ≡ pos 0
sum_none [] = refl
sum_none (part ∷ parts) = omega (arith, ints, sum_of-cons (λ _. pos 0) part parts, sum_none parts)

form_none : (r : Relation) → form (λ _. pos 0) r ≡ pos 0
form_none r = omega (arith, ints, sum_none r.parts)

pub truths_are_world : (system : System) (cells : List Cell) (flags : List Bool) → IsWorld system cells flags (pos 1) (λ _. pos 0)
truths_are_world system cells flags = record {
  positive = omega (arith, ints);
  shown_stay = λ cell inside shown. refl;
  relations_hold = λ k d inside. form_none (slice_index_or system.relations k d);
  bounds_hold = λ number cell found. record {
    from_low = omega (arith, ints, cell.low_within);
    to_high = λ high is. omega (arith, ints, cell.high_beyond high is);
  };
}

pub best_from_zero : (system : System) (cells : List Cell) (flags : List Bool) (number : ℕ) (side : Side) (num den : ℤ) → IsBest system cells flags number side num den → pos 0 ≤ℤ num
best_from_zero system cells flags number side num den best =
    let far = best.furthest (pos 1) (λ _. pos 0) (truths_are_world system cells flags) in
    omega (arith, ints, far, still side, *ℤ_comm num (pos 1))
  where
    still : (side : Side) → amount_toward side (pos 0) *ℤ den ≡ pos 0
    still Above = omega (arith, ints)
    still Below = omega (arith, ints)

-- ---- a best value in lower terms

pub best_lowered : (system : System) (cells : List Cell) (flags : List Bool) (number : ℕ) (side : Side) (num den by n d : ℕ) → 1 ≤ by → num ≡ by * n → den ≡ by * d
    → IsBest system cells flags number side (pos num) (pos den) → IsBest system cells flags number side (pos n) (pos d)
best_lowered system cells flags number side num den by n d up num_is den_is best =
    let up_z : pos 1 ≤ℤ pos by = omega (arith, ints, up) in
    let left : (x : ℤ) → x *ℤ pos den ≡ pos by *ℤ (x *ℤ pos d) = (λ x. ap (λ m. x *ℤ pos m) den_is ∙ swap_times x (pos by) (pos d)) in
    let right : (w : ℤ) → pos num *ℤ w ≡ pos by *ℤ (pos n *ℤ w) = (λ w. ap (λ m. pos m *ℤ w) num_is ∙ assoc (pos by) (pos n) w) in
    record {
      attained_den = best.attained_den;
      attained_moves = best.attained_moves;
      attained_world = best.attained_world;
      attained = cancel_same (pos by) (amount_toward side (best.attained_moves number) *ℤ pos d) (pos n *ℤ best.attained_den) up_z
          (sym (left (amount_toward side (best.attained_moves number))) ∙ best.attained ∙ right best.attained_den);
      furthest = λ other moves world.
          let far = best.furthest other moves world in
          cancel_le (pos by) (amount_toward side (moves number) *ℤ pos d) (pos n *ℤ other) up_z (omega (arith, ints, far, left (amount_toward side (moves number)), right other));
    }

-- ---- widths of multipliers

-- what divides a multiplier times a number whose product with 2^110 has 128 bits is narrow
narrow_size : (q : ℤ) → pos 1 ≤ℤ q → FitsSigned w128 (q *ℤ pos (2 ^ 110)) → (0 < unsigned_abs q) × (unsigned_abs q < 2 ^ 17)
narrow_size (pos k) up fits = (omega (arith, ints, up), omega (arith, ints, fits))
narrow_size (negsuc k) up fits = absurd (omega (arith, ints, up))

narrow_divisor : (q sum num den : ℤ) (d : ℕ) → pos 1 ≤ℤ q → FitsSigned w128 (q *ℤ pos (2 ^ 110)) → sum *ℤ den ≡ q *ℤ num → ((times : ℕ) → unsigned_abs den ∣ times * unsigned_abs num → d ∣ times) → d < 2 ^ 17
narrow_divisor q sum num den d up fits equal least =
    let size : (0 < unsigned_abs q) × (unsigned_abs q < 2 ^ 17) = narrow_size q up fits in
    let product : unsigned_abs sum * unsigned_abs den ≡ unsigned_abs q * unsigned_abs num = sym (unsigned_abs-mul sum den) ∙ ap unsigned_abs equal ∙ unsigned_abs-mul q num in
    let divides : unsigned_abs den ∣ unsigned_abs q * unsigned_abs num = subst (λ n. unsigned_abs den ∣ n) product (dvd-mul_left (unsigned_abs den) (unsigned_abs sum)) in
    let most : d ≤ unsigned_abs q = le_of_dvd size.0 (least (unsigned_abs q) divides) in
    omega (arith, most, size.1)

short_lowered : (num den by n d : ℕ) → 1 ≤ by → num ≡ by * n → den ≡ by * d → pos num <ℤ (pos den *ℤ pos (2 ^ 110)) → n < d * 2 ^ 110
short_lowered num den by n d up num_is den_is below =
    let whole : den * 2 ^ 110 ≡ by * (d * 2 ^ 110) = ap (λ m. m * 2 ^ 110) den_is ∙ mul_assoc by d (2 ^ 110) in
    let less : (pos by *ℤ pos n) <ℤ (pos by *ℤ pos (d * 2 ^ 110)) = omega (arith, ints, below, num_is, whole) in
    let left = below_from_times (pos by) (pos n) (pos (d * 2 ^ 110)) (omega (arith, ints, up)) less in
    omega (arith, ints, left)

-- ---- the two answers

-- a question that stops short
pub stops_far : (system : System) (cells : List Cell) (flags : List Bool) (number : ℕ) (side : Side) (question : Question) (best : Fraction) (world : World) (multipliers : Multipliers) (num den : ℕ) (far : Ratio) → IsEndQuestion number side question
    → StopsShort system cells flags question best world multipliers → num ≡ unsigned_abs best.num → den ≡ unsigned_abs best.den → IsLoweredTo num den far.num far.den → ((times : ℕ) → den ∣ times * num → far.den ∣ times)
    → IsFarthest system cells flags number side far
stops_far system cells flags number side question best world multipliers num den far asks stops num_size den_size lowered least =
    let own : IsBest system cells flags number side best.num best.den = subst (λ s. IsBest system cells flags number s best.num best.den) asks.side_is (subst (λ c. IsBest system cells flags c question.side best.num best.den) asks.cell_is stops.is_best) in
    let den_up : pos 1 ≤ℤ best.den = subst (λ z. pos 1 ≤ℤ z) (sym stops.den) stops.is_world.is_world.positive in
    let num_is : best.num ≡ pos num = size_is best.num (best_from_zero system cells flags number side best.num best.den own) ∙ ap pos (sym num_size) in
    let den_is : best.den ≡ pos den = size_is best.den (omega (arith, ints, den_up)) ∙ ap pos (sym den_size) in
    let whole : IsBest system cells flags number side (pos num) (pos den) = subst (λ z. IsBest system cells flags number side (pos num) z) den_is (subst (λ z. IsBest system cells flags number side z best.den) num_is own) in
    let target : best.num <ℤ (best.den *ℤ pos (2 ^ 110)) = subst (λ z. best.num <ℤ (best.den *ℤ z)) asks.target_is stops.below in
    let below : pos num <ℤ (pos den *ℤ pos (2 ^ 110)) = subst (λ z. pos num <ℤ (z *ℤ pos (2 ^ 110))) den_is (subst (λ z. z <ℤ (best.den *ℤ pos (2 ^ 110))) num_is target) in
    let sum : ℤ = bound_sum cells flags (coefficient (terms_added system question.cell question.side multipliers)) in
    let equal : sum *ℤ pos den ≡ multipliers.den *ℤ pos num = ap (λ z. sum *ℤ z) (sym den_is) ∙ stops.equal ∙ ap (λ z. multipliers.den *ℤ z) num_is in
    record {
      is_best = best_lowered system cells flags number side num den lowered.0 far.num far.den lowered.1 lowered.2 lowered.3 whole;
      short = short_lowered num den lowered.0 far.num far.den lowered.1 lowered.2 lowered.3 below;
      narrow = narrow_divisor multipliers.den sum (pos num) (pos den) far.den stops.refutes.q_positive (subst (λ z. FitsSigned w128 (multipliers.den *ℤ z)) asks.target_is stops.product_held) equal least;
    }

-- a question that reaches its target
pub reaches_far : (system : System) (cells : List Cell) (flags : List Bool) (number : ℕ) (side : Side) (question : Question) (world : World) → IsEndQuestion number side question → ReachesTarget system cells flags question world → IsOpenTo system cells flags number side
reaches_far system cells flags number side question world asks reaches =
    let moves : Numbers = number_given (terms_of world.moves) in
    let own : amount_toward side (moves number) ≡ world.den *ℤ question.target = subst (λ s. amount_toward s (moves number) ≡ world.den *ℤ question.target) asks.side_is (subst (λ c. amount_toward question.side (moves c) ≡ world.den *ℤ question.target) asks.cell_is reaches.exactly) in
    (world.den, moves, reaches.is_world.is_world, own ∙ ap (λ z. world.den *ℤ z) asks.target_is)
