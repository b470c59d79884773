-- A point that attains the value of dual multipliers makes it the best value.
use Rattle.std.proofs.Common.{◌≡◌, ℤ, pos, ◌*ℤ◌, ◌≤ℤ◌, ◌<ℤ◌, arith, ap, sym, ◌∙◌, subst}
use Rattle.std.proofs.Math.IntN.{*ℤ_comm}
use Rattle.std.proofs.lemmas.Int.{ints, by_lt_z}
use Rattle.sdc_base.specs.Forms.{coefficient}
use Rattle.sdc_base.specs.Refutations.{bound_sum}
use Rattle.sdc_base.specs.Systems.{Numbers}
use Rattle.sdc_base.specs.Worlds.{IsWorld, amount_toward}
use Rattle.sdc_base.proofs.WholeNumbers.{times_up, times_more, swap_times}
use Rattle.interval_audit.specs.Points.{comes_to}
use Rattle.interval_audit.specs.Columns.{moves_of}
use Rattle.interval_audit.specs.Labels.{labels, relation_terms}
use Rattle.interval_audit.specs.Problems.{problem_of}
use Rattle.interval_audit.specs.QuestionLaws.{refuting_by, dual_value, AttainedIsBest}
use Rattle.interval_audit.proofs.Points.{points_are_worlds}
use Rattle.interval_audit.proofs.Shares.{duals_bound}
use Rattle.interval_audit.proofs.Furthest.{furthest}

-- a factor above 0 is cancelled
pub cancel_le : (k a b : ℤ) → pos 1 ≤ℤ k → (k *ℤ a) ≤ℤ (k *ℤ b) → a ≤ℤ b
cancel_le k a b positive h = by_lt_z b a (λ less. let more : (k *ℤ b) <ℤ (k *ℤ a) = times_more k b a positive less in absurd (omega (arith, ints, more, h))) (λ r. r)

pub cancel_same : (k a b : ℤ) → pos 1 ≤ℤ k → k *ℤ a ≡ k *ℤ b → a ≡ b
cancel_same k a b positive h =
    let one : a ≤ℤ b = cancel_le k a b positive (omega (arith, ints, h)) in
    let other : b ≤ℤ a = cancel_le k b a positive (omega (arith, ints, h)) in
    omega (arith, ints, one, other)

-- where a value over den is attained, sums that are at most it and at least it are it
squeezed : (q den best sum value : ℤ) → pos 1 ≤ℤ den → q *ℤ best ≡ den *ℤ value → sum ≤ℤ value → (q *ℤ best) ≤ℤ (den *ℤ sum) → sum ≡ value
squeezed q den best sum value positive attained most least =
    let back : value ≤ℤ sum = cancel_le den value sum positive (omega (arith, ints, attained, least)) in
    omega (arith, ints, most, back)

-- a move that the dual value bounds is no further than the best value over den
pub no_further : (q den best value other move : ℤ) → pos 1 ≤ℤ q → pos 1 ≤ℤ den → q *ℤ best ≡ den *ℤ value → (q *ℤ move) ≤ℤ (other *ℤ value) → (move *ℤ den) ≤ℤ (best *ℤ other)
no_further q den best value other move q_positive positive attained bounded =
    let up : (den *ℤ (q *ℤ move)) ≤ℤ (den *ℤ (other *ℤ value)) = times_up den (q *ℤ move) (other *ℤ value) (omega (arith, ints, positive)) bounded in
    let left : den *ℤ (q *ℤ move) ≡ q *ℤ (move *ℤ den) = swap_times den q move ∙ ap (λ z. q *ℤ z) (*ℤ_comm den move) in
    let right : den *ℤ (other *ℤ value) ≡ q *ℤ (best *ℤ other) =
    swap_times den other value ∙ ap (λ z. other *ℤ z) (sym attained) ∙ swap_times other q best ∙ ap (λ z. q *ℤ z) (*ℤ_comm other best) in
    cancel_le q (move *ℤ den) (best *ℤ other) q_positive (omega (arith, ints, up, left, right))

pub attained_is_best : AttainedIsBest
attained_is_best system cells flags group question den amounts q weights each is point duals attained =
    let best : ℤ = comes_to amounts (problem_of system cells group question).objective in
    let value : ℤ = dual_value system cells group weights in
    let sum : ℤ = bound_sum cells flags (coefficient (refuting_by system cells group question q weights)) in
    let made = points_are_worlds system cells flags group question den amounts each is point in
    let dual = duals_bound system cells flags group question q weights each is duals in
    let far : (other : ℤ) (moves : Numbers) → IsWorld system cells flags other moves → (q *ℤ amount_toward question.side (moves question.cell)) ≤ℤ (other *ℤ sum) =
    (λ other moves world. furthest system cells flags question.cell question.side q (relation_terms weights (labels system.relations cells group system.cells)) each is.asked_known dual.0 other moves world) in
    let least : (q *ℤ best) ≤ℤ (den *ℤ sum) = subst (λ z. (q *ℤ z) ≤ℤ (den *ℤ sum)) made.1 (far den (moves_of group amounts) made.0) in
    let same : sum ≡ value = squeezed q den best sum value point.positive attained dual.1 least in (
      record {
        attained_den = den;
        attained_moves = moves_of group amounts;
        attained_world = made.0;
        attained = ap (λ z. z *ℤ den) made.1;
        furthest = λ other moves world. no_further q den best value other (amount_toward question.side (moves question.cell)) duals.positive point.positive attained (subst (λ z. (q *ℤ amount_toward question.side (moves question.cell)) ≤ℤ (other *ℤ z)) same (far other moves world));
      },
      ap (λ z. z *ℤ den) same ∙ *ℤ_comm value den ∙ sym attained,
    )
