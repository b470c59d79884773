-- What flows answer is right.
use Rattle.std.proofs.Common.{◌≡◌, ℕ, ◌<◌, Bool, List, length, ℤ, pos, ◌*ℤ◌, ◌<ℤ◌, ◌≤ℤ◌, FitsSigned, arith, ap, sym, subst, ◌∙◌}
use Rattle.std.specs.Int.{w128}
use Rattle.std.proofs.Math.IntN.{*ℤ_comm}
use Rattle.std.proofs.lemmas.Int.{ints}
use Rattle.sdc_base.specs.declared.cell.Cell.{Cell}
use Rattle.sdc_base.specs.declared.side.Side.{Side}
use Rattle.sdc_base.specs.declared.system.System.{System}
use Rattle.sdc_base.specs.Forms.{coefficient}
use Rattle.sdc_base.specs.Patterns.{IsPattern}
use Rattle.sdc_base.specs.Refutations.{bound_sum, refuting_terms}
use Rattle.sdc_base.specs.Systems.{Numbers}
use Rattle.sdc_base.specs.Worlds.{IsWorld, amount_toward}
use Rattle.worlds.specs.NumberLists.{terms_of, number_given}
use Rattle.worlds.specs.declared.multipliers.Multipliers.{Multipliers}
use Rattle.worlds.specs.declared.world.World.{World}
use Rattle.flow_worlds.specs.declared.answer.FlowAnswer.{FlowAnswer}
use Rattle.flow_worlds.specs.declared.answer.FlowAnswer.TheVariants as flow
use Rattle.flow_worlds.specs.FlowAnswers.{AreWholeMultipliersAt, IsFlowAnswer, IsWholeWorldAt}
use Rattle.interval_audit.specs.declared.question.Question.{Question}
use Rattle.interval_audit.specs.Answers.{IsTrueAnswer, StopsShort}
use Rattle.interval_audit.specs.FlowQuestions.{answer_of_flow}
use Rattle.interval_audit.proofs.Furthest.{furthest}

once : (z : ℤ) → pos 1 *ℤ z ≡ z
once z = omega (arith, ints)

times_once : (z : ℤ) → z *ℤ pos 1 ≡ z
times_once z = *ℤ_comm z (pos 1) ∙ once z

-- no world moves the asked cell further than the bound sum of multipliers over the denominator 1
no_further : (system : System) (cells : List Cell) (flags : List Bool) (asked : ℕ) (side : Side) (best : ℤ) (multipliers : Multipliers) → length cells ≡ system.cells → asked < system.cells → AreWholeMultipliersAt system cells flags asked side best multipliers → (other : ℤ) (moves : Numbers) → IsWorld system cells flags other moves → (amount_toward side (moves asked) *ℤ pos 1) ≤ℤ (best *ℤ other)
no_further system cells flags asked side best multipliers each inside are other moves world =
    let most = furthest system cells flags asked side multipliers.den multipliers.by_relation each inside are.is_sum.bounded other moves world in
    let left : multipliers.den *ℤ amount_toward side (moves asked) ≡ amount_toward side (moves asked) *ℤ pos 1 = ap (λ z. z *ℤ amount_toward side (moves asked)) are.whole ∙ *ℤ_comm (pos 1) (amount_toward side (moves asked)) in
    let right : other *ℤ bound_sum cells flags (coefficient (refuting_terms system.relations asked side multipliers.den multipliers.by_relation)) ≡ best *ℤ other = ap (λ z. other *ℤ z) are.equal ∙ *ℤ_comm other best in
    omega (arith, ints, most, left, right)

stops_short : (system : System) (cells : List Cell) (flags : List Bool) (question : Question) (best : ℤ) (world : World) (multipliers : Multipliers) → IsPattern system cells flags → question.cell < system.cells → best <ℤ question.target → IsWholeWorldAt system cells flags question.cell question.side best world → AreWholeMultipliersAt system cells flags question.cell question.side best multipliers → StopsShort system cells flags question (record { num = best; den = pos 1 }) world multipliers
stops_short system cells flags question best world multipliers ground inside short lies are =
    let target : multipliers.den *ℤ question.target ≡ question.target = ap (λ z. z *ℤ question.target) are.whole ∙ once question.target in
    let from = question.target_from_zero in
    let to = question.target_held in
    record {
      is_world = lies.is_world;
      den = sym lies.whole;
      num = sym lies.exactly;
      below = omega (arith, ints, short, once question.target);
      is_best = record {
        attained_den = world.den;
        attained_moves = number_given (terms_of world.moves);
        attained_world = lies.is_world.is_world;
        attained = ap (λ z. z *ℤ pos 1) lies.exactly ∙ ap (λ z. best *ℤ z) (sym lies.whole);
        furthest = no_further system cells flags question.cell question.side best multipliers ground.each_cell inside are;
      };
      is_sum = are.is_sum;
      equal = ap (λ z. z *ℤ pos 1) are.equal ∙ *ℤ_comm best (pos 1) ∙ ap (λ z. z *ℤ best) (sym are.whole);
      product_held = subst (λ z. FitsSigned w128 z) (sym target) (omega (arith, ints, from, to));
      refutes = record {
        q_positive = are.is_sum.positive;
        bounded = are.is_sum.bounded;
        below = omega (arith, ints, are.equal, target, short);
      };
    }

pub flow_is_true : (system : System) (cells : List Cell) (flags : List Bool) (question : Question) (answer : FlowAnswer) → IsPattern system cells flags → question.cell < system.cells → IsFlowAnswer system cells flags question.cell question.side question.target answer → IsTrueAnswer system cells flags question (answer_of_flow answer)
flow_is_true system cells flags question (flow.Reaches world) ground inside is = record {
  is_world = is.is_world;
  exactly = is.exactly ∙ sym (ap (λ z. z *ℤ question.target) is.whole ∙ once question.target);
}
flow_is_true system cells flags question (flow.Stops best world multipliers) ground inside is = stops_short system cells flags question best world multipliers ground inside is.0 is.1 is.2
