-- Whole ends of intervals, from whole answers of their questions.
use Rattle.std.proofs.Common.{◌≡◌, ℕ, Bool, List, ℤ, pos, ◌*ℤ◌, arith, ap, sym, ◌∙◌}
use Rattle.std.specs.Prelude.{Result, Ok, Err, IfOk}
use Rattle.std.proofs.lemmas.Int.{ints}
use Rattle.sdc_base.specs.declared.cell.Cell.{Cell}
use Rattle.sdc_base.specs.declared.side.Side.{Side}
use Rattle.sdc_base.specs.declared.system.System.{System}
use Rattle.sdc_base.specs.Signs.{AreSigns}
use Rattle.sdc_base.specs.Worlds.{amount_toward}
use Rattle.worlds.specs.declared.world.World.{World}
use Rattle.worlds.specs.NumberLists.{terms_of, number_given}
use Rattle.interval_audit.specs.declared.question.Question.{Question}
use Rattle.interval_audit.specs.declared.answer.Answer.{Answer}
use Rattle.interval_audit.specs.declared.answer.Answer.TheVariants.{Reaches, Stops}
use Rattle.interval_audit.specs.declared.answer.AskFault.{AskFault}
use Rattle.interval_audit.specs.Answers.{IsTrueAnswer, IsAnswerOf, IsIntegral, asked_move_in}
use Rattle.interval_audit.specs.Ends.{IsEndQuestion, IsWholeEnd}

-- how far the asked cell moves, by what is asked of
move_is : (cell : ℕ) (side : Side) (question : Question) (world : World) → IsEndQuestion cell side question → amount_toward side (number_given (terms_of world.moves) cell) ≡ asked_move_in question world
move_is cell side question world asks =
    sym (ap (λ one. amount_toward question.side (number_given (terms_of world.moves) one)) asks.cell_is ∙ ap (λ one. amount_toward one (number_given (terms_of world.moves) cell)) asks.side_is)

once : (z : ℤ) → pos 1 *ℤ z ≡ z
once z = omega (arith, ints)

whole_end : (system : System) (cells : List Cell) (flags : List Bool) (cell : ℕ) (side : Side) (question : Question) (answer : Answer) → IsEndQuestion cell side question → IsTrueAnswer system cells flags question answer → IsIntegral answer → IsWholeEnd system cells flags cell side answer
whole_end system cells flags cell side question (Reaches world) asks right whole = record {
  is_world = right.is_world;
  whole = whole;
  exactly = move_is cell side question world asks ∙ right.exactly ∙ ap (λ z. z *ℤ question.target) whole ∙ once question.target ∙ asks.target_is;
}
whole_end system cells flags cell side question (Stops best world multipliers) asks right whole = (
  right.den ∙ whole.0,
  record {
    is_world = right.is_world;
    whole = whole.0;
    exactly = move_is cell side question world asks ∙ sym right.num;
  },
)

pub if_whole_end : (system : System) (cells : List Cell) (flags : List Bool) (cell : ℕ) (side : Side) (question : Question) (r : Result Answer AskFault) → IsEndQuestion cell side question → IfOk r (λ answer. IsTrueAnswer system cells flags question answer) → IfOk r (λ answer. IsAnswerOf system cells flags question answer)
    → (signs : List Bool) → AreSigns system.relations signs → IfOk r (λ answer. IsWholeEnd system cells flags cell side answer)
if_whole_end system cells flags cell side question (Ok answer) asks right read signs are = whole_end system cells flags cell side question answer asks right (read.3.whole signs are)
if_whole_end system cells flags cell side question (Err fault) asks right read signs are = tt
