use Rattle.std.proofs.Common.{◌≡◌, ◌∙◌, ◌^◌, List, ap, sym, rules, arith, ℤ, pos, neg_ℤ, ◌-ℤ◌, ◌<ℤ◌, FitsSigned, to_z, of_z}
use Rattle.std.specs.Int.{w128}
use Rattle.std.proofs.lemmas.Int.{ints, to_z-of_z}
use Rattle.sdc_base.specs.declared.side.Side.{Side}
use Rattle.sdc_base.specs.Worlds.{amount_toward}
use Rattle.worlds.specs.declared.world.Move.{Move}
use Rattle.worlds.specs.NumberLists.{terms_of, number_given}
use Rattle.interval_audit.specs.Answers.{asked_move_in}
use Rattle.interval_audit.proofs.QuestionAnswers.{given_held}
use Rattle.interval_audit.proofs.finish.asked_in.Goals as goal

pub overflow_sub-result : goal.overflow_sub-result
overflow_sub-result c =
    let moved : ℤ = number_given (terms_of c.args.world.now.moves) c.args.question.cell in
    let value : c.move_of-by.result ≡ moved = c.move_of-by.ensures ∙ ap (λ (ms : List Move). number_given (terms_of ms) c.args.question.cell) c.as_slice.ensures in
    let above : neg_ℤ (pos (2 ^ 127)) <ℤ moved = given_held (terms_of c.args.world.now.moves) c.args.question.cell (pos (2 ^ 127)) (omega (arith, ints)) c.requires in
    let fits : FitsSigned w128 c.move_of-by.result = search rules in
    let turned : FitsSigned w128 (pos 0 -ℤ c.move_of-by.result) = omega (arith, ints, value, above, fits) in
    simp to_z-of_z turned

pub returns-in-Below : goal.returns-in-Below
returns-in-Below c =
    let moved : ℤ = number_given (terms_of c.args.world.now.moves) c.args.question.cell in
    let value : c.move_of-by.result ≡ moved = c.move_of-by.ensures ∙ ap (λ (ms : List Move). number_given (terms_of ms) c.args.question.cell) c.as_slice.ensures in
    let above : neg_ℤ (pos (2 ^ 127)) <ℤ moved = given_held (terms_of c.args.world.now.moves) c.args.question.cell (pos (2 ^ 127)) (omega (arith, ints)) c.requires in
    let fits : FitsSigned w128 c.move_of-by.result = search rules in
    let turned : FitsSigned w128 (pos 0 -ℤ c.move_of-by.result) = omega (arith, ints, value, above, fits) in
    let is : to_z w128 (of_z w128 (pos 0 -ℤ to_z w128 (of_z w128 c.move_of-by.result))) ≡ pos 0 -ℤ c.move_of-by.result = simp to_z-of_z in
    let down : neg_ℤ moved ≡ asked_move_in c.args.question c.args.world.now = ap (λ (s : Side). amount_toward s moved) (sym c.in-Below.is) in
    is ∙ omega (arith, ints, value) ∙ down
