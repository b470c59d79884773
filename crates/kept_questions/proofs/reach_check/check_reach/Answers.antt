use Rattle.std.proofs.Common.{◌≡◌, ◌∙◌, ap, sym, List, ℤ, ◌*ℤ◌, FitsSigned, to_z, rules}
use Rattle.std.specs.Int.{w128}
use Rattle.std.proofs.lemmas.Int.{to_z-of_z}
use Rattle.sdc_base.specs.Worlds.{amount_toward}
use Rattle.worlds.specs.NumberLists.{terms_of, number_given}
use Rattle.worlds.specs.declared.world.Move.{Move}
use Rattle.kept_questions.proofs.reach_check.check_reach.Goals as goal

pub returns-in-Ok : goal.returns-in-Ok
returns-in-Ok c =
    let world = c.args.world.now in
    let question = c.args.question in
    let den_fits : FitsSigned w128 world.den = search rules in
    let target_fits : FitsSigned w128 question.target = search rules in
    let turned_fits : FitsSigned w128 c.in_ok-turned.turned = search rules in
    let far_fits : FitsSigned w128 c.in_ok-far.far = search rules in
    let own_fits : FitsSigned w128 c.move_of-own.result = search rules in
    let given : ℤ = number_given (terms_of world.moves) question.cell in
    let own_is : c.move_of-own.result ≡ given = c.move_of-own.ensures ∙ ap (λ (ms : List Move). number_given (terms_of ms) question.cell) c.as_slice.ensures in
    let turned_is : c.in_ok-turned.turned ≡ amount_toward question.side c.move_of-own.result = simp to_z-of_z at c.in_ok-turned.ensures in
    let far_is : c.in_ok-far.far ≡ world.den *ℤ question.target = simp to_z-of_z at c.in_ok-far.ensures in
    let same : c.in_ok-turned.turned ≡ c.in_ok-far.far = sym (to_z-of_z w128 c.in_ok-turned.turned turned_fits) ∙ ap (to_z w128) c.if-turned-far.false ∙ to_z-of_z w128 c.in_ok-far.far far_fits in
    record {
      is_world = search rules;
      exactly = sym (ap (amount_toward question.side) own_is) ∙ sym turned_is ∙ same ∙ far_is;
    }
