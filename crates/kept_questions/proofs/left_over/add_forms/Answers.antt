use Rattle.std.proofs.Common.{◌∙◌, ap, get_or, ℕ, ℤ, pos, ◌+ℤ◌, ◌*ℤ◌, FitsSigned, arith, rules}
use Rattle.std.specs.Int.{w128}
use Rattle.std.proofs.lemmas.Int.{ints, to_z-of_z}
use Rattle.sdc_base.specs.Forms.{coefficient}
use Rattle.sdc_base.specs.Systems.{number_at}
use Rattle.interval_audit.specs.Labels.{form_at}
use Rattle.kept_questions.proofs.FormSums.{sum_next}
use Rattle.kept_questions.proofs.left_over.add_forms.Goals as goal

pub met-preserved : goal.met-preserved
met-preserved c = λ cell.
    let number : ℕ = get_or c.args.met.now c.met.number-index 0 in
    let fits : FitsSigned w128 c.number_at-weight.result = search rules in
    let f : ℕ → ℤ = λ k. number_at c.args.weights.now k *ℤ coefficient (form_at c.args.relations.now (pos 1) k) cell in
    let own = c.in_ok-add_weighted.ensures cell ∙ ap (λ (z : ℤ). number_at c.met.numbers.items cell +ℤ z *ℤ coefficient (form_at c.args.relations.now (pos 1) number) cell) (to_z-of_z w128 c.number_at-weight.result fits ∙ c.number_at-weight.ensures) in
    omega (arith, ints, own, c.met.invariant cell, sum_next f c.args.met.now c.met.number-index 0 c.met-test.true)
