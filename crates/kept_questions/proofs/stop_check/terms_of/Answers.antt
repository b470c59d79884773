use Rattle.std.proofs.Common.{◌≡◌, ◌∙◌, ◌++◌, ◌∷◌, ◌^◌, ◌<◌, [], ℕ, List, length, get_or, All, ap, sym, subst, rules, arith, ℤ, pos, neg_ℤ, ◌<ℤ◌, FitsSigned, if◌then◌else◌}
use Rattle.std.specs.Int.{w128}
use Rattle.std.specs.Ordering.{int_eq}
use Rattle.std.proofs.lemmas.Int.{ints, to_z-of_z}
use Rattle.sdc_base.specs.Forms.{Term}
use Rattle.sdc_base.specs.Systems.{number_at}
use Rattle.kept_questions.proofs.WeightTerms.{listed_next, held_more}
use Rattle.kept_questions.proofs.stop_check.terms_of.Goals as goal

pub met-preserved : goal.met-preserved
met-preserved c =
    let place : ℕ = c.met.number-index in
    let one : ℕ = get_or c.args.met.now place 0 in
    let weight : ℤ = c.number_at-weight.result in
    let weight_is : weight ≡ number_at c.args.weights.now one = c.number_at-weight.ensures in
    let inside : place < length c.args.met.now = c.met-test.true in
    let fits : FitsSigned w128 weight = search rules in
    let test = simp to_z-of_z at c.if-weight-leminus170141183460469231731687303715884105728.false in
    let above : neg_ℤ (pos (2 ^ 127)) <ℤ weight = omega (arith, ints, test) in
    let pushed = simp to_z-of_z at c.in_ok-push_weight.ensures in
    record {
      terms = pushed ∙ ap (λ (done : List Term). done ++ (if int_eq weight (pos 0) then [] else (one, weight) ∷ [])) c.met.invariant.terms
          ∙ sym (listed_next (number_at c.args.weights.now) c.args.met.now place 0 weight inside weight_is);
      held = subst (λ ts. All (λ (t : Term). neg_ℤ (pos (2 ^ 127)) <ℤ t.1) ts) (sym pushed) (held_more c.met.terms.items one weight c.met.invariant.held above);
    }
