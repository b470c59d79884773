use Rattle.std.proofs.Common.{◌∙◌, ◌∷◌, [], ap, get_or, pos, rules, ℤ, ◌+ℤ◌, FitsSigned}
use Rattle.std.specs.Int.{w128}
use Rattle.std.proofs.lemmas.Int.{to_z-of_z}
use Rattle.sdc_base.specs.Forms.{Term, coefficient}
use Rattle.kept_questions.proofs.TermSums.{add_next}
use Rattle.kept_questions.proofs.terms.combined.Goals as goal

pub terms-preserved : goal.terms-preserved
terms-preserved c = λ place.
    let term : Term = get_or c.args.terms.now c.terms.term-index (0, pos 0) in
    let fits : FitsSigned w128 term.1 = search rules in
    c.in_ok-add_last.ensures place
    ∙ ap (λ (z : ℤ). coefficient c.terms.made.items place +ℤ coefficient ((term.0, z) ∷ []) place) (to_z-of_z w128 term.1 fits)
    ∙ add_next c.terms.made.items c.args.terms.now c.terms.term-index place (0, pos 0) c.terms-test.true (c.terms.invariant place)
