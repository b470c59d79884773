use Rattle.std.proofs.Common.{◌≡◌, ◌∙◌, sym, ap, pos, FitsSigned, to_z, of_z, rules}
use Rattle.std.specs.Int.{w128}
use Rattle.std.proofs.lemmas.Int.{to_z-of_z}
use Rattle.kept_questions.proofs.TermSums.{all_zeros}
use Rattle.kept_questions.proofs.terms.check_zeros.Goals as goal

pub returns : goal.returns
returns c = λ place.
    let fits : FitsSigned w128 c.first_of-first.result = search rules in
    let none : to_z w128 (of_z w128 c.first_of-first.result) ≡ pos 0 = ap (to_z w128) c.if-first-ne0.false in
    all_zeros c.args.terms.now place (sym c.first_of-first.ensures ∙ sym (to_z-of_z w128 c.first_of-first.result fits) ∙ none)
