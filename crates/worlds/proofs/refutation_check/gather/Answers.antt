use Rattle.std.proofs.Common.{◌≡◌, ◌∙◌, ◌∷◌, List, ap, sym, length, replicate, pos, ℤ, FitsSigned, to_z, of_z, rules}
use Rattle.std.specs.Int.{w128}
use Rattle.std.proofs.lemmas.Int.{to_z-of_z}
use Rattle.std.proofs.lemmas.Result.{err_from_is_err_and}
use Rattle.sdc_base.specs.Forms.{Term, weighted_forms}
use Rattle.sdc_base.specs.Worlds.{amount_toward}
use Rattle.worlds.specs.BoundedNumbers.{numbers_with_terms}
use Rattle.worlds.proofs.TrueTests.{ok_more, err_more}
use Rattle.worlds.proofs.RefutationLaws.{none_are_zeros, gathered_both, gathered_stops}
use Rattle.worlds.proofs.refutation_check.gather.Goals as goal

pub returns-clause-ok : goal.returns-clause-ok
returns-clause-ok c =
    let zeros : List ℤ = replicate (length c.args.numbers.now) (pos 0) in
    let later : List Term = weighted_forms c.args.relations.now c.args.multipliers.now in
    let none : c.clear.new.numbers ≡ zeros = none_are_zeros (length c.args.numbers.now) c.clear.new.numbers c.clear.ensures.length c.clear.ensures.none in
    let fits : FitsSigned w128 c.toward_side.result = search rules in
    let den : FitsSigned w128 c.args.den = c.ranges.den in
    let told = simp to_z-of_z at c.toward_side.ensures in
    let is : to_z w128 (of_z w128 c.toward_side.result) ≡ amount_toward c.args.side c.args.den = to_z-of_z w128 c.toward_side.result fits ∙ told in
    let one : numbers_with_terms zeros ((c.args.asked, amount_toward c.args.side c.args.den) ∷ later) ≡ numbers_with_terms c.add_at.new.numbers later =
    ap (λ n. numbers_with_terms n ((c.args.asked, amount_toward c.args.side c.args.den) ∷ later)) (sym none) ∙ ap (λ b. numbers_with_terms c.clear.new.numbers ((c.args.asked, b) ∷ later)) (sym is) ∙ c.in_ok-add_at.ensures.ok later in
    ok_more c.add_forms.result (λ both. gathered_both zeros c.add_at.new.numbers c.add_forms.new.numbers c.args.relations.now c.args.asked c.args.side c.args.den c.args.multipliers.now one both) c.add_forms.ensures.ok

pub returns-clause-err : goal.returns-clause-err
returns-clause-err c =
    let zeros : List ℤ = replicate (length c.args.numbers.now) (pos 0) in
    let later : List Term = weighted_forms c.args.relations.now c.args.multipliers.now in
    let none : c.clear.new.numbers ≡ zeros = none_are_zeros (length c.args.numbers.now) c.clear.new.numbers c.clear.ensures.length c.clear.ensures.none in
    let fits : FitsSigned w128 c.toward_side.result = search rules in
    let den : FitsSigned w128 c.args.den = c.ranges.den in
    let told = simp to_z-of_z at c.toward_side.ensures in
    let is : to_z w128 (of_z w128 c.toward_side.result) ≡ amount_toward c.args.side c.args.den = to_z-of_z w128 c.toward_side.result fits ∙ told in
    let one : numbers_with_terms zeros ((c.args.asked, amount_toward c.args.side c.args.den) ∷ later) ≡ numbers_with_terms c.add_at.new.numbers later =
    ap (λ n. numbers_with_terms n ((c.args.asked, amount_toward c.args.side c.args.den) ∷ later)) (sym none) ∙ ap (λ b. numbers_with_terms c.clear.new.numbers ((c.args.asked, b) ∷ later)) (sym is) ∙ c.in_ok-add_at.ensures.ok later in
    err_more c.add_forms.result (λ fault both. gathered_stops zeros c.add_at.new.numbers c.args.relations.now c.args.asked c.args.side c.args.den c.args.multipliers.now fault one both) c.add_forms.ensures.err

pub returns-in_err-add_at-clause-err : goal.returns-in_err-add_at-clause-err
returns-in_err-add_at-clause-err c =
    let zeros : List ℤ = replicate (length c.args.numbers.now) (pos 0) in
    let later : List Term = weighted_forms c.args.relations.now c.args.multipliers.now in
    let none : c.clear.new.numbers ≡ zeros = none_are_zeros (length c.args.numbers.now) c.clear.new.numbers c.clear.ensures.length c.clear.ensures.none in
    let fits : FitsSigned w128 c.toward_side.result = search rules in
    let den : FitsSigned w128 c.args.den = c.ranges.den in
    let told = simp to_z-of_z at c.toward_side.ensures in
    let is : to_z w128 (of_z w128 c.toward_side.result) ≡ amount_toward c.args.side c.args.den = to_z-of_z w128 c.toward_side.result fits ∙ told in
    let p = err_from_is_err_and c.from_residual.result c.from_residual.ensures.1 in
    rw (p.1, p.2) (ap (λ n. numbers_with_terms n ((c.args.asked, amount_toward c.args.side c.args.den) ∷ later)) (sym none) ∙ ap (λ b. numbers_with_terms c.clear.new.numbers ((c.args.asked, b) ∷ later)) (sym is) ∙ c.in_err-add_at.ensures.err later)
