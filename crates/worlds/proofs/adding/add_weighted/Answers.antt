use Rattle.std.proofs.Common.{◌≡◌, ◌∙◌, length, ap, sym, refl, slice_get, Some, ℤ, FitsSigned, to_z, of_z, rules}
use Rattle.std.specs.Int.{w128}
use Rattle.std.proofs.lemmas.Int.{to_z-of_z}
use Rattle.std.proofs.lemmas.Option.{slice_get_read}
use Rattle.worlds.specs.BoundedNumbers.{numbers_with_terms}
use Rattle.worlds.proofs.TrueTests.{ok_more, err_more}
use Rattle.worlds.proofs.OneMore.{one_form_of}
use Rattle.worlds.proofs.adding.add_weighted.Goals as goal

pub returns-clause-ok : goal.returns-clause-ok
returns-clause-ok c =
    let fits : FitsSigned w128 c.args.multiplier.1 = search rules in
    let times : ℤ = to_z w128 (of_z w128 c.args.multiplier.1) in
    let is : times ≡ c.args.multiplier.1 = to_z-of_z w128 c.args.multiplier.1 fits in
    let found : slice_get c.args.relations.now c.args.multiplier.0 ≡ Some c.index-relations-number.result = slice_get_read c.args.relations.now (length c.args.relations.now) c.args.multiplier.0 c.index-relations-number.result refl c.requires.relation c.index-relations-number.is in
    ok_more c.add_form.result (λ own rest. ap (λ ts. numbers_with_terms c.args.numbers.now ts) (sym (one_form_of times c.args.relations.now c.args.multiplier c.index-relations-number.result rest is found)) ∙ own rest) c.add_form.ensures.ok

pub returns-clause-err : goal.returns-clause-err
returns-clause-err c =
    let fits : FitsSigned w128 c.args.multiplier.1 = search rules in
    let times : ℤ = to_z w128 (of_z w128 c.args.multiplier.1) in
    let is : times ≡ c.args.multiplier.1 = to_z-of_z w128 c.args.multiplier.1 fits in
    let found : slice_get c.args.relations.now c.args.multiplier.0 ≡ Some c.index-relations-number.result = slice_get_read c.args.relations.now (length c.args.relations.now) c.args.multiplier.0 c.index-relations-number.result refl c.requires.relation c.index-relations-number.is in
    err_more c.add_form.result (λ fault own rest. ap (λ ts. numbers_with_terms c.args.numbers.now ts) (sym (one_form_of times c.args.relations.now c.args.multiplier c.index-relations-number.result rest is found)) ∙ own rest) c.add_form.ensures.err
