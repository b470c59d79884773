use Rattle.std.proofs.Common.{◌∙◌, ◌+◌, ◌++◌, ap, arith, drop, pos}
use Rattle.std.proofs.lemmas.Result.{err_from_is_err_and}
use Rattle.sdc_base.specs.Forms.{weighted_forms}
use Rattle.worlds.specs.BoundedNumbers.{numbers_with_terms}
use Rattle.worlds.proofs.OneMore.{multiplier_next}
use Rattle.worlds.proofs.adding.add_forms.Goals as goal

pub loop-one-preserved : goal.loop-one-preserved
loop-one-preserved c = record {
  long = omega (arith, c.add_weighted.ensures.length, c.loop-one.invariant.long);
  rest = λ rest. c.loop-one.invariant.rest rest
      ∙ ap (λ ts. numbers_with_terms c.loop-one.numbers ts) (multiplier_next c.args.relations.now c.args.multipliers.now c.loop-one.one-index (0, pos 0) rest c.loop-one-test.true)
      ∙ c.in_ok-add_weighted.ensures.ok (weighted_forms c.args.relations.now (drop (c.loop-one.one-index + 1) c.args.multipliers.now) ++ rest);
}

pub returns-in_err-add_weighted-clause-err : goal.returns-in_err-add_weighted-clause-err
returns-in_err-add_weighted-clause-err c =
    let p = err_from_is_err_and c.from_residual.result c.from_residual.ensures.1 in
    rw (p.1, p.2) (λ rest. c.loop-one.invariant.rest rest
    ∙ ap (λ ts. numbers_with_terms c.loop-one.numbers ts) (multiplier_next c.args.relations.now c.args.multipliers.now c.loop-one.one-index (0, pos 0) rest c.loop-one-test.true)
    ∙ c.in_err-add_weighted.ensures.err (weighted_forms c.args.relations.now (drop (c.loop-one.one-index + 1) c.args.multipliers.now) ++ rest))
