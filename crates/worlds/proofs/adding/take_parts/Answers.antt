use Rattle.std.proofs.Common.{◌≡◌, ◌∙◌, ◌+◌, ◌++◌, List, ap, subst, arith, map, drop, neg_ℤ, ℤ, Err, to_z, of_z}
use Rattle.std.specs.Int.{w128}
use Rattle.std.proofs.lemmas.Int.{to_z-of_z}
use Rattle.std.proofs.lemmas.Result.{err_from_is_err_and}
use Rattle.sdc_base.specs.Forms.{Term}
use Rattle.worlds.specs.BoundedNumbers.{numbers_with_terms}
use Rattle.worlds.proofs.OneMore.{part_next}
use Rattle.worlds.proofs.adding.take_parts.Goals as goal

pub loop-part-preserved : goal.loop-part-preserved
loop-part-preserved c =
    let times : ℤ = to_z w128 (of_z w128 c.args.times) in
    record {
      long = omega (arith, c.take_at.ensures.length, c.loop-part.invariant.long);
      rest = λ rest. c.loop-part.invariant.rest rest
          ∙ ap (λ ts. numbers_with_terms c.loop-part.numbers ts) (part_next times c.args.parts.now c.loop-part.part-index 0 rest c.loop-part-test.true)
          ∙ c.in_ok-take_at.ensures.ok (map (λ part. (part, neg_ℤ times)) (drop (c.loop-part.part-index + 1) c.args.parts.now) ++ rest);
    }

pub returns-in_err-take_at-clause-err : goal.returns-in_err-take_at-clause-err
returns-in_err-take_at-clause-err c =
    let times : ℤ = to_z w128 (of_z w128 c.args.times) in
    let own = (λ (rest : List Term). c.loop-part.invariant.rest rest
    ∙ ap (λ ts. numbers_with_terms c.loop-part.numbers ts) (part_next times c.args.parts.now c.loop-part.part-index 0 rest c.loop-part-test.true)
    ∙ c.in_err-take_at.ensures.err (map (λ part. (part, neg_ℤ times)) (drop (c.loop-part.part-index + 1) c.args.parts.now) ++ rest)) in
    let p = err_from_is_err_and c.from_residual.result c.from_residual.ensures.1 in
    rw (p.1, p.2) (λ rest. subst (λ t. numbers_with_terms c.args.numbers.now (map (λ part. (part, neg_ℤ t)) c.args.parts.now ++ rest) ≡ Err c.in_err-take_at.field-0.0) (to_z-of_z w128 c.args.times c.ranges.times) (own rest))
