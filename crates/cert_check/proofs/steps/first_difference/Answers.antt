use Rattle.std.proofs.Common.{◌≡◌, ◌∙◌, sym, ap, length, drop, arith}
use Rattle.cert_check.specs.FirstDifference.{first_difference}
use Rattle.cert_check.specs.TrailSteps.{same_step}
use Rattle.cert_check.proofs.Differences.{apart_on, apart_here, apart_over}
use Rattle.cert_check.proofs.steps.first_difference.Goals as goal

pub returns-then-not-stands_at : goal.returns-then-not-stands_at
returns-then-not-stands_at c = sym (c.loop-place.invariant ∙ apart_here same_step c.loop-place.place c.args.steps.now c.args.trail.now c.loop-place.place c.index-steps-place.result c.loop-place-test.true c.index-steps-place.is (sym c.stands_at.ensures ∙ c.if-not-stands_at.true))

pub loop-place-preserved : goal.loop-place-preserved
loop-place-preserved c = c.loop-place.invariant ∙ apart_on same_step c.loop-place.place c.args.steps.now c.args.trail.now c.loop-place.place c.index-steps-place.result c.loop-place-test.true c.index-steps-place.is (sym c.stands_at.ensures ∙ c.if-not-stands_at.false)

pub returns-then-steps-trail : goal.returns-then-steps-trail
returns-then-steps-trail c =
    let over : c.loop-place.place ≡ length c.args.steps.now = omega (arith, c.loop-place.auto.place-end, c.loop-place-test.false) in
    sym (c.loop-place.invariant ∙ ap (λ n. first_difference same_step n (drop n c.args.steps.now) (drop n c.args.trail.now)) over ∙ apart_over same_step (length c.args.steps.now) c.args.steps.now c.args.trail.now c.if-steps-trail.true)
