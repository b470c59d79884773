use Rattle.std.proofs.Common.{◌<◌, ℕ, List, All, subst}
use Rattle.tests_releases.proofs.CaseTests.{corners_on, corners_over}
use Rattle.tests_releases.proofs.cert_check_tests.are_corners.Goals as goal

pub loop-step-preserved : goal.loop-step-preserved
loop-step-preserved c = λ rest.
    c.loop-step.invariant (corners_on (λ corner. corner < c.args.cells) c.args.steps.now c.loop-step.step-index c.step-item.result c.loop-step-test.true c.step-item.is
    (subst (λ (l : List ℕ). All (λ corner. corner < c.args.cells) l) c.as_slice.ensures (c.are_below.ensures c.if-not-are_below.false)) rest)

pub returns : goal.returns
returns c = λ _. c.loop-step.invariant (corners_over (λ corner. corner < c.args.cells) c.args.steps.now c.loop-step.step-index c.loop-step-test.false)
