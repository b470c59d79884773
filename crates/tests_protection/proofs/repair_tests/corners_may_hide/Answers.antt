use Rattle.std.proofs.Common.{◌≤◌, List, length, subst, All, arith}
use Rattle.std.proofs.lemmas.List.{take_all}
use Rattle.sdc_base.specs.declared.trail.PlanStep.{PlanStep}
use Rattle.sdc_base.specs.HiddenSets.{MayHide}
use Rattle.sdc_base.specs.Trails.{corners_of}
use Rattle.tests_protection.proofs.PartLists.{All-more}
use Rattle.tests_protection.proofs.repair_tests.corners_may_hide.Goals as goal

pub steps-preserved : goal.steps-preserved
steps-preserved c =
    All-more (MayHide c.args.cells.now) (λ (step : PlanStep). step.corners) c.args.steps.now c.steps.step-index c.step-item.result c.steps-test.true c.step-item.is c.steps.invariant
    (subst (All (MayHide c.args.cells.now)) c.as_slice.ensures (c.all_may_hide.ensures c.if-not-all_may_hide.false))

pub returns : goal.returns
returns c = λ is.
    let seen : length c.args.steps.now ≤ c.steps.step-index = omega (arith, c.steps-test.false) in
    subst (λ (l : List PlanStep). All (MayHide c.args.cells.now) (corners_of l)) (take_all c.steps.step-index c.args.steps.now seen) c.steps.invariant
