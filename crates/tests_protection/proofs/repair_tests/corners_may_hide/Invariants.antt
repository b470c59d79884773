use Rattle.std.proofs.Common.{take, All}
use Rattle.sdc_base.specs.HiddenSets.{MayHide}
use Rattle.sdc_base.specs.Trails.{corners_of}
use Rattle.tests_protection.proofs.repair_tests.corners_may_hide.Given as goal

abbrev pub invariant-steps : goal.invariant-steps
invariant-steps l = All (MayHide l.cells) (corners_of (take l.step-index l.steps))
