use Rattle.std.proofs.Common.{◌<◌, All, drop}
use Rattle.sdc_base.specs.Trails.{corners_of}
use Rattle.tests_releases.proofs.cert_check_tests.are_corners.Given as goal

abbrev pub invariant-loop-step : goal.invariant-loop-step
invariant-loop-step l = All (λ corner. corner < l.cells) (corners_of (drop l.step-index l.steps)) → All (λ corner. corner < l.cells) (corners_of l.steps)
