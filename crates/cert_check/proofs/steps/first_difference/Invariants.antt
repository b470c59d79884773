use Rattle.std.proofs.Common.{◌≡◌, drop}
use Rattle.cert_check.specs.FirstDifference.{first_difference}
use Rattle.cert_check.specs.TrailSteps.{same_step}
use Rattle.cert_check.proofs.steps.first_difference.Given as goal

abbrev pub invariant-loop-place : goal.invariant-loop-place
invariant-loop-place l = first_difference same_step 0 l.steps l.trail ≡ first_difference same_step l.place (drop l.place l.steps) (drop l.place l.trail)
