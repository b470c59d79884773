use Rattle.std.proofs.Common.{◌≢◌, All, take}
use Rattle.rounding.specs.declared.steps.Step.{Step}
use Rattle.rounding.proofs.steps.place_of_start.Given as goal

abbrev pub invariant-steps : goal.invariant-steps
invariant-steps l = All (λ (s : Step). s.start ≢ l.point) (take l.place l.steps)
