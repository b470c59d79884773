use Rattle.std.proofs.Common.{◌≡◌, ◌++◌, take, flat_map}
use Rattle.std.specs.List.{AllByRecursion}
use Rattle.certificate.specs.Spelling.{IsStepWithinTypes}
use Rattle.certificate.specs.Texts.{line_text, step_tokens}
use Rattle.certificate.proofs.writing.add_steps.Given as goal

abbrev pub invariant-steps : goal.invariant-steps
invariant-steps l = record {
  text : l.text ≡ l.fn.text ++ flat_map (λ step. line_text (step_tokens step)) (take l.step-index l.steps);
  wide : AllByRecursion IsStepWithinTypes (take l.step-index l.steps);
}
