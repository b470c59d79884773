use Rattle.std.proofs.Common.{◌≤ℤ◌, All, List, subst}
use Rattle.std.proofs.lemmas.List.{take_all}
use Rattle.rounding.specs.declared.steps.Step.{Step}
use Rattle.rounding.specs.Circuits.{room_of, step_at}
use Rattle.rounding.proofs.Moving.{least_more}
use Rattle.rounding.proofs.underway.tightest.Goals as goal

pub places-preserved : goal.places-preserved
places-preserved c = record {
  inside = c.tighter-least.ensures.inside;
  least = least_more c.args.task.now.base c.args.numbers.now c.args.steps.now c.places.least c.tighter-least.result c.places.place c.places-test.true c.tighter-least.ensures.one c.tighter-least.ensures.other c.places.invariant.least;
}

pub returns-clause-least : goal.returns-clause-least
returns-clause-least c =
    subst (λ (steps : List Step). All (λ (s : Step). room_of c.args.task.now.base c.args.numbers.now (step_at c.args.steps.now c.places.least) ≤ℤ room_of c.args.task.now.base c.args.numbers.now s) steps) (take_all c.places.place c.args.steps.now c.places-test.false) c.places.invariant.least
