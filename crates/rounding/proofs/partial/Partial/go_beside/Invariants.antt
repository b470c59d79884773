use Rattle.std.proofs.Common.{length}
use Rattle.rounding.specs.PartialLists.{IsPartial, IsSameTask, LeadsTo, choices_of}
use Rattle.rounding.proofs.partial.Partial.go_beside.Given as goal
use Rattle.rounding.proofs.SearchSteps.{after_of}

abbrev pub invariant-back : goal.invariant-back
invariant-back l = record {
  kept : IsPartial l.self.bounds l.self.naming.items l.self.cells.items l.self.steps.items l.self.viable;
  same : IsSameTask l.fn.self.bounds l.self.bounds;
  leads : LeadsTo l.fn.self.bounds (choices_of l.fn.self.steps.items) (after_of l.fn.self.bounds (choices_of l.self.steps.items));
}

abbrev pub decreases-back : goal.decreases-back
decreases-back l = length l.self.steps.items
