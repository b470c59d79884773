use Rattle.rounding.specs.FixedSteps.{IsForced}
use Rattle.rounding.proofs.forcing.force_cells.Given as goal

abbrev pub invariant-parts : goal.invariant-parts
invariant-parts l = IsForced l.fn.bounds l.bounds
