use Rattle.std.proofs.Common.{arith}
use Rattle.rounding.specs.Fixes.{fixed_cells}
use Rattle.rounding.proofs.KeptSteps.{few_fixes}
use Rattle.rounding.proofs.bounds.Bounds.fix_count.Goals as goal

pub returns-clause-most : goal.returns-clause-most
returns-clause-most c =
    let s = c.self.inside in
    let few = few_fixes (fixed_cells s.system.now s.truths.now s.base s.fixes.items) s.lower.items s.upper.items s.least.items s.greatest.items c.self.invariant in
    rw (← c.self.view_is) (omega (arith, few, c.len.ensures))
