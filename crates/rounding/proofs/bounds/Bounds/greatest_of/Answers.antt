use Rattle.std.proofs.Common.{◌<◌, ◌∙◌, length, arith, rules, FitsSigned}
use Rattle.std.specs.Int.{w128}
use Rattle.std.proofs.lemmas.Int.{ints, to_z-of_z}
use Rattle.rounding.specs.Fixes.{fixed_cells}
use Rattle.rounding.proofs.KeptSteps.{greatest_left, kept_small}
use Rattle.rounding.proofs.SumSteps.{read_at}
use Rattle.rounding.proofs.bounds.Bounds.greatest_of.Goals as goal

pub returns-clause-value : goal.returns-clause-value
returns-clause-value c =
    let s = c.self.inside in
    let b = fixed_cells s.system.now s.truths.now s.base s.fixes.items in
    let below : c.args.number < length s.system.now.relations = rw (← c.self.view_is) at c.requires in
    let read = read_at s.greatest.items c.args.number c.index.result.now (omega (arith, c.self.invariant.greatest.each, below)) c.index.ensures in
    let number : FitsSigned w128 c.index.result.now = search rules in
    rw (← c.self.view_is) (λ r there. simp to_z-of_z (read ∙ greatest_left b s.lower.items s.upper.items s.least.items s.greatest.items c.self.invariant c.args.number r there))

pub returns-clause-low : goal.returns-clause-low
returns-clause-low c =
    let s = c.self.inside in
    let b = fixed_cells s.system.now s.truths.now s.base s.fixes.items in
    let below : c.args.number < length s.system.now.relations = rw (← c.self.view_is) at c.requires in
    let read = read_at s.greatest.items c.args.number c.index.result.now (omega (arith, c.self.invariant.greatest.each, below)) c.index.ensures in
    let small = (kept_small b s.lower.items s.upper.items s.least.items s.greatest.items c.self.invariant).1 c.args.number in
    let number : FitsSigned w128 c.index.result.now = search rules in
    simp to_z-of_z (omega (arith, ints, read, small.0))

pub returns-clause-high : goal.returns-clause-high
returns-clause-high c =
    let s = c.self.inside in
    let b = fixed_cells s.system.now s.truths.now s.base s.fixes.items in
    let below : c.args.number < length s.system.now.relations = rw (← c.self.view_is) at c.requires in
    let read = read_at s.greatest.items c.args.number c.index.result.now (omega (arith, c.self.invariant.greatest.each, below)) c.index.ensures in
    let small = (kept_small b s.lower.items s.upper.items s.least.items s.greatest.items c.self.invariant).1 c.args.number in
    let number : FitsSigned w128 c.index.result.now = search rules in
    simp to_z-of_z (omega (arith, ints, read, small.1))
