use Rattle.std.proofs.Common.{◌<◌, ◌∙◌, arith, rules, FitsSigned}
use Rattle.std.specs.Int.{w128}
use Rattle.std.proofs.lemmas.Int.{to_z-of_z}
use Rattle.rounding.specs.Fixes.{fixed_cells}
use Rattle.rounding.proofs.KeptSteps.{lows_long, highs_long, low_left, high_left, free_from, one_from}
use Rattle.rounding.proofs.SumSteps.{read_at}
use Rattle.rounding.proofs.bounds.Bounds.is_free.Goals as goal

pub index-requires : goal.index-requires
index-requires c =
    let s = c.self.inside in
    let b = fixed_cells s.system.now s.truths.now s.base s.fixes.items in
    let below : c.args.cell < s.system.now.cells = rw (← c.self.view_is) at c.requires in
    omega (arith, lows_long b s.lower.items s.upper.items s.least.items s.greatest.items c.self.invariant, below, s.lower.ok)

pub index-requires-2 : goal.index-requires-2
index-requires-2 c =
    let s = c.self.inside in
    let b = fixed_cells s.system.now s.truths.now s.base s.fixes.items in
    let below : c.args.cell < s.system.now.cells = rw (← c.self.view_is) at c.requires in
    omega (arith, highs_long b s.lower.items s.upper.items s.least.items s.greatest.items c.self.invariant, below, s.upper.ok)

pub returns-clause-free : goal.returns-clause-free
returns-clause-free c =
    let s = c.self.inside in
    let b = fixed_cells s.system.now s.truths.now s.base s.fixes.items in
    let below : c.args.cell < s.system.now.cells = rw (← c.self.view_is) at c.requires in
    let low = read_at s.lower.items c.args.cell c.index.result.now (omega (arith, lows_long b s.lower.items s.upper.items s.least.items s.greatest.items c.self.invariant, below)) c.index.ensures in
    let high = read_at s.upper.items c.args.cell c.index-2.result.now (omega (arith, highs_long b s.lower.items s.upper.items s.least.items s.greatest.items c.self.invariant, below)) c.index-2.ensures in
    let one : FitsSigned w128 c.index.result.now = search rules in
    let other : FitsSigned w128 c.index-2.result.now = search rules in
    rw (← c.self.view_is) (simp to_z-of_z (λ less. free_from b c.args.cell c.index.result.now c.index-2.result.now (omega (arith, below, c.self.invariant.proper.each)) (low ∙ low_left b s.lower.items s.upper.items s.least.items s.greatest.items c.self.invariant c.args.cell) (high ∙ high_left b s.lower.items s.upper.items s.least.items s.greatest.items c.self.invariant c.args.cell) less))

pub returns-clause-fixed : goal.returns-clause-fixed
returns-clause-fixed c =
    let s = c.self.inside in
    let b = fixed_cells s.system.now s.truths.now s.base s.fixes.items in
    let below : c.args.cell < s.system.now.cells = rw (← c.self.view_is) at c.requires in
    let low = read_at s.lower.items c.args.cell c.index.result.now (omega (arith, lows_long b s.lower.items s.upper.items s.least.items s.greatest.items c.self.invariant, below)) c.index.ensures in
    let high = read_at s.upper.items c.args.cell c.index-2.result.now (omega (arith, highs_long b s.lower.items s.upper.items s.least.items s.greatest.items c.self.invariant, below)) c.index-2.ensures in
    let one : FitsSigned w128 c.index.result.now = search rules in
    let other : FitsSigned w128 c.index-2.result.now = search rules in
    rw (← c.self.view_is) (simp to_z-of_z (λ not_less. one_from b c.args.cell c.index.result.now c.index-2.result.now c.self.invariant.proper.from_one (omega (arith, below, c.self.invariant.proper.each)) (low ∙ low_left b s.lower.items s.upper.items s.least.items s.greatest.items c.self.invariant c.args.cell) (high ∙ high_left b s.lower.items s.upper.items s.least.items s.greatest.items c.self.invariant c.args.cell) not_less))
