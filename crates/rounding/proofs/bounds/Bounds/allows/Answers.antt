use Rattle.std.proofs.Common.{◌<◌, ◌∙◌, get_or, pos, arith, rules, FitsSigned}
use Rattle.std.specs.Int.{w128}
use Rattle.std.proofs.lemmas.Int.{to_z-of_z}
use Rattle.rounding.specs.Fixes.{fixed_cells}
use Rattle.rounding.proofs.KeptSteps.{lows_long, highs_long, low_left, high_left, allows_up, allows_down}
use Rattle.rounding.proofs.SumSteps.{read_at}
use Rattle.rounding.proofs.bounds.Bounds.allows.Goals as goal

pub index-requires : goal.index-requires
index-requires c =
    let s = c.self.inside in
    let b = fixed_cells s.system.now s.truths.now s.base s.fixes.items in
    let below : c.args.cell < s.system.now.cells = rw (← c.self.view_is) at c.requires in
    omega (arith, highs_long b s.lower.items s.upper.items s.least.items s.greatest.items c.self.invariant, below, s.upper.ok)

pub index-requires-else-up : goal.index-requires-else-up
index-requires-else-up c =
    let s = c.self.inside in
    let b = fixed_cells s.system.now s.truths.now s.base s.fixes.items in
    let below : c.args.cell < s.system.now.cells = rw (← c.self.view_is) at c.requires in
    omega (arith, lows_long b s.lower.items s.upper.items s.least.items s.greatest.items c.self.invariant, below, s.lower.ok)

pub returns-then-up : goal.returns-then-up
returns-then-up c =
    let s = c.self.inside in
    let b = fixed_cells s.system.now s.truths.now s.base s.fixes.items in
    let below : c.args.cell < s.system.now.cells = rw (← c.self.view_is) at c.requires in
    let read = read_at s.upper.items c.args.cell c.index.result.now (omega (arith, highs_long b s.lower.items s.upper.items s.least.items s.greatest.items c.self.invariant, below)) c.index.ensures in
    let truth : FitsSigned w128 (get_or s.truths.now c.args.cell (pos 0)) = search rules in
    let number : FitsSigned w128 c.index.result.now = search rules in
    rw (← c.self.view_is) (simp to_z-of_z (allows_up b c.args.cell c.args.up c.index.result.now c.if-up.true (read ∙ high_left b s.lower.items s.upper.items s.least.items s.greatest.items c.self.invariant c.args.cell)))

pub returns-else-up : goal.returns-else-up
returns-else-up c =
    let s = c.self.inside in
    let b = fixed_cells s.system.now s.truths.now s.base s.fixes.items in
    let below : c.args.cell < s.system.now.cells = rw (← c.self.view_is) at c.requires in
    let read = read_at s.lower.items c.args.cell c.index-else-up.result.now (omega (arith, lows_long b s.lower.items s.upper.items s.least.items s.greatest.items c.self.invariant, below)) c.index-else-up.ensures in
    let truth : FitsSigned w128 (get_or s.truths.now c.args.cell (pos 0)) = search rules in
    let number : FitsSigned w128 c.index-else-up.result.now = search rules in
    rw (← c.self.view_is) (simp to_z-of_z (allows_down b c.args.cell c.args.up c.index-else-up.result.now c.if-up.false (read ∙ low_left b s.lower.items s.upper.items s.least.items s.greatest.items c.self.invariant c.args.cell)))
