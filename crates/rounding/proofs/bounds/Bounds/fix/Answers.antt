use Rattle.std.proofs.Common.{◌∙◌, ℤ, arith, rules, ap, sym, refl, inl, inr, FitsSigned}
use Rattle.std.proofs.Math.ListN.{set}
use Rattle.std.specs.Int.{w128}
use Rattle.std.proofs.lemmas.Int.{ints, to_z-of_z}
use Rattle.rounding.specs.Namings.{IsNamingOf}
use Rattle.rounding.specs.Fixes.{fixed_cells, IsFree}
use Rattle.rounding.proofs.KeptSteps.{lows_long, highs_long, low_left, high_left, settable_low, settable_high, kept_up, kept_down, same_extremes}
use Rattle.rounding.proofs.SumSteps.{read_at}
use Rattle.rounding.proofs.bounds.Bounds.fix.Goals as goal

pub set_number-requires : goal.set_number-requires
set_number-requires c =
    let s = c.self.inside in
    let b = fixed_cells s.system.now s.truths.now s.base s.fixes.items in
    let free : IsFree b c.args.cell = rw (← c.self.view_is) at c.requires.free in
    let naming : IsNamingOf b.system.relations c.args.cell c.args.named.now = rw (← c.self.view_is) at c.requires.naming in
    let read = read_at s.upper.items c.args.cell c.index-to.result.now (omega (arith, highs_long b s.lower.items s.upper.items s.least.items s.greatest.items c.self.invariant, free.inside, c.self.invariant.proper.each)) c.index-to.ensures in
    let low = low_left b s.lower.items s.upper.items s.least.items s.greatest.items c.self.invariant c.args.cell in
    let high = high_left b s.lower.items s.upper.items s.least.items s.greatest.items c.self.invariant c.args.cell in
    let to : FitsSigned w128 c.index-to.result.now = search rules in
    simp to_z-of_z (settable_low b s.lower.items s.upper.items s.least.items s.greatest.items c.as_slice-relations.result.now c.args.named.now c.args.cell c.index-to.result.now c.self.invariant c.as_slice-relations.ensures naming free.inside (inl (omega (arith, ints, read, low, high, free.low, free.high))))

pub index-to-requires-else-up : goal.index-to-requires-else-up
index-to-requires-else-up c =
    let s = c.self.inside in
    let b = fixed_cells s.system.now s.truths.now s.base s.fixes.items in
    let free : IsFree b c.args.cell = rw (← c.self.view_is) at c.requires.free in
    omega (arith, lows_long b s.lower.items s.upper.items s.least.items s.greatest.items c.self.invariant, free.inside, c.self.invariant.proper.each, s.lower.ok)

pub set_number-requires-else-up : goal.set_number-requires-else-up
set_number-requires-else-up c =
    let s = c.self.inside in
    let b = fixed_cells s.system.now s.truths.now s.base s.fixes.items in
    let free : IsFree b c.args.cell = rw (← c.self.view_is) at c.requires.free in
    let naming : IsNamingOf b.system.relations c.args.cell c.args.named.now = rw (← c.self.view_is) at c.requires.naming in
    let read = read_at s.lower.items c.args.cell c.index-to-else-up.result.now (omega (arith, lows_long b s.lower.items s.upper.items s.least.items s.greatest.items c.self.invariant, free.inside, c.self.invariant.proper.each)) c.index-to-else-up.ensures in
    let low = low_left b s.lower.items s.upper.items s.least.items s.greatest.items c.self.invariant c.args.cell in
    let high = high_left b s.lower.items s.upper.items s.least.items s.greatest.items c.self.invariant c.args.cell in
    let to : FitsSigned w128 c.index-to-else-up.result.now = search rules in
    simp to_z-of_z (settable_high b s.lower.items s.upper.items s.least.items s.greatest.items c.as_slice-relations.result.now c.args.named.now c.args.cell c.index-to-else-up.result.now c.self.invariant c.as_slice-relations.ensures naming free.inside (inr (omega (arith, ints, read, low, high, free.low, free.high))))

pub invariant_of-self-then-up : goal.invariant_of-self-then-up
invariant_of-self-then-up c =
    let s = c.self.inside in
    let b = fixed_cells s.system.now s.truths.now s.base s.fixes.items in
    let free : IsFree b c.args.cell = rw (← c.self.view_is) at c.requires.free in
    let read = read_at s.upper.items c.args.cell c.index-to.result.now (omega (arith, highs_long b s.lower.items s.upper.items s.least.items s.greatest.items c.self.invariant, free.inside, c.self.invariant.proper.each)) c.index-to.ensures in
    let to : FitsSigned w128 c.index-to.result.now = search rules in
    let base : FitsSigned w128 s.base = omega (arith, ints, c.self.invariant.proper.from_one, c.self.invariant.proper.to_most) in
    let numbers = simp to_z-of_z at c.set_number.ensures.numbers in
    let relations = c.as_slice-relations.ensures in
    let first = c.set_number.ensures.first s.upper.items (same_extremes _ _ _ _ _ _ _ refl refl (sym relations) c.self.invariant.least) in
    let second = c.set_number.ensures.second s.upper.items (same_extremes _ _ _ _ _ _ _ refl refl (sym relations) c.self.invariant.greatest) in
    (kept_up b s.lower.items s.upper.items s.least.items s.greatest.items c.as_slice-relations.result.now c.args.cell c.args.up c.push.new.self.items c.set_number.new.numbers.items c.set_number.new.first.items c.set_number.new.second.items
    c.self.invariant relations free c.if-up.true c.in_ok-push.ensures.items (numbers ∙ ap (λ (z : ℤ). set s.lower.items c.args.cell z) read) first second)

pub invariant_of-self-else-up : goal.invariant_of-self-else-up
invariant_of-self-else-up c =
    let s = c.self.inside in
    let b = fixed_cells s.system.now s.truths.now s.base s.fixes.items in
    let free : IsFree b c.args.cell = rw (← c.self.view_is) at c.requires.free in
    let read = read_at s.lower.items c.args.cell c.index-to-else-up.result.now (omega (arith, lows_long b s.lower.items s.upper.items s.least.items s.greatest.items c.self.invariant, free.inside, c.self.invariant.proper.each)) c.index-to-else-up.ensures in
    let to : FitsSigned w128 c.index-to-else-up.result.now = search rules in
    let base : FitsSigned w128 s.base = omega (arith, ints, c.self.invariant.proper.from_one, c.self.invariant.proper.to_most) in
    let numbers = simp to_z-of_z at c.set_number-else-up.ensures.numbers in
    let relations = c.as_slice-relations.ensures in
    let first = c.set_number-else-up.ensures.first s.lower.items (same_extremes _ _ _ _ _ _ _ refl refl (sym relations) c.self.invariant.greatest) in
    let second = c.set_number-else-up.ensures.second s.lower.items (same_extremes _ _ _ _ _ _ _ refl refl (sym relations) c.self.invariant.least) in
    (kept_down b s.lower.items s.upper.items s.least.items s.greatest.items c.as_slice-relations.result.now c.args.cell c.args.up c.push.new.self.items c.set_number-else-up.new.numbers.items c.set_number-else-up.new.second.items c.set_number-else-up.new.first.items
    c.self.invariant relations free c.if-up.false c.in_ok-push.ensures.items (numbers ∙ ap (λ (z : ℤ). set s.upper.items c.args.cell z) read) second first)
