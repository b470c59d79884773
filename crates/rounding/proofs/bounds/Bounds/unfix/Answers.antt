use Rattle.std.proofs.Common.{◌-ℤ◌, ◌+ℤ◌, ℤ, arith, rules, ap, sym, refl, inl, inr, FitsSigned}
use Rattle.std.specs.Int.{w128}
use Rattle.std.proofs.lemmas.Int.{ints, to_z-of_z}
use Rattle.rounding.specs.Namings.{IsNaming}
use Rattle.rounding.specs.Fixes.{fixed_cells}
use Rattle.rounding.proofs.NamingSteps.{listed_at}
use Rattle.rounding.proofs.KeptSteps.{back_of, settable_low, settable_high, back_up, back_down, same_extremes}
use Rattle.rounding.proofs.SumSteps.{read_at}
use Rattle.rounding.proofs.bounds.Bounds.unfix.Goals as goal

pub bounds-naming-cell : goal.bounds-naming-cell
bounds-naming-cell c =
    let s = c.self.inside in
    let b = fixed_cells s.system.now s.truths.now s.base s.fixes.items in
    let is : IsNaming b.system c.args.naming.now = rw (← c.self.view_is) at c.requires in
    (back_of b s.lower.items s.upper.items s.least.items s.greatest.items c.args.naming.now c.pop.new.self.items c.in-Some.fix c.self.invariant is c.in-Some.ensures.items).inside_naming

pub index-requires : goal.index-requires
index-requires c =
    let s = c.self.inside in
    let b = fixed_cells s.system.now s.truths.now s.base s.fixes.items in
    let is : IsNaming b.system c.args.naming.now = rw (← c.self.view_is) at c.requires in
    let all = back_of b s.lower.items s.upper.items s.least.items s.greatest.items c.args.naming.now c.pop.new.self.items c.in-Some.fix c.self.invariant is c.in-Some.ensures.items in
    omega (arith, all.inside_lows, s.lower.ok)

pub overflow_sub-to : goal.overflow_sub-to
overflow_sub-to c =
    let s = c.self.inside in
    let b = fixed_cells s.system.now s.truths.now s.base s.fixes.items in
    let is : IsNaming b.system c.args.naming.now = rw (← c.self.view_is) at c.requires in
    let all = back_of b s.lower.items s.upper.items s.least.items s.greatest.items c.args.naming.now c.pop.new.self.items c.in-Some.fix c.self.invariant is c.in-Some.ensures.items in
    let read = read_at s.lower.items c.in-Some.fix.0 c.index.result.now all.inside_lows c.index.ensures in
    let number : FitsSigned w128 c.index.result.now = search rules in
    let base : FitsSigned w128 s.base = omega (arith, ints, all.positive, all.most) in
    simp to_z-of_z (omega (arith, ints, read, all.low_from, all.low_to, all.positive, all.most))

pub set_number-requires : goal.set_number-requires
set_number-requires c =
    let s = c.self.inside in
    let b = fixed_cells s.system.now s.truths.now s.base s.fixes.items in
    let is : IsNaming b.system c.args.naming.now = rw (← c.self.view_is) at c.requires in
    let all = back_of b s.lower.items s.upper.items s.least.items s.greatest.items c.args.naming.now c.pop.new.self.items c.in-Some.fix c.self.invariant is c.in-Some.ensures.items in
    let read = read_at s.lower.items c.in-Some.fix.0 c.index.result.now all.inside_lows c.index.ensures in
    let number : FitsSigned w128 c.index.result.now = search rules in
    let base : FitsSigned w128 s.base = omega (arith, ints, all.positive, all.most) in
    let to : FitsSigned w128 (c.index.result.now -ℤ s.base) = omega (arith, ints, read, all.low_from, all.low_to, all.positive, all.most) in
    simp to_z-of_z
    (settable_low b s.lower.items s.upper.items s.least.items s.greatest.items c.as_slice-relations.result.now c.as_slice-named.result.now c.in-Some.fix.0 (c.index.result.now -ℤ s.base) c.self.invariant c.as_slice-relations.ensures
    (listed_at b.system c.args.naming.now c.in-Some.fix.0 c.index-naming-cell.result c.as_slice-named.result.now is all.inside_cells c.index-naming-cell.is c.as_slice-named.ensures) all.inside (inr (ap (λ (z : ℤ). z -ℤ s.base) read)))

pub invariant_of-self-then-up : goal.invariant_of-self-then-up
invariant_of-self-then-up c =
    let s = c.self.inside in
    let b = fixed_cells s.system.now s.truths.now s.base s.fixes.items in
    let is : IsNaming b.system c.args.naming.now = rw (← c.self.view_is) at c.requires in
    let all = back_of b s.lower.items s.upper.items s.least.items s.greatest.items c.args.naming.now c.pop.new.self.items c.in-Some.fix c.self.invariant is c.in-Some.ensures.items in
    let read = read_at s.lower.items c.in-Some.fix.0 c.index.result.now all.inside_lows c.index.ensures in
    let number : FitsSigned w128 c.index.result.now = search rules in
    let base : FitsSigned w128 s.base = omega (arith, ints, all.positive, all.most) in
    let to : FitsSigned w128 (c.index.result.now -ℤ s.base) = omega (arith, ints, read, all.low_from, all.low_to, all.positive, all.most) in
    let numbers = simp to_z-of_z at c.set_number.ensures.numbers in
    let relations = c.as_slice-relations.ensures in
    let first = c.set_number.ensures.first s.upper.items (same_extremes _ _ _ _ _ _ _ refl refl (sym relations) c.self.invariant.least) in
    let second = c.set_number.ensures.second s.upper.items (same_extremes _ _ _ _ _ _ _ refl refl (sym relations) c.self.invariant.greatest) in
    back_up b s.lower.items s.upper.items s.least.items s.greatest.items c.as_slice-relations.result.now c.pop.new.self.items c.in-Some.fix.0 c.in-Some.fix.1 (c.index.result.now -ℤ s.base) c.set_number.new.numbers.items c.set_number.new.first.items c.set_number.new.second.items
    c.self.invariant relations c.in-Some.ensures.items c.if-up.true (ap (λ (z : ℤ). z -ℤ s.base) read) numbers first second

pub index-requires-else-up : goal.index-requires-else-up
index-requires-else-up c =
    let s = c.self.inside in
    let b = fixed_cells s.system.now s.truths.now s.base s.fixes.items in
    let is : IsNaming b.system c.args.naming.now = rw (← c.self.view_is) at c.requires in
    let all = back_of b s.lower.items s.upper.items s.least.items s.greatest.items c.args.naming.now c.pop.new.self.items c.in-Some.fix c.self.invariant is c.in-Some.ensures.items in
    omega (arith, all.inside_highs, s.upper.ok)

pub overflow_add-to : goal.overflow_add-to
overflow_add-to c =
    let s = c.self.inside in
    let b = fixed_cells s.system.now s.truths.now s.base s.fixes.items in
    let is : IsNaming b.system c.args.naming.now = rw (← c.self.view_is) at c.requires in
    let all = back_of b s.lower.items s.upper.items s.least.items s.greatest.items c.args.naming.now c.pop.new.self.items c.in-Some.fix c.self.invariant is c.in-Some.ensures.items in
    let read = read_at s.upper.items c.in-Some.fix.0 c.index-else-up.result.now all.inside_highs c.index-else-up.ensures in
    let number : FitsSigned w128 c.index-else-up.result.now = search rules in
    let base : FitsSigned w128 s.base = omega (arith, ints, all.positive, all.most) in
    simp to_z-of_z (omega (arith, ints, read, all.high_from, all.high_to, all.positive, all.most))

pub set_number-requires-else-up : goal.set_number-requires-else-up
set_number-requires-else-up c =
    let s = c.self.inside in
    let b = fixed_cells s.system.now s.truths.now s.base s.fixes.items in
    let is : IsNaming b.system c.args.naming.now = rw (← c.self.view_is) at c.requires in
    let all = back_of b s.lower.items s.upper.items s.least.items s.greatest.items c.args.naming.now c.pop.new.self.items c.in-Some.fix c.self.invariant is c.in-Some.ensures.items in
    let read = read_at s.upper.items c.in-Some.fix.0 c.index-else-up.result.now all.inside_highs c.index-else-up.ensures in
    let number : FitsSigned w128 c.index-else-up.result.now = search rules in
    let base : FitsSigned w128 s.base = omega (arith, ints, all.positive, all.most) in
    let to : FitsSigned w128 (c.index-else-up.result.now +ℤ s.base) = omega (arith, ints, read, all.high_from, all.high_to, all.positive, all.most) in
    simp to_z-of_z
    (settable_high b s.lower.items s.upper.items s.least.items s.greatest.items c.as_slice-relations.result.now c.as_slice-named.result.now c.in-Some.fix.0 (c.index-else-up.result.now +ℤ s.base) c.self.invariant c.as_slice-relations.ensures
    (listed_at b.system c.args.naming.now c.in-Some.fix.0 c.index-naming-cell.result c.as_slice-named.result.now is all.inside_cells c.index-naming-cell.is c.as_slice-named.ensures) all.inside (inl (ap (λ (z : ℤ). z +ℤ s.base) read)))

pub invariant_of-self-else-up : goal.invariant_of-self-else-up
invariant_of-self-else-up c =
    let s = c.self.inside in
    let b = fixed_cells s.system.now s.truths.now s.base s.fixes.items in
    let is : IsNaming b.system c.args.naming.now = rw (← c.self.view_is) at c.requires in
    let all = back_of b s.lower.items s.upper.items s.least.items s.greatest.items c.args.naming.now c.pop.new.self.items c.in-Some.fix c.self.invariant is c.in-Some.ensures.items in
    let read = read_at s.upper.items c.in-Some.fix.0 c.index-else-up.result.now all.inside_highs c.index-else-up.ensures in
    let number : FitsSigned w128 c.index-else-up.result.now = search rules in
    let base : FitsSigned w128 s.base = omega (arith, ints, all.positive, all.most) in
    let to : FitsSigned w128 (c.index-else-up.result.now +ℤ s.base) = omega (arith, ints, read, all.high_from, all.high_to, all.positive, all.most) in
    let numbers = simp to_z-of_z at c.set_number-else-up.ensures.numbers in
    let relations = c.as_slice-relations.ensures in
    let first = c.set_number-else-up.ensures.first s.lower.items (same_extremes _ _ _ _ _ _ _ refl refl (sym relations) c.self.invariant.greatest) in
    let second = c.set_number-else-up.ensures.second s.lower.items (same_extremes _ _ _ _ _ _ _ refl refl (sym relations) c.self.invariant.least) in
    back_down b s.lower.items s.upper.items s.least.items s.greatest.items c.as_slice-relations.result.now c.pop.new.self.items c.in-Some.fix.0 c.in-Some.fix.1 (c.index-else-up.result.now +ℤ s.base) c.set_number-else-up.new.numbers.items c.set_number-else-up.new.second.items c.set_number-else-up.new.first.items
    c.self.invariant relations c.in-Some.ensures.items c.if-up.false (ap (λ (z : ℤ). z +ℤ s.base) read) numbers second first
