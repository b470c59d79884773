use Rattle.std.proofs.Common.{◌≡◌, ◌+ℤ◌, ◌-ℤ◌, ◌++◌, ◌∷◌, [], Ok, Err, Result, OnOk, arith, refl, not, FitsSigned}
use Rattle.std.specs.Int.{w128}
use Rattle.std.proofs.lemmas.Int.{ints, to_z-of_z}
use Rattle.rounding.proofs.NamingSteps.{listed_at}
use Rattle.rounding.proofs.ForceSteps.{found_at, twice_not, forced_fix, least_bars, greatest_bars}
use Rattle.rounding.proofs.forcing.force.Goals as goal

on_ok : {X E : Type 0} (A B : Type 0) (r : Result X E) → (A → B) → OnOk r A → OnOk r B
on_ok A B (Ok x) f a = f a
on_ok A B (Err e) f a = tt

pub fix-requires-clause-naming : goal.fix-requires-clause-naming
fix-requires-clause-naming c = listed_at c.args.bounds.now.system c.args.naming.now c.args.cell c.index-naming-cell.result c.as_slice-named.result.now c.requires.naming c.requires.cell c.index-naming-cell.is c.as_slice-named.ensures

pub fix-requires-then-greatest_of-base-lt0-clause-free : goal.fix-requires-then-greatest_of-base-lt0-clause-free
fix-requires-then-greatest_of-base-lt0-clause-free c = c.if-not-is_free.ensures.free refl

pub fix-requires-then-greatest_of-base-lt0-clause-naming : goal.fix-requires-then-greatest_of-base-lt0-clause-naming
fix-requires-then-greatest_of-base-lt0-clause-naming c = listed_at c.args.bounds.now.system c.args.naming.now c.args.cell c.index-naming-cell.result c.as_slice-named.result.now c.requires.naming c.requires.cell c.index-naming-cell.is c.as_slice-named.ensures

pub returns-then-least_of-base-gt0 : goal.returns-then-least_of-base-gt0
returns-then-least_of-base-gt0 c =
    let b = c.args.bounds.now in
    let free = c.if-not-is_free.ensures.free refl in
    let found = found_at b.system.relations c.args.number c.requires.number in
    let least : FitsSigned w128 c.least_of.result = omega (arith, ints, c.least_of.ensures.low, c.least_of.ensures.high) in
    let base : FitsSigned w128 c.base.result = omega (arith, ints, c.base.ensures.from_one, c.base.ensures.to_most) in
    let whole : FitsSigned w128 (c.least_of.result +ℤ c.base.result) = omega (arith, ints, c.least_of.ensures.low, c.least_of.ensures.high, c.base.ensures.from_one, c.base.ensures.to_most) in
    let above = simp to_z-of_z at c.if-least_of-base-gt0.true in
    on_ok (c.fix.new.self ≡ record b { fixes = b.fixes ++ (c.args.cell, not c.args.above) ∷ [] }) _ c.fix.result
    (λ made. forced_fix b c.fix.new.self c.args.cell c.args.above (not c.args.above) c.requires.proper free
    (least_bars b c.args.number found.0 c.args.cell c.args.above c.requires.proper found.1 free (c.requires.counted found.0 found.1) (omega (arith, ints, above, c.least_of.ensures.value found.0 found.1, c.base.ensures.value))) refl made) c.fix.ensures.ok

pub returns-then-greatest_of-base-lt0 : goal.returns-then-greatest_of-base-lt0
returns-then-greatest_of-base-lt0 c =
    let b = c.args.bounds.now in
    let free = c.if-not-is_free.ensures.free refl in
    let found = found_at b.system.relations c.args.number c.requires.number in
    let greatest : FitsSigned w128 c.greatest_of.result = omega (arith, ints, c.greatest_of.ensures.low, c.greatest_of.ensures.high) in
    let base : FitsSigned w128 c.base-else-least_of-base-gt0.result = omega (arith, ints, c.base-else-least_of-base-gt0.ensures.from_one, c.base-else-least_of-base-gt0.ensures.to_most) in
    let whole : FitsSigned w128 (c.greatest_of.result -ℤ c.base-else-least_of-base-gt0.result) = omega (arith, ints, c.greatest_of.ensures.low, c.greatest_of.ensures.high, c.base-else-least_of-base-gt0.ensures.from_one, c.base-else-least_of-base-gt0.ensures.to_most) in
    let below = simp to_z-of_z at c.if-greatest_of-base-lt0.true in
    on_ok (c.fix-then-greatest_of-base-lt0.new.self ≡ record b { fixes = b.fixes ++ (c.args.cell, c.args.above) ∷ [] }) _ c.fix-then-greatest_of-base-lt0.result
    (λ made. forced_fix b c.fix-then-greatest_of-base-lt0.new.self c.args.cell (not c.args.above) c.args.above c.requires.proper free
    (greatest_bars b c.args.number found.0 c.args.cell c.args.above c.requires.proper found.1 free (c.requires.counted found.0 found.1) (omega (arith, ints, below, c.greatest_of.ensures.value found.0 found.1, c.base-else-least_of-base-gt0.ensures.value))) (twice_not c.args.above) made) c.fix-then-greatest_of-base-lt0.ensures.ok
