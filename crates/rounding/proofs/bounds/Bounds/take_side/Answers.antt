use Rattle.std.proofs.Common.{◌≡◌, ◌++◌, ◌∷◌, [], Ok, Err, Result, OnOk, arith, refl}
use Rattle.rounding.proofs.FixSteps.{taken_already, taken_new}
use Rattle.rounding.proofs.bounds.Bounds.take_side.Goals as goal

on_ok : {X E : Type 0} (A B : Type 0) (r : Result X E) → (A → B) → OnOk r A → OnOk r B
on_ok A B (Ok x) f a = f a
on_ok A B (Err e) f a = tt

pub returns-then-is_free : goal.returns-then-is_free
returns-then-is_free c =
    let b = c.args.self.now in
    on_ok (c.fix.new.self ≡ record b { fixes = b.fixes ++ (c.args.cell, c.args.up) ∷ [] }) _ c.fix.result (λ is. taken_new b c.fix.new.self c.args.cell c.args.up (omega (arith, c.requires.cell, c.requires.proper.each)) is) c.fix.ensures.ok

pub returns-else-is_free : goal.returns-else-is_free
returns-else-is_free c =
    let b = c.args.self.now in
    taken_already b c.args.cell c.args.up c.requires.proper (omega (arith, c.requires.cell, c.requires.proper.each)) c.requires.unrounded c.requires.allowed (c.if-is_free.ensures.fixed refl)
