use Rattle.std.proofs.Common.{arith, sym, eq-eqb}
use Rattle.std.proofs.lemmas.List.Sums.{position_or_len_is}
use Rattle.sdc_base.specs.Numbers.{is_point}
use Rattle.plain_text.proofs.units.point_of.Goals as goal

pub returns-then-b-eq46-clause-place : goal.returns-then-b-eq46-clause-place
returns-then-b-eq46-clause-place c = sym (position_or_len_is is_point c.args.bytes.now c.loop-i.i 0 (omega arith) c.loop-i.invariant (λ _. eq-eqb _ _ c.if-b-eq46.true))

pub returns-clause-place : goal.returns-clause-place
returns-clause-place c = sym (position_or_len_is is_point c.args.bytes.now _ 0 (omega arith) (λ k h. c.loop-i.invariant k (omega arith)) (λ h. absurd (omega (arith, h))))
