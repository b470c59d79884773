use Rattle.std.proofs.Common.{arith, sym, eq-eqb, ◌==◌}
use Rattle.std.proofs.lemmas.List.Sums.{position_or_len_is}
use Rattle.plain_text.proofs.cuts.mark_place.Goals as goal

pub returns-then-b-mark-clause-place : goal.returns-then-b-mark-clause-place
returns-then-b-mark-clause-place c = sym (position_or_len_is (λ b. b == c.args.mark) c.args.bytes.now c.loop-i.i 0 (omega arith) c.loop-i.invariant (λ _. eq-eqb _ _ c.if-b-mark.true))

pub returns-clause-place : goal.returns-clause-place
returns-clause-place c = sym (position_or_len_is (λ b. b == c.args.mark) c.args.bytes.now _ 0 (omega arith) (λ k h. c.loop-i.invariant k (omega arith)) (λ h. absurd (omega (arith, h))))
