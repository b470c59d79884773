use Rattle.std.proofs.Common.{arith, sym, rules}
use Rattle.std.proofs.lemmas.List.Sums.{position_or_len_is}
use Rattle.job_lang.specs.LineTokens.{is_break}
use Rattle.job_lang.proofs.cursor.run_end.Goals as goal

pub returns-then-is_break-clause-place : goal.returns-then-is_break-clause-place
returns-then-is_break-clause-place c = sym (position_or_len_is is_break c.args.text.now c.loop-i.i 0 (omega arith) c.loop-i.invariant (λ _. search rules))

pub returns-clause-place : goal.returns-clause-place
returns-clause-place c = sym (position_or_len_is is_break c.args.text.now _ 0 (omega arith) (λ k h. c.loop-i.invariant k (omega arith)) (λ h. absurd (omega (arith, h))))
