use Rattle.std.proofs.Common.{arith, sym, rules}
use Rattle.std.proofs.lemmas.List.Sums.{position_or_len_is}
use Rattle.sdc_base.specs.Blanks.{is_blank}
use Rattle.plain_text.proofs.cuts.blank_place.Goals as goal

pub returns-then-is_blank_byte-clause-place : goal.returns-then-is_blank_byte-clause-place
returns-then-is_blank_byte-clause-place c = sym (position_or_len_is is_blank c.args.bytes.now c.loop-i.i 0 (omega arith) c.loop-i.invariant (λ _. search rules))

pub returns-clause-place : goal.returns-clause-place
returns-clause-place c = sym (position_or_len_is is_blank c.args.bytes.now _ 0 (omega arith) (λ k h. c.loop-i.invariant k (omega arith)) (λ h. absurd (omega (arith, h))))
