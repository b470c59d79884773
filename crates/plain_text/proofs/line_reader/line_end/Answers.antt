use Rattle.std.proofs.Common.{arith, sym, rules}
use Rattle.std.proofs.lemmas.List.Sums.{position_or_len_is}
use Rattle.sdc_base.specs.Lines.{is_line_feed}
use Rattle.plain_text.proofs.line_reader.line_end.Goals as goal

pub returns-then-ends_line : goal.returns-then-ends_line
returns-then-ends_line c = sym (position_or_len_is is_line_feed c.args.bytes.now c.loop-i.i 0 (omega arith) c.loop-i.invariant (λ _. search rules))

pub returns : goal.returns
returns c = sym (position_or_len_is is_line_feed c.args.bytes.now _ 0 (omega arith) (λ k h. c.loop-i.invariant k (omega arith)) (λ h. absurd (omega (arith, h))))
