use Rattle.std.proofs.Common.{arith, sym, ap, ◌∙◌, drop, rules}
use Rattle.std.proofs.lemmas.List.{take_rest, drop_all}
use Rattle.std.proofs.lemmas.List.Sums.{position_or_len_is}
use Rattle.std.specs.List.{position_or_len}
use Rattle.sdc_base.specs.Blanks.{is_dark}
use Rattle.plain_text.proofs.blanks.without_front.Goals as goal

pub returns-then-not-is_blank_byte-clause-text : goal.returns-then-not-is_blank_byte-clause-text
returns-then-not-is_blank_byte-clause-text c =
    let first = position_or_len_is is_dark c.args.bytes.now c.loop-i.i 0 (omega arith) c.loop-i.invariant (λ _. search rules) in
    take_rest c.args.bytes.now c.loop-i.i ∙ ap (λ i. drop i c.args.bytes.now) (sym first)

pub returns-clause-text : goal.returns-clause-text
returns-clause-text c =
    let none = position_or_len_is is_dark c.args.bytes.now c.loop-i.i 0 (omega arith) c.loop-i.invariant (λ h. absurd (omega (arith, h))) in
    sym (drop_all (position_or_len is_dark c.args.bytes.now) c.args.bytes.now (omega (arith, none)))
