use Rattle.std.proofs.Common.{arith, sym, ap, ◌∙◌, drop, rules, ◌==◌}
use Rattle.std.specs.Prelude.{not}
use Rattle.std.proofs.lemmas.List.{take_rest, drop_all}
use Rattle.std.proofs.lemmas.List.Sums.{position_or_len_is}
use Rattle.std.specs.List.{position_or_len}
use Rattle.job_lang.proofs.cursor.without_zeros.Goals as goal

pub returns-then-b-ne48 : goal.returns-then-b-ne48
returns-then-b-ne48 c =
    let first = position_or_len_is (λ b. not (b == 48)) c.args.digits.now c.loop-i.i 0 (omega arith) c.loop-i.invariant (λ _. search rules) in
    take_rest c.args.digits.now c.loop-i.i ∙ ap (λ i. drop i c.args.digits.now) (sym first)

pub returns : goal.returns
returns c =
    let none = position_or_len_is (λ b. not (b == 48)) c.args.digits.now c.loop-i.i 0 (omega arith) c.loop-i.invariant (λ h. absurd (omega (arith, h))) in
    sym (drop_all (position_or_len (λ b. not (b == 48)) c.args.digits.now) c.args.digits.now (omega (arith, none)))
