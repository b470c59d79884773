use Rattle.std.proofs.Common.{sym, ◌∙◌, append-nil, ap, ◌++◌, replicate}
use Rattle.std.specs.Str.Parse.{digits_value}
use Rattle.plain_text.proofs.Numbers.{wide-front, wide-back, wide-zeros, two-parts, one-zero}
use Rattle.plain_text.proofs.units.value_of.Goals as goal

pub returns-in_err-whole-clause-value : goal.returns-in_err-whole-clause-value
returns-in_err-whole-clause-value c = c.from_residual.ensures ∙ sym (wide-front c.args.front.now c.args.back.now (replicate c.args.zeros 48) c.in_err-whole.ensures.value)

pub returns-in_err-value-clause-value : goal.returns-in_err-value-clause-value
returns-in_err-value-clause-value c =
    c.from_residual-in_err-value.ensures
    ∙ sym (wide-back c.args.front.now c.args.back.now (replicate c.args.zeros 48) c.in_ok-whole.whole c.in_ok-whole.ensures.value c.in_err-value.ensures.value)

pub zeros-init : goal.zeros-init
zeros-init c = record {
  value = two-parts c.args.front.now c.args.back.now c.in_ok-whole.whole c.in_ok-value.value c.in_ok-whole.ensures.value c.in_ok-value.ensures.value ∙ ap (digits_value 10) (sym (append-nil (c.args.front.now ++ c.args.back.now)));
  narrow = c.in_ok-value.ensures.within;
}

pub returns-in_err-value-2-clause-value : goal.returns-in_err-value-2-clause-value
returns-in_err-value-2-clause-value c =
    c.from_residual-in_err-value-2.ensures
    ∙ sym (wide-zeros (c.args.front.now ++ c.args.back.now) c.zeros.counter c.args.zeros c.zeros.value c.zeros-test.true c.zeros.invariant.value c.in_err-value-2.ensures.value)

pub zeros-preserved : goal.zeros-preserved
zeros-preserved c = record {
  value = one-zero (c.args.front.now ++ c.args.back.now) c.zeros.counter c.zeros.value c.in_ok-value-2.value c.zeros.invariant.value c.in_ok-value-2.ensures.value;
  narrow = c.in_ok-value-2.ensures.within;
}
