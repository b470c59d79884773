use Rattle.std.proofs.Common.{arith, rules}
use Rattle.plain_text.proofs.Digits.{too_much}
use Rattle.plain_text.proofs.wide_numbers.wide_number_in.Goals as goal

pub returns-then-value-high-clause-value : goal.returns-then-value-high-clause-value
returns-then-value-high-clause-value c =
    too_much c.args.low c.args.high c.args.digits.now c.digits.b-index c.digits.value (omega arith) (search rules) c.digits.invariant.value (omega arith)

pub returns-then-value-high-2-clause-value : goal.returns-then-value-high-2-clause-value
returns-then-value-high-2-clause-value c =
    too_much c.args.low c.args.high c.args.digits.now c.digits.b-index c.digits.value (omega arith) (search rules) c.digits.invariant.value (omega arith)
