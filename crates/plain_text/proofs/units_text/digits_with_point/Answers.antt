use Rattle.std.proofs.Common.{arith}
use Rattle.std.proofs.Math.Nat.{one-le-pow}
use Rattle.plain_text.proofs.units_text.digits_with_point.Goals as goal

pub nonzero_div-value : goal.nonzero_div-value
nonzero_div-value c = omega (arith, c.pow-unit.ensures, one-le-pow c.from.result 10 (omega arith))

pub nonzero_rem-value : goal.nonzero_rem-value
nonzero_rem-value c = omega (arith, c.pow-unit.ensures, one-le-pow c.from.result 10 (omega arith))
