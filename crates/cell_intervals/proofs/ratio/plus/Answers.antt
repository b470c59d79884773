use Rattle.cell_intervals.proofs.Divisors.{plus_is_lowest}
use Rattle.cell_intervals.proofs.ratio.plus.Goals as goal

pub invariant_of-result : goal.invariant_of-result
invariant_of-result c = record { positive = c.args.part.positive; lowest = plus_is_lowest c.args.whole c.args.part.num c.args.part.den c.args.part.lowest }
