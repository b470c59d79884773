use Rattle.cell_intervals.proofs.Divisors.{lower_is_least, lower_is_lowest, lower_is_same, lower_positive}
use Rattle.cell_intervals.proofs.ratio.lowest_terms_of.Goals as goal

pub invariant_of-result : goal.invariant_of-result
invariant_of-result c = record {
  positive = lower_positive c.args.num c.args.den c.gcd-by.result c.requires c.gcd-by.ensures.greatest;
  lowest = lower_is_lowest c.args.num c.args.den c.gcd-by.result c.requires c.gcd-by.ensures.greatest;
}

pub returns-clause-same : goal.returns-clause-same
returns-clause-same c = lower_is_same c.args.num c.args.den c.gcd-by.result c.requires c.gcd-by.ensures.greatest

pub returns-clause-least : goal.returns-clause-least
returns-clause-least c = λ times divides. lower_is_least c.args.num c.args.den c.gcd-by.result times c.requires c.gcd-by.ensures.greatest c.gcd-by.ensures.multiples divides
