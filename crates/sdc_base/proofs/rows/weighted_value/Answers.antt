use Rattle.std.proofs.Common.{FitsSigned, w64, arith, rules}
use Rattle.sdc_base.proofs.Products.{held_low, held_high}
use Rattle.sdc_base.proofs.rows.weighted_value.Goals as goal

pub returns-clause-low : goal.returns-clause-low
returns-clause-low c =
    let fits : FitsSigned w64 c.args.row.now.value = search rules in
    held_low c.args.row.now.weight c.args.row.now.value c.from.result c.from-2.result c.from.ensures c.from-2.ensures (omega arith) fits

pub returns-clause-high : goal.returns-clause-high
returns-clause-high c =
    let fits : FitsSigned w64 c.args.row.now.value = search rules in
    held_high c.args.row.now.weight c.args.row.now.value c.from.result c.from-2.result c.from.ensures c.from-2.ensures (omega arith) fits
