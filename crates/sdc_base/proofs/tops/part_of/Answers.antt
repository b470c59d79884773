use Rattle.std.proofs.Common.{◌≡◌, min, pos, ap, ◌∙◌, FitsSigned, w64, arith, rules}
use Rattle.sdc_base.proofs.Products.{part_low, part_high, part_held}
use Rattle.sdc_base.proofs.tops.part_of.Goals as goal

pub returns-clause-low : goal.returns-clause-low
returns-clause-low c =
    let fits : FitsSigned w64 c.args.unit.value = search rules in
    let steps : c.min.result ≡ min c.args.unit.weight c.args.left = omega (arith, c.min.ensures, c.from.ensures) in
    rw (part_held (min c.args.unit.weight c.args.left) c.args.unit.value c.from-2.result c.from-3.result (c.from-2.ensures ∙ ap pos steps) c.from-3.ensures (omega arith) fits) (part_low (min c.args.unit.weight c.args.left) c.args.unit.value fits)

pub returns-clause-high : goal.returns-clause-high
returns-clause-high c =
    let fits : FitsSigned w64 c.args.unit.value = search rules in
    let steps : c.min.result ≡ min c.args.unit.weight c.args.left = omega (arith, c.min.ensures, c.from.ensures) in
    rw (part_held (min c.args.unit.weight c.args.left) c.args.unit.value c.from-2.result c.from-3.result (c.from-2.ensures ∙ ap pos steps) c.from-3.ensures (omega arith) fits) (part_high (min c.args.unit.weight c.args.left) c.args.unit.value fits)
