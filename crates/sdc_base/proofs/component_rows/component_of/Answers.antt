use Rattle.std.proofs.Common.{◌≤◌, length, arith}
use Rattle.sdc_base.proofs.PuttingRows.{none-next, none-stands}
use Rattle.sdc_base.proofs.component_rows.component_of.Goals as goal

pub parts-preserved : goal.parts-preserved
parts-preserved c = λ number.
    none-next c.args.of.now c.as_slice-part-items.result.now c.parts.part-index number c.component_at-number.result c.is_some-in-parts.result c.parts-test.true c.component_at-number.ensures c.is_some-in-parts.ensures c.if-is_some-2.false (c.parts.invariant number)

pub returns-clause-none : goal.returns-clause-none
returns-clause-none c = λ same number.
    let past : length c.as_slice-part-items.result.now ≤ c.parts.part-index = omega (arith, c.parts-test.false) in
    none-stands c.args.of.now c.args.relation.now c.as_slice-part-items.result.now c.parts.part-index number c.component_at-total.result c.is_some.result c.component_at-total.ensures c.is_some.ensures c.if-is_some.false c.as_slice-part-items.ensures past (c.parts.invariant number)
