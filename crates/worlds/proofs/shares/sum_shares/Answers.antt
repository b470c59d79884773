use Rattle.std.proofs.Common.{◌∙◌, sym, FitsSigned, to_z, rules}
use Rattle.std.specs.Int.{w128}
use Rattle.std.proofs.lemmas.Int.{to_z-of_z}
use Rattle.std.proofs.lemmas.Result.{err_from_is_err_and}
use Rattle.sdc_base.specs.Systems.{number_at}
use Rattle.worlds.proofs.ShareSteps.{sum_step, share_stop, sum_stop}
use Rattle.worlds.proofs.shares.sum_shares.Goals as goal

pub loop-number-preserved : goal.loop-number-preserved
loop-number-preserved c =
    let part : FitsSigned w128 c.in_ok-part.part = search rules in
    let next : FitsSigned w128 c.in_ok-sum.sum = search rules in
    let told = simp to_z-of_z at c.in_ok-sum.ensures in
    let own = c.loop-number.invariant
    ∙ sum_step c.args.flags.now (number_at c.args.coefficients.now) c.loop-number.number (to_z w128 c.loop-number.sum-bits) c.args.cells.now c.index-cells-number.result c.in_ok-part.part c.in_ok-sum.sum c.loop-number-test.true c.index-cells-number.is (sym c.in_ok-part.ensures) (sym told) in
    simp to_z-of_z own

pub returns-in_err-part : goal.returns-in_err-part
returns-in_err-part c =
    let p = err_from_is_err_and c.from_residual.result c.from_residual.ensures.1 in
    rw (p.1, p.2) (sym (c.loop-number.invariant
    ∙ share_stop c.args.flags.now (number_at c.args.coefficients.now) c.loop-number.number (to_z w128 c.loop-number.sum-bits) c.args.cells.now c.index-cells-number.result c.in_err-part.field-0.0 c.loop-number-test.true c.index-cells-number.is (sym c.in_err-part.ensures)))

pub returns-in_err-sum : goal.returns-in_err-sum
returns-in_err-sum c =
    let part : FitsSigned w128 c.in_ok-part.part = search rules in
    let told = simp to_z-of_z at c.in_err-sum.ensures in
    let p = err_from_is_err_and c.from_residual-in_err-sum.result c.from_residual-in_err-sum.ensures.1 in
    rw (p.1, p.2) (sym (c.loop-number.invariant
    ∙ sum_stop c.args.flags.now (number_at c.args.coefficients.now) c.loop-number.number (to_z w128 c.loop-number.sum-bits) c.args.cells.now c.index-cells-number.result c.in_ok-part.part c.in_err-sum.field-0.0 c.loop-number-test.true c.index-cells-number.is (sym c.in_ok-part.ensures) (sym told)))
