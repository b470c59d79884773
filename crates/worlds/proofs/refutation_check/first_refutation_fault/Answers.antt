use Rattle.std.proofs.Common.{◌≡◌, ◌∙◌, ◌<◌, ap, sym, length, not, ◌*ℤ◌, FitsSigned, arith, rules}
use Rattle.std.specs.Int.{w128}
use Rattle.std.proofs.lemmas.Int.{to_z-of_z}
use Rattle.std.proofs.lemmas.Result.{err_from_is_err_and}
use Rattle.sdc_base.specs.Steps.{refuse}
use Rattle.sdc_base.specs.Worlds.{level_at}
use Rattle.worlds.specs.declared.faults.RefutationFault.TheVariants as fault
use Rattle.worlds.specs.BoundedNumbers.{within_128_bits}
use Rattle.worlds.proofs.RefutationLaws.{level_read, fault_behind_product, fault_of_product}
use Rattle.worlds.proofs.refutation_check.first_refutation_fault.Goals as goal

pub returns-in_err-most-clause-exact : goal.returns-in_err-most-clause-exact
returns-in_err-most-clause-exact c =
    let sum : FitsSigned w128 c.in_ok-sum.sum = search rules in
    let den : FitsSigned w128 c.args.multipliers.now.den = search rules in
    let level : FitsSigned w128 c.level_of-level.result = search rules in
    let within : c.args.cell < length c.args.pattern.now.cells.now = omega (arith, c.args.pattern.now.one_each.each_cell, c.requires.asked) in
    let read : level_at c.args.pattern.now.cells.now c.args.side c.args.cell ≡ c.level_of-level.result = level_read c.args.pattern.now.cells.now c.args.side c.args.cell c.index-cells-cell.result within c.index-cells-cell.is ∙ sym c.level_of-level.ensures in
    let told = simp to_z-of_z at c.in_err-most.ensures in
    let p = err_from_is_err_and c.from_residual-in_err-most.result c.from_residual-in_err-most.ensures.1 in
    rw (p.1, p.2) (sym (fault_of_product c.args.pattern.now.system.now c.args.pattern.now.cells.now c.args.pattern.now.hidden.now.flags c.args.cell c.args.side c.args.multipliers.now c.in_ok-sum.sum c.in_err-most.field-0.0 (sym c.in_ok-sum.ensures.exact) (ap (λ l. within_128_bits c.args.cell (c.args.multipliers.now.den *ℤ l)) read ∙ sym told)))

pub returns-then-sum-most-clause-exact : goal.returns-then-sum-most-clause-exact
returns-then-sum-most-clause-exact c =
    let sum : FitsSigned w128 c.in_ok-sum.sum = search rules in
    let den : FitsSigned w128 c.args.multipliers.now.den = search rules in
    let level : FitsSigned w128 c.level_of-level.result = search rules in
    let within : c.args.cell < length c.args.pattern.now.cells.now = omega (arith, c.args.pattern.now.one_each.each_cell, c.requires.asked) in
    let read : level_at c.args.pattern.now.cells.now c.args.side c.args.cell ≡ c.level_of-level.result = level_read c.args.pattern.now.cells.now c.args.side c.args.cell c.index-cells-cell.result within c.index-cells-cell.is ∙ sym c.level_of-level.ensures in
    let most : FitsSigned w128 c.in_ok-most.most = search rules in
    let told = simp to_z-of_z at c.in_ok-most.ensures in
    let test = simp to_z-of_z at c.if-sum-most.true in
    sym (fault_behind_product c.args.pattern.now.system.now c.args.pattern.now.cells.now c.args.pattern.now.hidden.now.flags c.args.cell c.args.side c.args.multipliers.now c.in_ok-sum.sum c.in_ok-most.most (sym c.in_ok-sum.ensures.exact) (ap (λ l. within_128_bits c.args.cell (c.args.multipliers.now.den *ℤ l)) read ∙ sym told)
    ∙ ap (λ b. refuse fault.NotBelow (not b)) test)

pub returns-else-sum-most-clause-exact : goal.returns-else-sum-most-clause-exact
returns-else-sum-most-clause-exact c =
    let sum : FitsSigned w128 c.in_ok-sum.sum = search rules in
    let den : FitsSigned w128 c.args.multipliers.now.den = search rules in
    let level : FitsSigned w128 c.level_of-level.result = search rules in
    let within : c.args.cell < length c.args.pattern.now.cells.now = omega (arith, c.args.pattern.now.one_each.each_cell, c.requires.asked) in
    let read : level_at c.args.pattern.now.cells.now c.args.side c.args.cell ≡ c.level_of-level.result = level_read c.args.pattern.now.cells.now c.args.side c.args.cell c.index-cells-cell.result within c.index-cells-cell.is ∙ sym c.level_of-level.ensures in
    let most : FitsSigned w128 c.in_ok-most.most = search rules in
    let told = simp to_z-of_z at c.in_ok-most.ensures in
    let test = simp to_z-of_z at c.if-sum-most.false in
    sym (fault_behind_product c.args.pattern.now.system.now c.args.pattern.now.cells.now c.args.pattern.now.hidden.now.flags c.args.cell c.args.side c.args.multipliers.now c.in_ok-sum.sum c.in_ok-most.most (sym c.in_ok-sum.ensures.exact) (ap (λ l. within_128_bits c.args.cell (c.args.multipliers.now.den *ℤ l)) read ∙ sym told)
    ∙ ap (λ b. refuse fault.NotBelow (not b)) test)
