use Rattle.std.proofs.Common.{◌≡◌, ℕ, ℤ, List, Bool, subst}
use Rattle.std.proofs.lemmas.Option.{IfSome_then}
use Rattle.sdc_base.specs.Systems.{number_at}
use Rattle.sdc_base.specs.declared.system.System.{System}
use Rattle.repair.specs.HidingOrder.{coefficients_for, IsCheapest}
use Rattle.repair.proofs.Choosing.{cheapest_same, none_same}
use Rattle.repair.proofs.cheapest.subject_of.Goals as goal

pub returns-clause-none : goal.returns-clause-none
returns-clause-none c =
    let told : (cell : ℕ) → number_at c.check_refutation.new.scratch cell ≡ coefficients_for c.args.task.now.system.now c.args.asked c.args.multipliers.now cell =
    subst (λ (own : System). (cell : ℕ) → number_at c.check_refutation.new.scratch cell ≡ coefficients_for own c.args.asked c.args.multipliers.now cell) c.system-system.ensures c.in-Ok.ensures.coefficients in
    none_same c.args.task.now.cells.now c.as_slice.result.now c.args.hidden.now.flags (number_at c.check_refutation.new.scratch)
    (coefficients_for c.args.task.now.system.now c.args.asked c.args.multipliers.now) c.find_cheapest.result c.as_slice.ensures told c.find_cheapest.ensures.none

pub returns-clause-cheapest : goal.returns-clause-cheapest
returns-clause-cheapest c =
    IfSome_then c.find_cheapest.result c.find_cheapest.ensures.cheapest
    (λ number is.
    let counts : ℕ → ℤ = coefficients_for c.args.task.now.system.now c.args.asked c.args.multipliers.now in
    let told : (cell : ℕ) → number_at c.check_refutation.new.scratch cell ≡ counts cell =
    subst (λ (own : System). (cell : ℕ) → number_at c.check_refutation.new.scratch cell ≡ coefficients_for own c.args.asked c.args.multipliers.now cell) c.system-system.ensures c.in-Ok.ensures.coefficients in
    subst (λ (flags : List Bool). IsCheapest c.args.task.now.cells.now c.args.task.now.prices.now flags counts number) c.as_slice.ensures
    (cheapest_same c.args.task.now.cells.now c.args.task.now.prices.now c.as_slice.result.now (number_at c.check_refutation.new.scratch) counts number told is))
