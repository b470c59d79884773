use Rattle.std.proofs.Common.{◌≡◌, ◌<◌, ◌∙◌, ℕ, ℤ, List, Bool, length, ap, sym, subst, arith}
use Rattle.std.proofs.lemmas.List.{with_items_is}
use Rattle.std.proofs.lemmas.Option.{IfSome_then, slice_get_within}
use Rattle.sdc_base.specs.Patterns.{IsPattern}
use Rattle.sdc_base.specs.Systems.{number_at}
use Rattle.sdc_base.specs.declared.system.System.{System}
use Rattle.repair.specs.HidingOrder.{coefficients_for, IsCheapest}
use Rattle.repair.proofs.Choosing.{cheapest_same, none_same}
use Rattle.attackers.specs.KnownCells.{with_known, target_of}
use Rattle.attackers.proofs.AskedCells.{attack_says}
use Rattle.attackers.proofs.Knowing.{length-without, length-with}
use Rattle.attackers.proofs.asking.subject_against.Goals as goal

pub check_refutation-requires-clause-ground : goal.check_refutation-requires-clause-ground
check_refutation-requires-clause-ground c =
    subst (λ (own : System). IsPattern own c.args.task.now.cells.now c.in_ok-left.left.flags) (sym c.system.ensures) (record {
      each_cell = c.args.task.now.fits.one_each;
      each_flag = ap (λ (l : List Bool). length l) c.in_ok-left.ensures ∙ length-without c.args.task.now.soles.now c.args.attack.row c.args.flags.now ∙ c.requires.each;
    })

pub check_refutation-requires-clause-asked : goal.check_refutation-requires-clause-asked
check_refutation-requires-clause-asked c =
    let says = attack_says c.args.task.now.cells.now c.args.task.now.soles.now c.args.attack c.requires.is_attack in
    subst (λ (own : System). c.args.attack.cell < own.cells) (sym c.system.ensures) (omega (arith, c.args.task.now.fits.one_each, slice_get_within c.args.task.now.cells.now c.args.attack.cell says.primary.cell says.primary.found))

pub find_cheapest-requires-clause-flags : goal.find_cheapest-requires-clause-flags
find_cheapest-requires-clause-flags c =
    let long : length c.as_slice.result.now ≡ length c.args.flags.now = ap (λ (l : List Bool). length l) (c.as_slice.ensures ∙ c.in_ok-closed.ensures) ∙ length-with c.args.task.now.soles.now c.args.attack.row c.args.flags.now in
    omega (arith, long, c.requires.each, c.args.task.now.fits.one_each)

pub returns-clause-none : goal.returns-clause-none
returns-clause-none c =
    let same : c.deref.result.now ≡ c.check_refutation.new.scratch = c.deref.ensures.value ∙ with_items_is c.in_ok-counts.counts c.check_refutation.new.scratch (omega (arith, c.check_refutation.ensures.length, c.deref_mut.ensures.len)) in
    let told : (cell : ℕ) → number_at c.deref.result.now cell ≡ coefficients_for c.args.task.now.system.now (target_of c.args.attack) c.args.multipliers.now cell =
    subst (λ (counts : List ℤ). (cell : ℕ) → number_at counts cell ≡ coefficients_for c.args.task.now.system.now (target_of c.args.attack) c.args.multipliers.now cell) (sym same)
    (subst (λ (own : System). (cell : ℕ) → number_at c.check_refutation.new.scratch cell ≡ coefficients_for own (target_of c.args.attack) c.args.multipliers.now cell) c.system.ensures c.in-Ok.ensures.coefficients) in
    none_same c.args.task.now.cells.now c.as_slice.result.now (with_known c.args.task.now.soles.now c.args.attack.row c.args.flags.now) (number_at c.deref.result.now)
    (coefficients_for c.args.task.now.system.now (target_of c.args.attack) c.args.multipliers.now) c.find_cheapest.result (c.as_slice.ensures ∙ c.in_ok-closed.ensures) told c.find_cheapest.ensures.none

pub returns-clause-cheapest : goal.returns-clause-cheapest
returns-clause-cheapest c =
    let same : c.deref.result.now ≡ c.check_refutation.new.scratch = c.deref.ensures.value ∙ with_items_is c.in_ok-counts.counts c.check_refutation.new.scratch (omega (arith, c.check_refutation.ensures.length, c.deref_mut.ensures.len)) in
    IfSome_then c.find_cheapest.result c.find_cheapest.ensures.cheapest
    (λ number is.
    let counts : ℕ → ℤ = coefficients_for c.args.task.now.system.now (target_of c.args.attack) c.args.multipliers.now in
    let told : (cell : ℕ) → number_at c.deref.result.now cell ≡ counts cell =
    subst (λ (all : List ℤ). (cell : ℕ) → number_at all cell ≡ counts cell) (sym same)
    (subst (λ (own : System). (cell : ℕ) → number_at c.check_refutation.new.scratch cell ≡ coefficients_for own (target_of c.args.attack) c.args.multipliers.now cell) c.system.ensures c.in-Ok.ensures.coefficients) in
    subst (λ (flags : List Bool). IsCheapest c.args.task.now.cells.now c.args.task.now.prices.now flags counts number) (c.as_slice.ensures ∙ c.in_ok-closed.ensures)
    (cheapest_same c.args.task.now.cells.now c.args.task.now.prices.now c.as_slice.result.now (number_at c.deref.result.now) counts number told is))
