use Rattle.std.proofs.Common.{◌<◌, length, arith, sym, subst}
use Rattle.rounding.specs.Namings.{IsNaming}
use Rattle.rounding.specs.Fixes.{FixedCells}
use Rattle.rounding.proofs.ForceSteps.{forced_then, grown_long, ready_on}
use Rattle.rounding.proofs.forcing.propagate.Goals as goal

pub returns-then-not-all-clause-forced : goal.returns-then-not-all-clause-forced
returns-then-not-all-clause-forced c = forced_then c.args.bounds.now c.fixes.bounds c.settle_each.new.bounds c.fixes.invariant.forced c.in_ok-all.ensures.forced

pub fixes-preserved : goal.fixes-preserved
fixes-preserved c =
    let before = c.fixes.bounds in
    let after = c.settle_each.new.bounds in
    let naming = c.args.naming.now in
    let forced = c.in_ok-all.ensures.forced in
    let inside : c.fixes.next < length before.fixes = omega (arith, c.fixes-test.true, c.fix_count.ensures.value) in
    let is : IsNaming before.system naming = subst (λ (a : FixedCells). IsNaming a.system naming) (sym c.fixes.invariant.forced.grown) c.requires.naming in
    record {
      forced = forced_then c.args.bounds.now before after c.fixes.invariant.forced forced;
      within = omega (arith, inside, grown_long before after forced);
      ready = ready_on before after naming c.fixes.next c.fixed_cell-cell.result c.index-naming-cell.result c.as_slice.result.now forced is inside c.fixed_cell-cell.ensures.cell c.fixed_cell-cell.ensures.inside c.index-naming-cell.is c.as_slice.ensures
          c.fixes.invariant.ready (c.in_ok-all.ensures.hold c.if-not-all.false);
    }
