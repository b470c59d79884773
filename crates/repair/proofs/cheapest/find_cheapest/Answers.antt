use Rattle.std.proofs.lemmas.Grind.{elements}
use Rattle.std.proofs.Common.{◌≡◌, ◌∙◌, ◌+◌, sym, subst, FitsSigned, rules, arith}
use Rattle.std.specs.Int.{w128}
use Rattle.std.proofs.lemmas.Int.{to_z-of_z}
use Rattle.sdc_base.specs.Systems.{number_at}
use Rattle.repair.specs.HidingOrder.{breaks_at}
use Rattle.repair.proofs.Choosing.{IsBestBelow, breaks_read, best_stays, best_more}
use Rattle.repair.proofs.cheapest.find_cheapest.Goals as goal
use Rattle.repair.proofs.cheapest.find_cheapest.Goals.{then-is_breaking, else-is_breaking}

pub loop-number-preserved : goal.loop-number-preserved
loop-number-preserved c =
    let fits : FitsSigned w128 (number_at c.args.counts.now c.loop-number.number) = search rules in
    let told = simp to_z-of_z at c.is_breaking.ensures in
    let own : breaks_at c.args.cells.now c.args.flags.now (number_at c.args.counts.now) c.loop-number.number ≡ c.is_breaking.result =
    breaks_read c.args.cells.now c.args.flags.now (number_at c.args.counts.now) c.loop-number.number c.index-cells-number.result c.loop-number-test.true c.index-cells-number.is ∙ sym told in
    elim c.if-is_breaking.branch [
      | then-is_breaking w ↦
          subst (IsBestBelow c.args.cells.now c.args.prices.now c.args.flags.now (number_at c.args.counts.now) (c.loop-number.number + 1)) (sym (w.best-is ∙ w.take_cheaper-best.ensures))
          (best_more c.args.cells.now c.args.prices.now c.args.flags.now (number_at c.args.counts.now) c.loop-number.number c.loop-number.best (own ∙ w.if-is_breaking.true) c.loop-number.invariant)
      | else-is_breaking w ↦
          subst (IsBestBelow c.args.cells.now c.args.prices.now c.args.flags.now (number_at c.args.counts.now) (c.loop-number.number + 1)) (sym w.best-is)
          (best_stays c.args.cells.now c.args.prices.now c.args.flags.now (number_at c.args.counts.now) c.loop-number.number c.loop-number.best (own ∙ w.if-is_breaking.false) c.loop-number.invariant)
    ]

pub returns-clause-cheapest : goal.returns-clause-cheapest
returns-clause-cheapest c = grind (arith, elements)
