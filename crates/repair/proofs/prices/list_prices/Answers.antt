use Rattle.repair.proofs.PricedCells.{prices_pushed}
use Rattle.repair.proofs.prices.list_prices.Goals as goal

pub loop-number-preserved : goal.loop-number-preserved
loop-number-preserved g c =
    prices_pushed c.args.rule.now c.args.cells.now c.args.marks.now c.loop-number.number c.index-cells-number.result c.index-marks-number.result c.loop-number.prices.items c.push.new.self.items c.price.result c.loop-number-test.true c.requires.one_each c.index-cells-number.is c.loop-number.invariant c.price.ensures.value c.in_ok-push.ensures.items
