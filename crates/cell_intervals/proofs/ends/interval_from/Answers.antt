use Rattle.std.proofs.Common.{◌<◌, arith, length}
use Rattle.sdc_base.proofs.Connecting.{hidden-inside}
use Rattle.cell_intervals.specs.Intervals.{IsIntervalOf}
use Rattle.cell_intervals.specs.declared.interval.CellInterval.{CellInterval}
use Rattle.cell_intervals.proofs.Bounding.{interval_is}
use Rattle.cell_intervals.proofs.ends.interval_from.Goals as goal

pub returns-clause-interval : goal.returns-clause-interval
returns-clause-interval c =
    let inside : c.args.cell < length c.args.cells.now = omega (arith, hidden-inside c.args.hidden.now.flags c.args.cell c.requires.hidden, c.requires.ground.each_cell, c.requires.ground.each_flag) in
    interval_is c.args.system.now c.args.cells.now c.args.hidden.now.flags (record { cell = c.args.cell; low = c.low_end-low.result; high = c.high_end-high.result }) inside c.low_end-low.ensures.least c.high_end-high.ensures.upper

pub returns-clause-whole : goal.returns-clause-whole
returns-clause-whole c = λ below above.
    let own : CellInterval = record { cell = c.args.cell; low = c.low_end-low.result; high = c.high_end-high.result } in
    let is : IsIntervalOf c.args.system.now c.args.cells.now c.args.hidden.now.flags own = returns-clause-interval c in
    record { cell = is.cell; known = is.known; low = c.low_end-low.ensures.whole below is.cell is.known; high = c.high_end-high.ensures.whole above is.cell is.known }
