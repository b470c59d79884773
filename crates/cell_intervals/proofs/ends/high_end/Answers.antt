use Rattle.std.proofs.Common.{◌<◌, arith, length}
use Rattle.sdc_base.proofs.Connecting.{hidden-inside}
use Rattle.cell_intervals.proofs.Bounding.{high_answer}
use Rattle.cell_intervals.proofs.WholeIntervals.{high_whole_answer, open_whole}
use Rattle.cell_intervals.proofs.ends.high_end.Goals as goal

pub returns-clause-upper : goal.returns-clause-upper
returns-clause-upper c =
    let inside : c.args.cell < length c.args.cells.now = omega (arith, hidden-inside c.args.hidden.now.flags c.args.cell c.requires.hidden, c.requires.ground.each_cell, c.requires.ground.each_flag) in
    high_answer c.args.system.now c.args.cells.now c.args.hidden.now.flags c.args.cell c.index-cells-cell.result c.unsigned_abs-truth.result c.in-Some.far c.plus.result inside c.requires.truths c.unsigned_abs-truth.ensures.value c.plus.ensures.num c.plus.ensures.den c.in-Some.ensures.stops

pub returns-clause-whole : goal.returns-clause-whole
returns-clause-whole c = λ whole.
    let inside : c.args.cell < length c.args.cells.now = omega (arith, hidden-inside c.args.hidden.now.flags c.args.cell c.requires.hidden, c.requires.ground.each_cell, c.requires.ground.each_flag) in
    high_whole_answer c.args.system.now c.args.cells.now c.args.hidden.now.flags c.args.cell c.index-cells-cell.result c.unsigned_abs-truth.result c.in-Some.far c.plus.result inside c.requires.truths c.unsigned_abs-truth.ensures.value c.plus.ensures.num c.plus.ensures.den (c.in-Some.ensures.whole whole)

pub returns-in_default-clause-whole : goal.returns-in_default-clause-whole
returns-in_default-clause-whole c = λ whole known found. open_whole c.args.system.now c.args.cells.now c.args.hidden.now.flags c.args.cell known (c.in_default.ensures.whole_open whole)
