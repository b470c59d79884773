use Rattle.std.proofs.Common.{◌<◌, arith, length}
use Rattle.sdc_base.proofs.Connecting.{hidden-inside}
use Rattle.cell_intervals.proofs.Bounding.{low_answer, never_answer, part_answer}
use Rattle.cell_intervals.proofs.WholeIntervals.{low_whole_answer}
use Rattle.cell_intervals.proofs.ends.low_end.Goals as goal

pub unreachable-requires : goal.unreachable-requires
unreachable-requires c =
    let inside : c.args.cell < length c.args.cells.now = omega (arith, hidden-inside c.args.hidden.now.flags c.args.cell c.requires.hidden, c.requires.ground.each_cell, c.requires.ground.each_flag) in
    never_answer c.args.system.now c.args.cells.now c.args.hidden.now.flags c.args.cell c.index-cells-cell.result inside c.requires.truths c.in_default.ensures.reaches

pub minus-requires-clause-within : goal.minus-requires-clause-within
minus-requires-clause-within c =
    let inside : c.args.cell < length c.args.cells.now = omega (arith, hidden-inside c.args.hidden.now.flags c.args.cell c.requires.hidden, c.requires.ground.each_cell, c.requires.ground.each_flag) in
    part_answer c.args.system.now c.args.cells.now c.args.hidden.now.flags c.args.cell c.index-cells-cell.result c.unsigned_abs-truth.result c.in-Some.far inside c.requires.truths c.unsigned_abs-truth.ensures.value c.in-Some.ensures.stops

pub returns-clause-least : goal.returns-clause-least
returns-clause-least c =
    let inside : c.args.cell < length c.args.cells.now = omega (arith, hidden-inside c.args.hidden.now.flags c.args.cell c.requires.hidden, c.requires.ground.each_cell, c.requires.ground.each_flag) in
    low_answer c.args.system.now c.args.cells.now c.args.hidden.now.flags c.args.cell c.index-cells-cell.result c.unsigned_abs-truth.result c.in-Some.far c.minus.result inside c.requires.truths c.unsigned_abs-truth.ensures.value c.minus.ensures.num c.minus.ensures.den c.in-Some.ensures.stops

pub returns-clause-whole : goal.returns-clause-whole
returns-clause-whole c = λ whole.
    let inside : c.args.cell < length c.args.cells.now = omega (arith, hidden-inside c.args.hidden.now.flags c.args.cell c.requires.hidden, c.requires.ground.each_cell, c.requires.ground.each_flag) in
    low_whole_answer c.args.system.now c.args.cells.now c.args.hidden.now.flags c.args.cell c.index-cells-cell.result c.unsigned_abs-truth.result c.in-Some.far c.minus.result inside c.requires.truths c.unsigned_abs-truth.ensures.value c.minus.ensures.num c.minus.ensures.den c.in-Some.ensures.stops (c.in-Some.ensures.whole whole)
