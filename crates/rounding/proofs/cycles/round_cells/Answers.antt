use Rattle.std.proofs.Common.{◌<◌, length, arith}
use Rattle.rounding.proofs.Circling.{whole_more}
use Rattle.rounding.proofs.cycles.round_cells.Goals as goal

pub cells-preserved : goal.cells-preserved
cells-preserved c =
    let inside : c.cells.cell < length c.cells.numbers = omega (arith, c.cells-test.true, c.requires.each, c.cells.auto.numbers, c.as_slice.ensures.len) in
    record {
      balanced = c.in_ok-round_cell.ensures.balanced;
      beside = c.in_ok-round_cell.ensures.beside;
      whole = whole_more c.args.task.now.base c.cells.numbers c.round_cell.new.numbers c.cells.cell inside c.in_ok-round_cell.ensures.multiples c.in_ok-round_cell.ensures.is_multiple c.cells.invariant.whole;
    }
