use Rattle.std.proofs.Common.{◌≡◌, ℕ, ◌-◌, subst, arith}
use Rattle.tabulate.specs.UpperCells.{PassedRecords, after_cells}
use Rattle.tabulate.proofs.PassSteps.{cells-next, even-kept, passed-none}
use Rattle.tabulate.proofs.folding.fold_variable.Goals as goal

pub cells-init : goal.cells-init
cells-init c = passed-none c.args.book.now

pub fold_cell-requires : goal.fold_cell-requires
fold_cell-requires c = record { even = even-kept c.args.book.now.marks c.cells.book.marks c.cells.invariant.kept c.requires.even }

pub cells-preserved : goal.cells-preserved
cells-preserved c = cells-next c.args.book.now c.cells.book c.fold_cell.new.book c.args.variable c.args.first c.args.past c.cells.done c.cells.invariant c.fold_cell.ensures

pub returns : goal.returns
returns c =
    let whole : c.cells.done ≡ c.args.past - c.args.first = omega arith in
    subst (λ (n : ℕ). PassedRecords c.args.book.now c.cells.book (after_cells c.args.book.now c.args.variable c.args.first c.args.past n)) whole c.cells.invariant
