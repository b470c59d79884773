use Rattle.std.proofs.Common.{arith, refl, ◌∙◌, ◌≤◌, ◌+◌}
use Rattle.linked_tables.specs.BookCells.{first_own}
use Rattle.linked_tables.proofs.CellLists.{starts-rise}
use Rattle.linked_tables.proofs.lent.Lent.own.Goals as goal

pub part_mut-requires-clause-order : goal.part_mut-requires-clause-order
part_mut-requires-clause-order c =
    let book = c.args.self.now.book.now in
    let n = c.args.self.now.number in
    let rise : first_own book n ≤ first_own book (n + 1) = starts-rise book.trees book.tables n in
    omega (arith, rise, c.start_of-from.ensures.start, c.start_of-to.ensures.start)

pub returns : goal.returns
returns c = rw c.start_of-from.ensures.start ((refl, λ w. refl), record { writes_back = tt; marks = c.part_mut.ensures.marks ∙ rw (c.start_of-from.ensures.start, c.start_of-to.ensures.start) refl })
