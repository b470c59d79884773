use Rattle.std.proofs.Common.{ℕ, subst}
use Rattle.cell_listing.specs.Flags.{AreHiddenCells}
use Rattle.cell_listing.proofs.released_cells.suppressed_cells.Goals as goal

pub returns : goal.returns
returns c =
    let read = c.args.read.now in
    (c.requires, subst (λ (n : ℕ). AreHiddenCells read.certificate read.extra n c.in_ok-flags.flags) c.cells-count.ensures.cells c.in_ok-flags.ensures)
