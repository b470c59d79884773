-- Where a release rounds, there is an amount of each cell.
use Rattle.std.proofs.Common.{◌<◌, ℕ, length, arith}
use Rattle.linked_tables.specs.BookCells.{cells as cells_in}
use Rattle.job_check.specs.declared.reading.ReadRelease.{ReadRelease}
use Rattle.cell_listing.specs.ReleasedCells.{AreReleasedIn, HasAmount}
use Rattle.cell_listing.specs.declared.released_cells.ReleasedCells.{ReleasedCells}
use Rattle.cell_listing.specs.declared.released_cells.ReleasedCells.TheVariants as cells

pub has_amount : (read : ReadRelease) (made : ReleasedCells) (number : ℕ) → AreReleasedIn read made → number < length (cells_in read.job.book) → HasAmount made number
has_amount read (cells.Suppressed flags) number are within = tt
has_amount read (cells.Rounded amounts) number are within = omega (arith, within, are.1.one_each)
