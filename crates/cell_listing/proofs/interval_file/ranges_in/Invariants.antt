use Rattle.std.proofs.Common.{◌≡◌, ◌+◌, drop}
use Rattle.cell_listing.specs.IntervalFiles.{ranges_read}
use Rattle.cell_listing.proofs.IntervalLines.{on_with}
use Rattle.cell_listing.proofs.interval_file.ranges_in.Given as goal

abbrev pub invariant-cells : goal.invariant-cells
invariant-cells l = record {
  number : l.number ≡ l.cell-index + 2;
  read : on_with l.ranges (ranges_read (drop l.cell-index l.fn.hidden) l.rest l.number) ≡ ranges_read l.fn.hidden l.fn.lines 2;
}
