use Rattle.std.proofs.Common.{◌≡◌, ◌-◌, ◌++◌, filter}
use Rattle.std.specs.List.{range_with_len}
use Rattle.cell_listing.specs.Flags.{is_flagged}
use Rattle.cell_listing.proofs.hidden_cells.hidden_numbers.Given as goal

abbrev pub invariant-each : goal.invariant-each
invariant-each l = record {
  found : l.numbers ++ filter (is_flagged l.fn.cells) (range_with_len l.number (l.fn.count - l.number)) ≡ filter (is_flagged l.fn.cells) (range_with_len 0 l.fn.count);
}
