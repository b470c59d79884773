use Rattle.std.proofs.Common.{◌≡◌, ◌-◌, ◌++◌, filter}
use Rattle.std.specs.List.{range_with_len}
use Rattle.sdc_base.specs.HiddenSets.{is_hidden}
use Rattle.cell_protection.specs.Certifying.{hidden_numbers}
use Rattle.cell_protection.proofs.certifying.hidden_cells.Given as goal

abbrev pub invariant-cells : goal.invariant-cells
invariant-cells l = record {
  found : l.numbers ++ filter (is_hidden l.fn.flags) (range_with_len l.cell (l.fn.count - l.cell)) ≡ hidden_numbers l.fn.count l.fn.flags;
}
