use Rattle.std.proofs.Common.{◌≡◌, take}
use Rattle.sdc_base.specs.Cells as cells
use Rattle.sdc_base.proofs.dimension.whole_table.Given as goal

abbrev pub invariant-variables : goal.invariant-variables
invariant-variables l = l.table.items ≡ cells.whole_table (take l.variable-index l.variables)
