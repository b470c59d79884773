use Rattle.std.proofs.Common.{◌≡◌, map}
use Rattle.std.specs.List.{range_with_len}
use Rattle.sdc_base.specs.Cells.{code_for}
use Rattle.sdc_base.proofs.cells.name_at.Given as goal

abbrev pub invariant-variables : goal.invariant-variables
invariant-variables l = l.items.items ≡ map (code_for l.table l.place) (range_with_len 0 l.variable)
