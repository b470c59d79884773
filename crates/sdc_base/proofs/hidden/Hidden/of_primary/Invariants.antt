use Rattle.std.proofs.Common.{◌≡◌, take}
use Rattle.sdc_base.specs.HiddenSets.{primary_set}
use Rattle.sdc_base.proofs.hidden.Hidden.of_primary.Given as goal

abbrev pub invariant-loop-cell : goal.invariant-loop-cell
invariant-loop-cell l = l.flags ≡ primary_set (take l.cell-index l.cells)
