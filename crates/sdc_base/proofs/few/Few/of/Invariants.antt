use Rattle.std.proofs.Common.{◌≡◌, take}
use Rattle.sdc_base.proofs.few.Few.of.Given as goal

abbrev pub invariant-loop-item : goal.invariant-loop-item
invariant-loop-item g l = l.few.items ≡ take l.item-index l.items
