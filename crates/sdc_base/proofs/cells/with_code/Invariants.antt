use Rattle.std.proofs.Common.{◌≡◌, take}
use Rattle.sdc_base.proofs.cells.with_code.Given as goal

abbrev pub invariant-codes : goal.invariant-codes
invariant-codes l = l.longer.items ≡ take l.next-index l.place
