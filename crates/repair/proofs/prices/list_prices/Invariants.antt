use Rattle.std.proofs.Common.{◌≡◌, take}
use Rattle.repair.specs.HidingOrder.{prices_of}
use Rattle.repair.proofs.prices.list_prices.Given as goal

abbrev pub invariant-loop-number : goal.invariant-loop-number
invariant-loop-number g l = l.prices.items ≡ prices_of l.rule (take l.number l.cells) (take l.number l.marks)
