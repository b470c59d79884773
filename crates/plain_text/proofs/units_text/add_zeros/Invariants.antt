use Rattle.std.proofs.Common.{◌≡◌, ◌++◌, replicate}
use Rattle.plain_text.proofs.units_text.add_zeros.Given as goal

abbrev pub invariant-zeros : goal.invariant-zeros
invariant-zeros l = l.text.items ≡ l.fn.text.items ++ replicate l.counter 48
