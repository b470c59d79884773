use Rattle.std.proofs.Common.{◌≡◌, ◌++◌, take}
use Rattle.rounding_audit.proofs.texts.add.Given as goal

abbrev pub invariant-loop-b : goal.invariant-loop-b
invariant-loop-b l = l.text ≡ l.fn.text ++ take l.b-index l.bytes
