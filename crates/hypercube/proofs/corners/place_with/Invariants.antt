use Rattle.std.proofs.Common.{◌≡◌, ◌++◌, take}
use Rattle.hypercube.proofs.corners.place_with.Given as goal

abbrev pub invariant-place : goal.invariant-place
invariant-place l = l.whole.items ≡ take l.code-index l.code-items

abbrev pub invariant-codes : goal.invariant-codes
invariant-codes l = l.whole.items ≡ l.place ++ take l.code-index l.codes
