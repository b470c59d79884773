use Rattle.std.proofs.Common.{◌≡◌, map, take}
use Rattle.microdata.proofs.codes.Codes.texts.Given as goal

abbrev pub invariant-codes : goal.invariant-codes
invariant-codes l = l.texts ≡ map (λ code. code.items) (take l.code-index l.code-items)
