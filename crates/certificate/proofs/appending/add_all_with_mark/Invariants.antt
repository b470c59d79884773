use Rattle.std.proofs.Common.{◌≡◌, ◌++◌, ◌∷◌, take, flat_map, decimal}
use Rattle.certificate.proofs.appending.add_all_with_mark.Given as goal

abbrev pub invariant-loop-number : goal.invariant-loop-number
invariant-loop-number l = l.text ≡ l.fn.text ++ flat_map (λ number. l.mark ∷ decimal number) (take l.number-index l.numbers)
