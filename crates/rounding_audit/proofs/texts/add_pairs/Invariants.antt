use Rattle.std.proofs.Common.{◌≡◌, ◌++◌, ◌∷◌, flat_map, take}
use Rattle.certificate.specs.Pieces.{space}
use Rattle.certificate.specs.Texts.{pair_token}
use Rattle.rounding_audit.proofs.texts.add_pairs.Given as goal

abbrev pub invariant-pairs : goal.invariant-pairs
invariant-pairs l = l.text ≡ l.fn.text ++ flat_map (λ pair. space ∷ pair_token pair) (take l.pair-index l.pairs)
