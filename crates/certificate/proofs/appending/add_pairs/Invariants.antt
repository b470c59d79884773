use Rattle.std.proofs.Common.{◌≡◌, ◌++◌, ◌∷◌, take, flat_map}
use Rattle.std.specs.List.{AllByRecursion}
use Rattle.certificate.specs.Spelling.{IsTermWithinTypes}
use Rattle.certificate.specs.Pieces.{space}
use Rattle.certificate.specs.Texts.{pair_token}
use Rattle.certificate.proofs.appending.add_pairs.Given as goal

abbrev pub invariant-loop-pair : goal.invariant-loop-pair
invariant-loop-pair l = record {
  text : l.text ≡ l.fn.text ++ flat_map (λ pair. space ∷ pair_token pair) (take l.pair-index l.pairs);
  wide : AllByRecursion IsTermWithinTypes (take l.pair-index l.pairs);
}
