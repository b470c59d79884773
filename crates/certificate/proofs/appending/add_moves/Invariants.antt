use Rattle.std.proofs.Common.{◌≡◌, ◌++◌, ◌∷◌, take, flat_map}
use Rattle.std.specs.List.{AllByRecursion}
use Rattle.certificate.specs.Spelling.{IsMoveWithinTypes}
use Rattle.certificate.specs.Pieces.{space}
use Rattle.certificate.specs.Texts.{move_token}
use Rattle.certificate.proofs.appending.add_moves.Given as goal

abbrev pub invariant-loop-one : goal.invariant-loop-one
invariant-loop-one l = record {
  text : l.text ≡ l.fn.text ++ flat_map (λ one. space ∷ move_token one) (take l.one-index l.moves);
  wide : AllByRecursion IsMoveWithinTypes (take l.one-index l.moves);
}
