use Rattle.std.proofs.Common.{◌≡◌, ◌++◌, ◌∷◌, flat_map, take}
use Rattle.certificate.specs.Pieces.{space}
use Rattle.rounding_audit.specs.AuditTexts.{move_token}
use Rattle.rounding_audit.proofs.texts.add_moves.Given as goal

abbrev pub invariant-moves : goal.invariant-moves
invariant-moves l = l.text ≡ l.fn.text ++ flat_map (λ one. space ∷ move_token one) (take l.one-index l.moves)
