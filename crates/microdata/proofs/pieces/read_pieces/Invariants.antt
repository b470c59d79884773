use Rattle.std.proofs.Common.{take, flat_map}
use Rattle.microdata.specs.Feeding.{HasRead}
use Rattle.microdata.proofs.pieces.read_pieces.Given as goal

abbrev pub invariant-pieces : goal.invariant-pieces
invariant-pieces l = HasRead l.reader l.fn.layout (flat_map (λ piece. piece) (take l.piece-index l.pieces))
