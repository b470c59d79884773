use Rattle.std.proofs.Common.{◌∙◌, ◌++◌, ◌∷◌, [], List, Bool, ap, sym, map, arith}
use Rattle.std.specs.List.{range_with_len}
use Rattle.std.proofs.lemmas.List.FromFn.{map-range_with_len_more}
use Rattle.attackers.specs.KnownCells.{is_hidden_or_known}
use Rattle.attackers.proofs.known.with_known.Goals as goal

pub cells-preserved : goal.cells-preserved
cells-preserved c =
    c.in_ok-push.ensures.items ∙ ap (λ (l : List Bool). l ++ c.is_hidden_or_known.result ∷ []) c.cells.invariant
    ∙ ap (λ b. map (is_hidden_or_known c.args.soles.now c.args.row c.args.flags.now) (range_with_len 0 c.cells.cell) ++ b ∷ []) c.is_hidden_or_known.ensures
    ∙ sym (map-range_with_len_more (is_hidden_or_known c.args.soles.now c.args.row c.args.flags.now) 0 c.cells.cell c.cells.cell (omega arith))
