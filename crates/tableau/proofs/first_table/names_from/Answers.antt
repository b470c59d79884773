use Rattle.std.proofs.Common.{◌+◌, ◌∷◌, [], ◌++◌, ap, sym, ◌∙◌}
use Rattle.tableau.proofs.FirstNumbers.{range_more}
use Rattle.tableau.proofs.first_table.names_from.Goals as goal

pub loop-k-preserved : goal.loop-k-preserved
loop-k-preserved c =
    c.in_ok-push.ensures.items ∙ ap (λ t. t ++ (c.args.from + c.loop-k.k) ∷ []) c.loop-k.invariant ∙ sym (range_more c.args.from c.loop-k.k)
