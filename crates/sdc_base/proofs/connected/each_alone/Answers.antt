use Rattle.std.proofs.Common.{ap, sym, ◌∙◌, ◌++◌, ◌∷◌, [], ℕ, List}
use Rattle.sdc_base.proofs.Connecting.{alone-more}
use Rattle.sdc_base.proofs.connected.each_alone.Goals as goal

pub cells-preserved : goal.cells-preserved
cells-preserved c = c.in_ok-push.ensures.items ∙ ap (λ (done : List ℕ). done ++ c.cells.cell ∷ []) c.cells.invariant ∙ sym (alone-more c.cells.cell)
