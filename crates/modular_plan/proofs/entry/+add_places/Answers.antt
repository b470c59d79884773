use Rattle.std.proofs.Common.{◌++◌, ◌∷◌, [], ℕ, List, slice_index_or, ap, ◌∙◌}
use Rattle.modular_plan.proofs.PlaceLists.{found-next}
use Rattle.modular_plan.proofs.entry.+add_places.Goals as goal

pub codes-preserved : goal.codes-preserved
codes-preserved n c =
    let begun : List ℕ = c.args.begun.now in
    let items : List ℕ = c.as_slice-code-items.result.now in
    let i = c.codes.code-index in
    found-next c.args.book.now c.args.t begun items i c.args.lists.now c.codes.found.keys c.add_places.new.found.keys c.with_code-longer.result c.codes-test.true
    (c.with_code-longer.ensures ∙ ap (λ (p : List ℕ). p ++ slice_index_or items i 0 ∷ []) c.as_slice.ensures)
    c.in_ok-add_places.ensures
    ∙ c.codes.invariant
