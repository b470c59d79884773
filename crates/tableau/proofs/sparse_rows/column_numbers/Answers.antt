use Rattle.std.proofs.Common.{◌≡◌, ◌<◌, ◌+◌, List, length, slice_index_or, sym, subst}
use Rattle.sdc_base.specs.Forms.{Term}
use Rattle.tableau.specs.ProblemForm.{AscendFrom}
use Rattle.tableau.proofs.Places.{ascend_of}
use Rattle.tableau.proofs.sparse_rows.column_numbers.Goals as goal

pub numbers_at-requires : goal.numbers_at-requires
numbers_at-requires c k d below =
    let s = c.args.table.now in
    let rows_are : c.as_slice.result.now ≡ s.rows.items = c.as_slice.ensures.value in
    let inside = subst (λ (t : List (List Term)). k < length t) rows_are below in
    subst (λ (t : List (List Term)). AscendFrom 0 (slice_index_or t k d)) (sym rows_are) (ascend_of 0 (length s.others.items + 2) (slice_index_or s.rows.items k d) (s.each k d inside))
