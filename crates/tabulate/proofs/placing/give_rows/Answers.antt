use Rattle.std.proofs.Common.{◌≡◌, ℕ, ◌∙◌, ◌∷◌, [], List, length, take, slice_get, Some, refl, sym, subst}
use Rattle.std.proofs.lemmas.Option.{slice_get_read}
use Rattle.sdc_base.specs.declared.rows.Row.{Row}
use Rattle.code_trees.proofs.FlatSteps.{take-at}
use Rattle.tabulate.specs.RecordsByPlace.{GaveRecord, GaveRecords, codes_for, dimensions_of}
use Rattle.tabulate.proofs.RowSteps.{gave-row}
use Rattle.tabulate.proofs.placing.give_rows.Goals as goal

pub rows-preserved : goal.rows-preserved
rows-preserved c =
    let rows = c.args.rows.now in
    let i = c.rows.row-index in
    let row = c.row-item.result in
    let at : slice_get rows i ≡ Some row = slice_get_read rows (length rows) i row refl c.rows-test.true c.row-item.is in
    let place : c.as_slice.result.now ≡ codes_for c.rows.book.trees row.codes (dimensions_of c.rows.book c.args.t) = c.as_slice.ensures ∙ c.record_place-place.ensures in
    let gave : GaveRecord c.rows.book c.give_at.new.book c.args.t c.args.first row (codes_for c.rows.book.trees row.codes (dimensions_of c.rows.book c.args.t) ∷ []) =
    subst (λ (one : List ℕ). GaveRecord c.rows.book c.give_at.new.book c.args.t c.args.first row (one ∷ [])) place c.give_at.ensures
    in
    subst (λ (some : List Row). GaveRecords c.args.book.now c.give_at.new.book c.args.t c.args.first some) (sym (take-at rows i row at))
    (gave-row c.args.book.now c.rows.book c.give_at.new.book c.args.t c.args.first (take i rows) row c.rows.invariant gave)
