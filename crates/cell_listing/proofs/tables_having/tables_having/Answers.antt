use Rattle.std.proofs.Common.{◌≡◌, ℕ, List, ◌+◌, ◌++◌, ◌∷◌, [], drop, ap, sym, ◌∙◌, decimal, if◌then◌else◌}
use Rattle.std.proofs.lemmas.List.{drop_more}
use Rattle.sdc_base.specs.declared.dimension.Dimension.{Dimension}
use Rattle.cell_listing.specs.Columns.{having_from}
use Rattle.cell_listing.proofs.TablesHaving.{having_next}
use Rattle.cell_listing.proofs.tables_having.tables_having.Goals as goal

pub tables-preserved : goal.tables-preserved
tables-preserved c =
    let trees = c.args.book.now.trees in
    let tables = c.args.tables.now in
    let name = c.args.name.now in
    let t = c.tables.t in
    let table = c.as_slice.result.now in
    let rest : List (List Dimension) = drop (t + 1) tables in
    let here : drop t tables ≡ table ∷ rest = drop_more tables t c.index-tables-t.result c.tables-test.true ∙ ap (λ (one : List Dimension). one ∷ rest) (sym (c.as_slice.ensures ∙ c.index-tables-t.is)) in
    ap (λ (words : List (List ℕ)). words ++ having_from trees (t + 1 + 1) rest name) (c.in_ok-add_table.ensures ∙ ap (λ has. c.tables.words ++ (if has then decimal (t + 1) ∷ [] else [])) c.has_cell-has.ensures)
    ∙ having_next trees (t + 1) table rest name c.tables.words
    ∙ ap (λ (left : List (List Dimension)). c.tables.words ++ having_from trees (t + 1) left name) (sym here)
    ∙ c.tables.invariant
