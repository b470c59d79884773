use Rattle.std.proofs.Common.{◌≡◌, ◌&&◌, true, false, ℕ, List, slice_index, ap, sym, ◌∙◌}
use Rattle.std.specs.Option.{option_map_or}
use Rattle.sdc_base.specs.Cells.{is_named, named_by}
use Rattle.sdc_base.specs.Relations.{spans_below}
use Rattle.sdc_base.specs.declared.dimension.Dimension.{Dimension}
use Rattle.relations.specs.Having.{has_codes, has_spanned}
use Rattle.relations.proofs.Tables.{cell-of_trees, has-by-codes}
use Rattle.relations.proofs.Holding.{tables-of}
use Rattle.relations.proofs.having.has_spanned.Goals as goal

pub returns-then-spans_below : goal.returns-then-spans_below
returns-then-spans_below c =
    let book = c.args.book.now in
    let table = c.in-Some.table.now in
    let name = c.args.name.now in
    let variable = c.args.variable in
    let long = (cell-of_trees book.trees book.tables name c.requires.book.trees (tables-of book c.requires.book) c.requires.cell).long in
    let below : spans_below book.trees variable (slice_index name variable) table ≡ true =
    ap (λ (codes : List ℕ). spans_below book.trees variable (slice_index codes variable) table) (sym c.as_slice.ensures)
    ∙ ap (λ (one : List Dimension). spans_below book.trees variable (slice_index c.as_slice.result.now variable) one) (sym c.as_slice-2.ensures)
    ∙ sym c.spans_below.ensures
    ∙ c.if-spans_below.true
    in
    c.has_codes.ensures
    ∙ ap (λ (one : List Dimension). has_codes book.trees one 0 name) c.as_slice-then-spans_below.ensures
    ∙ sym (has-by-codes book.trees table name (tables-of book c.requires.book c.args.t table (sym c.in-Some.ensures)) long)
    ∙ ap (λ b. b && is_named (named_by book.trees table) name) (sym below)
    ∙ ap (λ found. option_map_or (has_spanned book.trees name variable) found false) c.in-Some.ensures
