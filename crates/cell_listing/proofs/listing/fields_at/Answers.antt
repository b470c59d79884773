use Rattle.std.proofs.Common.{◌≡◌, ℕ, List, Some, Option, option_map, map, slice_get, length, arith, refl, ap, sym, ◌∙◌}
use Rattle.std.proofs.lemmas.Option.{slice_get-map, slice_get_read}
use Rattle.std.proofs.lemmas.Result.{IfOk-weaker}
use Rattle.sdc_base.specs.RuleLevels.{figures_of_facts}
use Rattle.sdc_base.specs.declared.cell.Cell.{Cell}
use Rattle.apriori.specs.Settling.{told_of, view_of_cell}
use Rattle.linked_tables.specs.BookCells.{cells as cells_in}
use Rattle.linked_tables.specs.declared.mark.Mark.{Mark}
use Rattle.cell_listing.specs.Columns.{cell_fields}
use Rattle.cell_listing.specs.Givens.{AreFieldsAt}
use Rattle.cell_listing.specs.ListedCells.{ListedCell}
use Rattle.cell_listing.proofs.Numbered.{at_number}
use Rattle.cell_listing.proofs.listing.fields_at.Goals as goal

pub returns-clause-fields : goal.returns-clause-fields
returns-clause-fields c =
    let job = c.args.job.now in
    let number = c.args.number in
    let mark = c.in-Some-get.mark.now in
    let cell = c.in-Some-get-2.cell.now in
    let name = c.as_slice-2.result.now in
    let named : slice_get (cells_in job.book) number ≡ Some name = sym c.in-Some.ensures ∙ ap Some (sym c.as_slice-2.ensures) in
    let marked = c.in-Some-get.ensures.lookup in
    let settled = c.in-Some-get-2.ensures.lookup in
    let mark_at : slice_get c.marks.result.now number ≡ Some mark = slice_get_read c.marks.result.now (length c.marks.result.now) number mark refl marked.3.0 marked.1 in
    let cell_at : slice_get c.as_slice.result.now number ≡ Some cell = slice_get_read c.as_slice.result.now (length c.as_slice.result.now) number cell refl settled.3.0 settled.1 in
    let here : slice_get job.book.marks number ≡ Some mark = ap (λ (marks : List Mark). slice_get marks number) (sym c.marks.ensures) ∙ mark_at in
    let there : slice_get job.cells number ≡ Some cell = ap (λ (cells : List Cell). slice_get cells number) (sym c.as_slice.ensures) ∙ cell_at in
    let known : slice_get (told_of job.book.marks) number ≡ Some (figures_of_facts mark.facts) = slice_get-map (λ (one : Mark). figures_of_facts one.facts) job.book.marks number ∙ ap (λ (o : Option Mark). option_map (λ (one : Mark). figures_of_facts one.facts) o) here in
    let is : slice_get (map view_of_cell job.cells) number ≡ Some (view_of_cell cell) = slice_get-map view_of_cell job.cells number ∙ ap (λ (o : Option Cell). option_map view_of_cell o) there in
    let listed : ListedCell = record { number = number; name = name; figures = figures_of_facts mark.facts; settled = view_of_cell cell } in
    IfOk-weaker c.cell_fields.result (λ (fields : List (List ℕ)). fields ≡ cell_fields job.described job.book.trees listed) (AreFieldsAt job number) (λ fields are. record {
      cell = listed;
      stands = at_number 0 (cells_in job.book) (told_of job.book.marks) (map view_of_cell job.cells) number number name (figures_of_facts mark.facts) (view_of_cell cell) (omega arith) named known is;
      fields_are = are;
    }) c.cell_fields.ensures.fields
