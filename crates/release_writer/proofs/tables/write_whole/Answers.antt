use Rattle.std.proofs.Common.{◌<◌, ◌++◌, ◌∷◌, [], ℕ, List, length, slice_index_or, option_map, ap, sym, ◌∙◌, subst, arith}
use Rattle.std.proofs.lemmas.Result.{on_ok_weaker}
use Rattle.sdc_base.specs.Cells.{trees_of}
use Rattle.sdc_base.specs.TableText.{line_text, codes_of_place, shown_text}
use Rattle.sdc_base.specs.declared.dimension.Dimension.{Dimension}
use Rattle.linked_tables.specs.BookCells.{name_in_table}
use Rattle.release_writer.specs.ShownCells.{number_shown}
use Rattle.release_writer.specs.Lines.{bytes_written}
use Rattle.release_writer.proofs.BegunPlaces.{read-at}
use Rattle.release_writer.proofs.ShownText.{shown-some}
use Rattle.release_writer.proofs.tables.write_whole.Goals as goal

pub write_place-requires-clause-at_most_8 : goal.write_place-requires-clause-at_most_8
write_place-requires-clause-at_most_8 c = omega (arith, ap (λ (t : List Dimension). length t) c.as_slice.ensures, c.requires.at_most_8)

pub write_place-requires-clause-number : goal.write_place-requires-clause-number
write_place-requires-clause-number c =
    let page = c.args.page.now in
    let text = c.as_slice-2.ensures ∙ c.in_ok-number.ensures.text in
    subst (λ (bytes : List ℕ). 0 < length bytes) (sym text) (shown-some page.decimals (number_shown page.book.now page.shown (name_in_table page.book.now (slice_index_or page.book.now.tables page.t []) c.args.place.now)))

pub returns-clause-text : goal.returns-clause-text
returns-clause-text c =
    let page = c.args.page.now in
    let place = c.args.place.now in
    let start = bytes_written c.args.writer.now in
    let table = read-at page.book.now.tables page.t page.table.now c.requires.page.table in
    let text = c.as_slice-2.ensures ∙ c.in_ok-number.ensures.text ∙ ap (λ t. shown_text page.decimals (number_shown page.book.now page.shown (name_in_table page.book.now t place))) table in
    on_ok_weaker c.write_place.result
    (λ put. put
    ∙ ap (λ number. option_map (λ before. before ++ line_text (codes_of_place (trees_of page.book.now.trees c.as_slice.result.now) place ++ number ∷ [])) start) text
    ∙ ap (λ t. option_map (λ before. before ++ line_text (codes_of_place (trees_of page.book.now.trees t) place ++ shown_text page.decimals (number_shown page.book.now page.shown (name_in_table page.book.now page.table.now place)) ∷ [])) start) c.as_slice.ensures)
    c.write_place.ensures.text
