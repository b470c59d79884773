use Rattle.std.proofs.Common.{Some, None, Option, ℕ, List, sym, ap, ◌∙◌, is_some, if◌then◌else◌}
use Rattle.std.specs.Option.{option_and_then}
use Rattle.sdc_base.specs.declared.dimension.Dimension.{Dimension}
use Rattle.linked_tables.specs.BookCells.{is_in, number_of, name_in_table}
use Rattle.linked_tables.proofs.Finding.{cell-found, cell-named}
use Rattle.linked_tables.proofs.book.Book.id.Goals as goal

pub returns-in_err-number-clause-cell : goal.returns-in_err-number-clause-cell
returns-in_err-number-clause-cell c =
    let book = c.args.self.now in
    let place = c.args.place.now in
    let by : Option (List Dimension) → Option ℕ = λ found. option_and_then (λ (table : List Dimension). if is_in book table place then number_of book (name_in_table book table place) else None) found in
    c.from_residual-in_err-number.ensures ∙ c.in_err-number.ensures.number ∙ ap (λ (table : List Dimension). by (Some table)) c.as_slice.ensures ∙ ap by c.in_ok-table.ensures

pub returns-in_err-number-clause-found : goal.returns-in_err-number-clause-found
returns-in_err-number-clause-found c =
    let book = c.args.self.now in
    let place = c.args.place.now in
    let by : Option (List Dimension) → Option ℕ = λ found. option_and_then (λ (table : List Dimension). if is_in book table place then number_of book (name_in_table book table place) else None) found in
    ap is_some (c.from_residual-in_err-number.ensures ∙ c.in_err-number.ensures.number ∙ ap (λ (table : List Dimension). by (Some table)) c.as_slice.ensures ∙ ap by c.in_ok-table.ensures) ∙ cell-found book c.args.t place

pub returns-clause-cell : goal.returns-clause-cell
returns-clause-cell c =
    let book = c.args.self.now in
    let place = c.args.place.now in
    let by : Option (List Dimension) → Option ℕ = λ found. option_and_then (λ (table : List Dimension). if is_in book table place then number_of book (name_in_table book table place) else None) found in
    c.in_ok-number.ensures.number ∙ ap (λ (table : List Dimension). by (Some table)) c.as_slice.ensures ∙ ap by c.in_ok-table.ensures

pub returns-clause-found : goal.returns-clause-found
returns-clause-found c =
    let book = c.args.self.now in
    let place = c.args.place.now in
    let by : Option (List Dimension) → Option ℕ = λ found. option_and_then (λ (table : List Dimension). if is_in book table place then number_of book (name_in_table book table place) else None) found in
    ap is_some (c.in_ok-number.ensures.number ∙ ap (λ (table : List Dimension). by (Some table)) c.as_slice.ensures ∙ ap by c.in_ok-table.ensures) ∙ cell-found book c.args.t place

pub returns-clause-name : goal.returns-clause-name
returns-clause-name c =
    let book = c.args.self.now in
    let place = c.args.place.now in
    let by : Option (List Dimension) → Option ℕ = λ found. option_and_then (λ (table : List Dimension). if is_in book table place then number_of book (name_in_table book table place) else None) found in
    cell-named book c.args.t place c.in_ok-number.number (sym (c.in_ok-number.ensures.number ∙ ap (λ (table : List Dimension). by (Some table)) c.as_slice.ensures ∙ ap by c.in_ok-table.ensures))
