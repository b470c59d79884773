use Rattle.std.proofs.Common.{◌≡◌, ◌<◌, ◌++◌, ℕ, List, Some, Option, option_map, length, map, slice_get, arith, refl, ap, ap₂, sym, ◌∙◌}
use Rattle.std.proofs.lemmas.Option.{slice_get-map, slice_get_read, slice_get_within}
use Rattle.sdc_base.specs.declared.cell.Cell.{Cell}
use Rattle.sdc_base.specs.declared.cell.Kind.{Kind}
use Rattle.apriori.specs.Settling.{SettledCell, told_of, view_of_cell}
use Rattle.linked_tables.specs.BookCells.{cells as cells_in}
use Rattle.cell_listing.specs.Outcomes.{outcome_of}
use Rattle.cell_listing.specs.ReleasedCells.{amounts_in}
use Rattle.cell_listing.specs.ReleasedListings.{outcome_at, outcome_fields}
use Rattle.cell_listing.specs.declared.outcome.Outcome.{Outcome}
use Rattle.cell_listing.proofs.Numbered.{was_number}
use Rattle.cell_listing.proofs.ReleasedAmounts.{has_amount}
use Rattle.cell_listing.proofs.released_listing.released_fields.Goals as goal

pub outcome_at-outcome-requires : goal.outcome_at-outcome-requires
outcome_at-outcome-requires c =
    let read = c.args.read.now in
    let job = read.job in
    let ready = c.requires.ready.job in
    let number = c.args.number in
    let cell = c.in-Some.cell.now in
    let looked = c.in-Some.ensures.lookup in
    let at : slice_get c.as_slice.result.now number ≡ Some cell = slice_get_read c.as_slice.result.now (length c.as_slice.result.now) number cell refl looked.3.0 looked.1 in
    let here : slice_get job.cells number ≡ Some cell = ap (λ (cells : List Cell). slice_get cells number) (sym c.as_slice.ensures) ∙ at in
    let within : number < length (cells_in job.book) = omega (arith, slice_get_within job.cells number cell here, ready.settled, ready.one_each) in
    record { amount = has_amount read c.args.cells.now number c.requires.cells within }

pub returns-clause-fields : goal.returns-clause-fields
returns-clause-fields c =
    let read = c.args.read.now in
    let number = c.args.number in
    let cell = c.in-Some.cell.now in
    let are = c.in_ok-fields.ensures.fields in
    let looked = c.in-Some.ensures.lookup in
    let at : slice_get c.as_slice.result.now number ≡ Some cell = slice_get_read c.as_slice.result.now (length c.as_slice.result.now) number cell refl looked.3.0 looked.1 in
    let here : slice_get read.job.cells number ≡ Some cell = ap (λ (cells : List Cell). slice_get cells number) (sym c.as_slice.ensures) ∙ at in
    let was = was_number 0 (cells_in read.job.book) (told_of read.job.book.marks) (map view_of_cell read.job.cells) number are.cell are.stands in
    let same : are.cell.number ≡ number = omega (arith, was.number) in
    let mapped : slice_get (map view_of_cell read.job.cells) number ≡ Some (view_of_cell cell) = slice_get-map view_of_cell read.job.cells number ∙ ap (λ (o : Option Cell). option_map view_of_cell o) here in
    let both : Some are.cell.settled ≡ Some (view_of_cell cell) = sym was.settled_is ∙ mapped in
    let settled : are.cell.settled ≡ view_of_cell cell = cc in
    let kind : cell.kind ≡ are.cell.settled.kind = sym (ap (λ (one : SettledCell). one.kind) settled) in
    let within : number < length (cells_in read.job.book) = slice_get_within (cells_in read.job.book) number are.cell.name was.name in
    let made : c.outcome_at-outcome.result ≡ outcome_at read.certificate read.extra (amounts_in c.args.cells.now) are.cell =
    c.outcome_at-outcome.ensures.exact read c.requires.cells within
    ∙ ap₂ (λ (n : ℕ) (k : Kind). outcome_of read.certificate read.extra (amounts_in c.args.cells.now) n k) (sym same) kind in
    record {
      cell = are.cell;
      stands = are.stands;
      fields_are =
          c.in_ok-add_all.ensures
          ∙ ap₂ (λ (one more : List (List ℕ)). one ++ more) are.fields_are (c.in_ok-outcome_fields.ensures ∙ ap (λ (what : Outcome). outcome_fields read.job.described.bound.decimals what) made);
    }

pub outcome_fields-requires-clause-printable : goal.outcome_fields-requires-clause-printable
outcome_fields-requires-clause-printable c = c.outcome_at-outcome.ensures.printable c.args.read.now c.requires.cells

pub outcome_fields-requires-clause-decimals : goal.outcome_fields-requires-clause-decimals
outcome_fields-requires-clause-decimals c = c.requires.ready.job.sound.bound.decimals
