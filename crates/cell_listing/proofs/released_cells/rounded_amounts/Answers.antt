use Rattle.std.proofs.Common.{◌≡◌, List, ℕ, length, map, slice_get, subst, ◌∙◌}
use Rattle.release_writer.specs.ReadingLaws.{AreTexts}
use Rattle.release_writer.specs.Sheets.{HaveNames}
use Rattle.job_inputs.specs.Tables.{names_of}
use Rattle.job_check.proofs.CaseParts.{each-table, have-names}
use Rattle.job_check.proofs.SameBook.{same-itself}
use Rattle.cell_listing.proofs.released_cells.rounded_amounts.Goals as goal

pub rounded_of-requires-clause-names : goal.rounded_of-requires-clause-names
rounded_of-requires-clause-names c =
    let job = c.args.read.now.job in
    have-names job job.book c.as_slice.result.now c.requires.job (same-itself job.book) (c.as_slice.ensures ∙ c.in_ok-names.ensures)

pub rounded_of-requires-clause-tables : goal.rounded_of-requires-clause-tables
rounded_of-requires-clause-tables c =
    let read = c.args.read.now in
    each-table read read.job.book c.as_slice-tables.result.now c.requires (same-itself read.job.book) c.as_slice-tables.ensures

pub returns-in-Ok : goal.returns-in-Ok
returns-in-Ok c =
    let read = c.args.read.now in
    let job = read.job in
    let decimals = job.described.bound.decimals in
    let named : c.as_slice.result.now ≡ map names_of job.described.job.tables = c.as_slice.ensures ∙ c.in_ok-names.ensures in
    let put : c.as_slice-tables.result.now ≡ read.tables = c.as_slice-tables.ensures in
    let names : HaveNames c.as_slice.result.now job.book.tables = have-names job job.book c.as_slice.result.now c.requires.job (same-itself job.book) named in
    let each : length c.as_slice-tables.result.now ≡ length job.book.tables = each-table read job.book c.as_slice-tables.result.now c.requires (same-itself job.book) put in
    let law = c.rounded_numbers_have_texts.ensures job.book c.as_slice.result.now decimals c.as_slice-tables.result.now c.in-Ok.amounts c.requires.job.one_each names.lists each c.in-Ok.ensures.exact in
    record {
      one_each = law.0 ∙ c.requires.job.one_each;
      released = law.1;
      texts =
          subst (λ (all : List (List (List ℕ))). AreTexts job.book decimals (slice_get c.in-Ok.amounts) job.book.tables all read.tables) named
          (subst (λ (all : List (List ℕ)). AreTexts job.book decimals (slice_get c.in-Ok.amounts) job.book.tables c.as_slice.result.now all) put law.2);
    }
