use Rattle.std.proofs.Common.{◌≡◌, ℕ, refl, ap, sym, ◌∙◌}
use Rattle.release_writer.specs.ShownCells.{release_text}
use Rattle.job_run.specs.Books.{shown_by}
use Rattle.job_inputs.specs.Tables.{names_of}
use Rattle.job_run.specs.Releases.{table_of}
use Rattle.job_inputs.specs.declared.described.DescribedJob.{DescribedJob}
use Rattle.job_run.proofs.Showing.{table-shown}
use Rattle.job_run.proofs.release_texts.table_put.Goals as goal

pub returns : goal.returns
returns c = λ inputs is whole.
    let book = c.args.book.now in
    let shown = c.args.shown in
    let header = c.as_slice.result.now in
    let fine : c.args.described.now.bound.decimals ≡ inputs.described.bound.decimals = ap (λ (d : DescribedJob). d.bound.decimals) (sym is) in
    let text : c.new.result ≡ table_of inputs (shown_by inputs shown) c.args.t (names_of c.args.line.now) =
    c.new.ensures ∙ c.in_ok-bytes.ensures.text
    ∙ ap (λ (n : ℕ). release_text book c.args.t header n shown) fine
    ∙ table-shown inputs book shown c.args.t header whole c.requires.table
    ∙ ap (table_of inputs (shown_by inputs shown) c.args.t) (c.as_slice.ensures ∙ c.in_ok-header.ensures) in
    rw (c.in_ok-copy.ensures, text) refl
