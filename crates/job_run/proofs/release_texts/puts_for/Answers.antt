use Rattle.std.proofs.Common.{List, [], ◌∷◌, ◌++◌, ap, sym, ◌∙◌}
use Rattle.certificate.specs.Texts.{text_of}
use Rattle.job_run.specs.Books.{shown_by}
use Rattle.job_run.specs.Releases.{tables_from}
use Rattle.job_inputs.specs.declared.described.DescribedJob.{DescribedJob}
use Rattle.job_inputs.specs.declared.file_ref.FileRef.TheVariants as file
use Rattle.job_run.specs.declared.put.FilePut.{FilePut}
use Rattle.job_run.proofs.release_texts.puts_for.Goals as goal

pub returns-clause-puts : goal.returns-clause-puts
returns-clause-puts c = λ inputs is whole.
    let shown = shown_by inputs c.args.shown in
    let tables : List FilePut = tables_from inputs shown 0 c.args.described.now.job.tables c.args.described.now.job.outputs in
    c.in_ok-add_tables.ensures.puts inputs is whole
    ∙ ap (λ (puts : List FilePut). puts ++ tables) (c.in_ok-push.ensures.ok ∙ ap (λ (puts : List FilePut). puts ++ c.in_ok-certificate_put.field-0 ∷ []) c.empty-puts.ensures)
    ∙ ap (λ (put : FilePut). put ∷ tables) c.in_ok-certificate_put.ensures.put
    ∙ ap (λ (d : DescribedJob). record { file = file.Certificate; name = d.job.certificate; bytes = text_of c.args.certificate.now } ∷ tables_from inputs shown 0 d.job.tables d.job.outputs) (sym is)
