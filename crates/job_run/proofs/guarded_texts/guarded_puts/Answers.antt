use Rattle.std.proofs.Common.{List, [], ◌∷◌, ◌++◌, ap, sym, ◌∙◌}
use Rattle.certificate.specs.ExtraTexts.{extra_text}
use Rattle.certificate.specs.Texts.{text_of}
use Rattle.job_run.specs.Releases.{shown_in, tables_from}
use Rattle.job_inputs.specs.declared.described.DescribedJob.{DescribedJob}
use Rattle.job_inputs.specs.declared.file_ref.FileRef.TheVariants as file
use Rattle.job_run.specs.declared.put.FilePut.{FilePut}
use Rattle.job_run.proofs.guarded_texts.guarded_puts.Goals as goal

pub returns-clause-puts : goal.returns-clause-puts
returns-clause-puts c = λ inputs is whole.
    let shown = shown_in inputs c.args.guarded.now.hidden.flags in
    let tables : List FilePut = tables_from inputs shown 0 c.args.described.now.job.tables c.args.described.now.job.outputs in
    let certificate : FilePut = record { file = file.Certificate; name = c.args.described.now.job.certificate; bytes = text_of c.args.guarded.now.certificate } in
    c.in_ok-add_tables.ensures.puts inputs is whole
    ∙ ap (λ (puts : List FilePut). puts ++ tables)
    (c.in_ok-push-2.ensures.ok ∙ ap (λ (puts : List FilePut). puts ++ c.in_ok-contributors_put.field-0 ∷ [])
    (c.in_ok-push.ensures.ok ∙ ap (λ (puts : List FilePut). puts ++ c.in_ok-certificate_put.field-0 ∷ []) c.empty-puts.ensures))
    ∙ ap (λ (put : FilePut). put ∷ c.in_ok-contributors_put.field-0 ∷ tables) c.in_ok-certificate_put.ensures.put
    ∙ ap (λ (put : FilePut). certificate ∷ put ∷ tables) c.in_ok-contributors_put.ensures.put
    ∙ ap (λ (d : DescribedJob). record { file = file.Certificate; name = d.job.certificate; bytes = text_of c.args.guarded.now.certificate }
    ∷ record { file = file.Contributors; name = c.args.name; bytes = extra_text c.args.guarded.now.extra } ∷ tables_from inputs shown 0 d.job.tables d.job.outputs) (sym is)
