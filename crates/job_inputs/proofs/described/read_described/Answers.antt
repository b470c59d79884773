use Rattle.std.proofs.Common.{◌≡◌, Ok, subst, ◌∙◌, List, ℕ}
use Rattle.std.proofs.lemmas.Result.{err_from_is_err_and}
use Rattle.sdc_base.specs.Answers.{Fails}
use Rattle.sdc_base.specs.Steps.{map_fault}
use Rattle.rda_meta.specs.Metadata.{meta_of}
use Rattle.job_inputs.specs.Inputs.{job_for}
use Rattle.job_inputs.specs.ReadFiles.{meta_fault}
use Rattle.job_inputs.specs.Reading.{stopped_for}
use Rattle.plain_text.specs.Stops.{why_of}
use Rattle.job_inputs.proofs.Causes.{look-stops, contents-stop, look-ends, nothing-looked, look-on}
use Rattle.job_inputs.proofs.Describing.{job-was-read, described-is, job-file-stops, job-stops, meta-file-stops, meta-stops, bound-stops, job-comes, meta-comes}
use Rattle.job_inputs.proofs.described.read_described.Goals as goal

pub returns-in_err-bytes : goal.returns-in_err-bytes
returns-in_err-bytes g c =
    let p = err_from_is_err_and c.from_residual.result c.from_residual.ensures.1 in
    let e = c.in_err-bytes.field-0.0 in
    rw (p.1, p.2)
    (look-stops _ _ _ _ _ _ e _ _ _ (nothing-looked _ _) c.in_err-bytes.ensures
    (λ fs told fails. job-file-stops c.args.purpose fs c.args.name.now (stopped_for e) fails)
    (λ fs told f held comes. job-comes c.args.purpose fs c.args.name.now f held comes))

pub returns-in_err-job : goal.returns-in_err-job
returns-in_err-job g c =
    let p = err_from_is_err_and c.from_residual-in_err-job.result c.from_residual-in_err-job.ensures.1 in
    let r = c.in_err-job.field-0.0 in
    let first = c.in_ok-bytes.ensures in
    let refused = subst (λ (bytes : List ℕ). Fails (why_of r) (job_for c.args.purpose bytes)) c.as_slice.ensures.value c.in_err-job.ensures.told in
    rw (p.1, p.2)
    (contents-stop _ _ _ r _ _ first.shelf c.in_err-job.ensures.contents
    (λ fs told. job-stops c.args.purpose fs c.args.name.now c.in_ok-bytes.bytes.items (why_of r) (first.told fs told) refused))

pub returns-in_err-text : goal.returns-in_err-text
returns-in_err-text g c =
    let p = err_from_is_err_and c.from_residual-in_err-text.result c.from_residual-in_err-text.ensures.1 in
    let e = c.in_err-text.field-0.0 in
    let first = c.in_ok-bytes.ensures in
    let read = subst (λ (bytes : List ℕ). job_for c.args.purpose bytes ≡ Ok c.in_ok-job.job) c.as_slice.ensures.value c.in_ok-job.ensures.told in
    rw (p.1, p.2)
    (look-stops _ _ _ _ _ _ e _ _ _ first.shelf c.in_err-text.ensures
    (λ fs told fails. meta-file-stops c.args.purpose fs c.args.name.now c.in_ok-bytes.bytes.items c.in_ok-job.job (stopped_for e) (first.told fs told) read fails)
    (λ fs told f held comes. meta-comes c.args.purpose fs c.args.name.now c.in_ok-job.job f held (job-was-read c.args.purpose fs c.args.name.now c.in_ok-bytes.bytes.items c.in_ok-job.job (first.told fs told) read) comes))

pub returns-in_err-meta : goal.returns-in_err-meta
returns-in_err-meta g c =
    let p = err_from_is_err_and c.from_residual-in_err-meta.result c.from_residual-in_err-meta.ensures.1 in
    let r = c.in_err-meta.field-0.0 in
    let first = c.in_ok-bytes.ensures in
    let then = c.in_ok-text.ensures in
    let read = subst (λ (bytes : List ℕ). job_for c.args.purpose bytes ≡ Ok c.in_ok-job.job) c.as_slice.ensures.value c.in_ok-job.ensures.told in
    let refused = subst (λ (bytes : List ℕ). Fails (why_of r) (map_fault meta_fault (meta_of bytes))) c.as_slice-2.ensures.value c.in_err-meta.ensures.told in
    rw (p.1, p.2)
    (contents-stop _ _ _ r _ _ (look-on _ _ _ _ first.shelf then.shelf) c.in_err-meta.ensures.contents
    (λ fs told. meta-stops c.args.purpose fs c.args.name.now c.in_ok-bytes.bytes.items c.in_ok-text.text.items c.in_ok-job.job (why_of r) (first.told fs told) read (then.told fs (first.shelf.only_read.files ∙ told)) refused))

pub returns-in_err-bound : goal.returns-in_err-bound
returns-in_err-bound g c =
    let p = err_from_is_err_and c.from_residual-in_err-bound.result c.from_residual-in_err-bound.ensures.1 in
    let r = c.in_err-bound.field-0.0 in
    let first = c.in_ok-bytes.ensures in
    let then = c.in_ok-text.ensures in
    let read = subst (λ (bytes : List ℕ). job_for c.args.purpose bytes ≡ Ok c.in_ok-job.job) c.as_slice.ensures.value c.in_ok-job.ensures.told in
    let said = subst (λ (bytes : List ℕ). map_fault meta_fault (meta_of bytes) ≡ Ok c.in_ok-meta.meta) c.as_slice-2.ensures.value c.in_ok-meta.ensures.told in
    rw (p.1, p.2)
    (contents-stop _ _ _ r _ _ (look-on _ _ _ _ first.shelf then.shelf) c.in_err-bound.ensures.contents
    (λ fs told.
    bound-stops c.args.purpose fs c.args.name.now c.in_ok-bytes.bytes.items c.in_ok-text.text.items c.in_ok-job.job c.in_ok-meta.meta (why_of r) (first.told fs told) read (then.told fs (first.shelf.only_read.files ∙ told)) said
    c.in_err-bound.ensures.told))

pub returns : goal.returns
returns g c =
    let first = c.in_ok-bytes.ensures in
    let then = c.in_ok-text.ensures in
    let read = subst (λ (bytes : List ℕ). job_for c.args.purpose bytes ≡ Ok c.in_ok-job.job) c.as_slice.ensures.value c.in_ok-job.ensures.told in
    let said = subst (λ (bytes : List ℕ). map_fault meta_fault (meta_of bytes) ≡ Ok c.in_ok-meta.meta) c.as_slice-2.ensures.value c.in_ok-meta.ensures.told in
    look-ends _ _ _ _ _ _ first.shelf then.shelf
    (λ fs told.
    described-is c.args.purpose fs c.args.name.now c.in_ok-bytes.bytes.items c.in_ok-text.text.items c.in_ok-job.job c.in_ok-meta.meta c.in_ok-bound.bound (first.told fs told) read (then.told fs (first.shelf.only_read.files ∙ told)) said
    c.in_ok-bound.ensures.told)
    (record { job = c.in_ok-job.ensures.sound; meta = c.in_ok-meta.ensures.sound; bound = c.in_ok-bound.ensures.sound.within; places = c.in_ok-bound.ensures.sound.places })
