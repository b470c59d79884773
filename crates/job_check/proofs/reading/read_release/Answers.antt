use Rattle.std.proofs.Common.{arith, ◌≤◌, ◌∙◌, refl}
use Rattle.std.proofs.lemmas.Result.{err_from_is_err_and}
use Rattle.job_inputs.proofs.Causes.{come-on, cause-as, cause-on, inputs-looked, look-on, longer-look, past-inputs}
use Rattle.job_inputs.specs.ReadFiles.{limit, output_limit}
use Rattle.job_inputs.specs.Reading.{stopped_for}
use Rattle.job_inputs.specs.ClassifiedJobs.{IsSettledOf}
use Rattle.job_inputs.specs.declared.purpose.Purpose.TheVariants.{Release}
use Rattle.job_check.proofs.ReleaseReading.{settled-fails, no-certificate, no-extra, no-tables, all-read, inputs-come, certificate-comes, contributors-come, tables-come}
use Rattle.job_check.specs.ReleaseFiles.{released_with}
use Rattle.job_check.proofs.reading.read_release.Goals as goal

-- an input is no longer than what was put may be
at_most : limit ≤ output_limit
at_most = omega arith

pub returns-in_err-job-clause-looked : goal.returns-in_err-job-clause-looked
returns-in_err-job-clause-looked g c =
    let p = err_from_is_err_and c.from_residual.result c.from_residual.ensures.1 in
    let e = c.in_err-job.field-0.0 in
    let look = c.in_err-job.ensures.looked in
    rw (p.1, p.2) (record {
      told = λ fs told. settled-fails fs c.args.name.now _ (look.told fs told);
      came_to = λ fs told. come-on e _ _ fs (g.S.Shelf.state c.read_settled.new.shelf) (λ f held comes. inputs-come fs c.args.name.now f held comes) (look.came_to fs told);
      shelf = longer-look limit output_limit _ _ at_most look.shelf;
      cause = cause-as e _ _ look.cause;
      sound = tt;
    })

pub returns-in_err-certificate-clause-looked : goal.returns-in_err-certificate-clause-looked
returns-in_err-certificate-clause-looked g c =
    let p = err_from_is_err_and c.from_residual-in_err-certificate.result c.from_residual-in_err-certificate.ensures.1 in
    let e = c.in_err-certificate.field-0.0 in
    let first = c.in_ok-job.ensures.looked in
    let look = c.in_err-certificate.ensures in
    rw (p.1, p.2) (record {
      told = λ fs told. no-certificate fs c.args.name.now c.in_ok-job.job (stopped_for e) (first.told fs told) (look.told fs (first.shelf.only_read.files ∙ told));
      came_to = λ fs told.
          come-on e _ _ fs (g.S.Shelf.state c.read_certificate_file.new.shelf) (λ f held comes. certificate-comes fs c.args.name.now c.in_ok-job.job f held (first.told fs told) comes)
          (look.came_to fs (first.shelf.only_read.files ∙ told));
      shelf = look-on _ _ _ _ (longer-look limit output_limit _ _ at_most first.shelf) look.shelf;
      cause = cause-on e _ _ _ first.shelf look.cause;
      sound = tt;
    })

pub returns-in_err-extra-clause-looked : goal.returns-in_err-extra-clause-looked
returns-in_err-extra-clause-looked g c =
    let p = err_from_is_err_and c.from_residual-in_err-extra.result c.from_residual-in_err-extra.ensures.1 in
    let e = c.in_err-extra.field-0.0 in
    let first = c.in_ok-job.ensures.looked in
    let then = c.in_ok-certificate.ensures in
    let before = look-on _ _ _ _ (longer-look limit output_limit _ _ at_most first.shelf) then.shelf in
    let look = c.in_err-extra.ensures in
    rw (p.1, p.2) (record {
      told = λ fs told. no-extra fs c.args.name.now c.in_ok-job.job c.in_ok-certificate.certificate (stopped_for e) (first.told fs told) (then.told fs (first.shelf.only_read.files ∙ told)) (look.told fs (before.only_read.files ∙ told));
      came_to = λ fs told.
          come-on e _ _ fs (g.S.Shelf.state c.read_extra_cells.new.shelf)
          (λ f held comes. contributors-come fs c.args.name.now c.in_ok-job.job c.in_ok-certificate.certificate f held (first.told fs told) (then.told fs (first.shelf.only_read.files ∙ told)) comes)
          (look.came_to fs (before.only_read.files ∙ told));
      shelf = look-on _ _ _ _ before look.shelf;
      cause = cause-on e _ _ _ before look.cause;
      sound = tt;
    })

pub returns-in_err-tables-clause-looked : goal.returns-in_err-tables-clause-looked
returns-in_err-tables-clause-looked g c =
    let p = err_from_is_err_and c.from_residual-in_err-tables.result c.from_residual-in_err-tables.ensures.1 in
    let e = c.in_err-tables.field-0.0 in
    let first = c.in_ok-job.ensures.looked in
    let then = c.in_ok-certificate.ensures in
    let signed = look-on _ _ _ _ (longer-look limit output_limit _ _ at_most first.shelf) then.shelf in
    let beside = c.in_ok-extra.ensures in
    let before = look-on _ _ _ _ signed beside.shelf in
    let look = c.in_err-tables.ensures in
    rw (p.1, p.2) (record {
      told = λ fs told.
          no-tables fs c.args.name.now c.in_ok-job.job c.in_ok-certificate.certificate c.in_ok-extra.extra (stopped_for e) (first.told fs told) (then.told fs (first.shelf.only_read.files ∙ told)) (beside.told fs (signed.only_read.files ∙ told))
          (look.told fs (before.only_read.files ∙ told));
      came_to = λ fs told.
          come-on e _ _ fs (g.S.Shelf.state c.read_tables.new.shelf)
          (λ f held comes. tables-come fs c.args.name.now c.in_ok-job.job c.in_ok-certificate.certificate c.in_ok-extra.extra f held (first.told fs told) (then.told fs (first.shelf.only_read.files ∙ told)) (beside.told fs (signed.only_read.files ∙ told)) comes)
          (look.came_to fs (before.only_read.files ∙ told));
      shelf = look-on _ _ _ _ before look.shelf;
      cause = cause-on e _ _ _ before look.cause;
      sound = tt;
    })

pub returns-clause-looked : goal.returns-clause-looked
returns-clause-looked g c =
    let first = c.in_ok-job.ensures.looked in
    let then = c.in_ok-certificate.ensures in
    let signed = look-on _ _ _ _ (longer-look limit output_limit _ _ at_most first.shelf) then.shelf in
    let beside = c.in_ok-extra.ensures in
    let last = c.in_ok-tables.ensures in
    let before = look-on _ _ _ _ signed beside.shelf in
    record {
      told = λ fs told.
          all-read fs c.args.name.now (record { job = c.in_ok-job.job; certificate = c.in_ok-certificate.certificate; extra = c.in_ok-extra.extra; tables = c.in_ok-tables.tables }) (first.told fs told)
          (then.told fs (first.shelf.only_read.files ∙ told)) (beside.told fs (signed.only_read.files ∙ told)) (last.told fs (before.only_read.files ∙ told));
      came_to = λ fs told f is. absurd cc;
      shelf = look-on _ _ _ _ before last.shelf;
      cause = record { absent = λ f is. absurd cc; too_long = λ f is. absurd cc; read_fault = λ f is. absurd cc; tree = λ f is. absurd cc };
      sound = record { job = first.sound; extra = beside.sound; each = last.sound };
    }

pub returns-clause-released : goal.returns-clause-released
returns-clause-released g c =
    let settled = c.in_ok-job.ensures.settled in
    record {
      released = released_with settled.0 c.in_ok-certificate.certificate c.in_ok-extra.extra c.in_ok-tables.tables;
      is = record { settled = settled.1; certificate = refl; extra = refl; tables = refl };
      sound = settled.2;
    }

-- ---- the shelf

pub returns-in_err-job-clause-shelf : goal.returns-in_err-job-clause-shelf
returns-in_err-job-clause-shelf g c = inputs-looked _ _ _ _ c.in_err-job.ensures.looked.shelf

pub returns-in_err-certificate-clause-shelf : goal.returns-in_err-certificate-clause-shelf
returns-in_err-certificate-clause-shelf g c =
    let first = c.in_ok-job.ensures.looked in
    past-inputs Release c.args.name.now (λ settled. IsSettledOf settled c.in_ok-job.job) _ _ (look-on _ _ _ _ (longer-look limit output_limit _ _ at_most first.shelf) c.in_err-certificate.ensures.shelf) first.told

pub returns-in_err-extra-clause-shelf : goal.returns-in_err-extra-clause-shelf
returns-in_err-extra-clause-shelf g c =
    let first = c.in_ok-job.ensures.looked in
    let signed = look-on _ _ _ _ (longer-look limit output_limit _ _ at_most first.shelf) c.in_ok-certificate.ensures.shelf in
    past-inputs Release c.args.name.now (λ settled. IsSettledOf settled c.in_ok-job.job) _ _ (look-on _ _ _ _ signed c.in_err-extra.ensures.shelf) first.told

pub returns-in_err-tables-clause-shelf : goal.returns-in_err-tables-clause-shelf
returns-in_err-tables-clause-shelf g c =
    let first = c.in_ok-job.ensures.looked in
    let signed = look-on _ _ _ _ (longer-look limit output_limit _ _ at_most first.shelf) c.in_ok-certificate.ensures.shelf in
    let before = look-on _ _ _ _ signed c.in_ok-extra.ensures.shelf in
    past-inputs Release c.args.name.now (λ settled. IsSettledOf settled c.in_ok-job.job) _ _ (look-on _ _ _ _ before c.in_err-tables.ensures.shelf) first.told

pub returns-clause-shelf : goal.returns-clause-shelf
returns-clause-shelf g c =
    let first = c.in_ok-job.ensures.looked in
    let signed = look-on _ _ _ _ (longer-look limit output_limit _ _ at_most first.shelf) c.in_ok-certificate.ensures.shelf in
    let before = look-on _ _ _ _ signed c.in_ok-extra.ensures.shelf in
    past-inputs Release c.args.name.now (λ settled. IsSettledOf settled c.in_ok-job.job) _ _ (look-on _ _ _ _ before c.in_ok-tables.ensures.shelf) first.told
