use Rattle.std.proofs.Common.{◌≡◌, Err, ap}
use Rattle.std.proofs.lemmas.Result.{err_from_is_err_and}
use Rattle.job_check.proofs.Accepting.{answers-read-release}
use Rattle.job_check.specs.ReleaseFiles.{released_of}
use Rattle.job_check.specs.declared.stop.CheckStop.TheVariants as stop
use Rattle.job_check.proofs.checking.check_release.Goals as goal

pub returns-in_err-_read-clause-came_to : goal.returns-in_err-_read-clause-came_to
returns-in_err-_read-clause-came_to g c =
    λ fs told.
    let p = err_from_is_err_and c.from_residual.result c.from_residual.ensures.1 in
    let why = c.in_err-_read.field-0.0 in
    rw (p.1, p.2) (λ e is. c.in_err-_read.ensures.came_to fs told e (let same : why ≡ stop.Inputs e = cc in ap Err same))

pub returns-clause-told : goal.returns-clause-told
returns-clause-told g c = λ fs told. answers-read-release (released_of fs c.args.name.now) c.in_ok-_read._read (c.in_ok-_read.ensures.told fs told)
