use Rattle.std.proofs.lemmas.Result.{err_from_is_err_and}
use Rattle.job_check.proofs.ContributorsRead.{no-file, file-stops, file-read}
use Rattle.job_check.proofs.contributors.read_extra_cells.Goals as goal

pub returns-in_err-extra-in-Some : goal.returns-in_err-extra-in-Some
returns-in_err-extra-in-Some g c =
    let p = err_from_is_err_and c.from_residual.result c.from_residual.ensures.1 in
    rw (p.1, p.2) (file-stops c.args.line.now c.in-Some.output c.in_err-extra-in-Some.field-0.0 _ _ c.in-Some.is c.in_err-extra-in-Some.ensures)

pub returns-in_ok-extra-in-Some : goal.returns-in_ok-extra-in-Some
returns-in_ok-extra-in-Some g c = file-read c.args.line.now c.in-Some.output c.in_ok-extra-in-Some.extra _ _ c.in-Some.is c.in_ok-extra-in-Some.ensures

pub returns-in-None : goal.returns-in-None
returns-in-None g c = no-file c.args.line.now _ c.in-None.is
