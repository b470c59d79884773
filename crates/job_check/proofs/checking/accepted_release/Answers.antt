use Rattle.std.proofs.Common.{◌≡◌, Result, Ok, Err, sym, subst}
use Rattle.std.proofs.lemmas.Result.{err_from_is_err_and}
use Rattle.job_inputs.specs.declared.faults.Fault.{Fault}
use Rattle.job_check.proofs.Accepting.{still-judged, still-released}
use Rattle.job_check.proofs.Judgements.{judged-stops, judged-cause, judged-comes-to}
use Rattle.job_check.proofs.ReleaseReading.{ok-and}
use Rattle.job_check.specs.Accepted.{IsReadReleaseAnswer}
use Rattle.job_check.specs.Answers.{IsReleaseCheckAnswer}
use Rattle.job_check.specs.Reading.{ReleaseComesTo, IsReleasedOf}
use Rattle.job_check.specs.ReleaseFiles.{ReleasedFiles, released_of}
use Rattle.job_check.specs.declared.stop.CheckStop.TheVariants as stop
use Rattle.job_check.proofs.checking.accepted_release.Goals as goal

pub returns-in_err-read-clause-told : goal.returns-in_err-read-clause-told
returns-in_err-read-clause-told g c =
    λ fs told.
    let p = err_from_is_err_and c.from_residual.result c.from_residual.ensures.1 in
    rw (p.1, p.2) (c.in_err-read.ensures.looked.told fs told)

pub returns-in_err-judge-clause-told : goal.returns-in_err-judge-clause-told
returns-in_err-judge-clause-told g c =
    λ fs told.
    let p = err_from_is_err_and c.from_residual-in_err-judge.result c.from_residual-in_err-judge.ensures.1 in
    let it = ok-and (λ released. IsReleasedOf released c.in_ok-read.read) (released_of fs c.args.name.now) (c.in_ok-read.ensures.looked.told fs told) in
    let e = c.in_err-judge.field-0.0 in
    rw (p.1, p.2) (subst (λ (o : Result ReleasedFiles Fault). IsReleaseCheckAnswer o (Err e)) (sym it.1) (judged-stops it.0 e (c.in_err-judge.ensures.judged it.0 it.2)))

pub returns-in_err-judge-clause-came_to : goal.returns-in_err-judge-clause-came_to
returns-in_err-judge-clause-came_to g c =
    λ fs told.
    let p = err_from_is_err_and c.from_residual-in_err-judge.result c.from_residual-in_err-judge.ensures.1 in
    let it = ok-and (λ released. IsReleasedOf released c.in_ok-read.read) (released_of fs c.args.name.now) (c.in_ok-read.ensures.looked.told fs told) in
    let why = c.in_err-judge.field-0.0 in
    rw (p.1, p.2) (λ e is. let same : why ≡ stop.Inputs e = cc in judged-comes-to it.0 why e (ReleaseComesTo fs c.args.name.now) fs (g.S.Shelf.state c.read_release.new.shelf) (c.in_err-judge.ensures.judged it.0 it.2) same)

pub returns-in_err-judge-clause-cause : goal.returns-in_err-judge-clause-cause
returns-in_err-judge-clause-cause g c =
    let p = err_from_is_err_and c.from_residual-in_err-judge.result c.from_residual-in_err-judge.ensures.1 in
    let was = c.in_ok-read.ensures.released in
    let why = c.in_err-judge.field-0.0 in
    rw (p.1, p.2) (λ e is. let same : why ≡ stop.Inputs e = cc in judged-cause was.released why e _ _ (c.in_err-judge.ensures.judged was.released was.is) same)

pub returns-clause-told : goal.returns-clause-told
returns-clause-told g c =
    λ fs told.
    let it = ok-and (λ released. IsReleasedOf released c.in_ok-read.read) (released_of fs c.args.name.now) (c.in_ok-read.ensures.looked.told fs told) in
    subst (λ (o : Result ReleasedFiles Fault). IsReadReleaseAnswer o (Ok c.judge.new.read)) (sym it.1)
    (record { is = still-released it.0 c.in_ok-read.read c.judge.new.read c.in_ok-judge.ensures.same it.2; accepted = c.in_ok-judge.ensures.judged it.0 it.2 })

pub returns-clause-accepted : goal.returns-clause-accepted
returns-clause-accepted g c =
    let was = c.in_ok-read.ensures.released in
    record {
      ready = still-judged c.in_ok-read.read c.judge.new.read c.in_ok-judge.ensures.same c.in_ok-read.ensures.looked.sound;
      released = was.released;
      accepted = record { is = still-released was.released c.in_ok-read.read c.judge.new.read c.in_ok-judge.ensures.same was.is; accepted = c.in_ok-judge.ensures.judged was.released was.is };
      sound = was.sound;
    }
