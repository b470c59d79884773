use Rattle.std.proofs.Common.{Ok, ap, sym, ◌∙◌}
use Rattle.std.proofs.lemmas.Result.{err_from_is_err_and}
use Rattle.job_inputs.specs.PriorStatements.{prior_line}
use Rattle.job_inputs.proofs.Causes.{come-on, cause-as, stop-fails, contents-come, contents-cause}
use Rattle.job_inputs.proofs.Stating.{prior-file-stops, prior-contents-stop, prior-file-is}
use Rattle.job_inputs.proofs.stated.add_file.Goals as goal

pub returns-in_err-bytes : goal.returns-in_err-bytes
returns-in_err-bytes g c =
    let p = err_from_is_err_and c.from_residual.result c.from_residual.ensures.1 in
    let e = c.in_err-bytes.field-0.0 in
    let line = c.in-Some.line.now in
    let stands = sym (c.in-Some.ensures ∙ ap (prior_line c.args.t) c.as_slice.ensures) in
    let look = c.in_err-bytes.ensures in
    rw (p.1, p.2) (record {
      told = λ fs told inputs is. prior-file-stops fs inputs c.args.t (prior_line c.args.t c.args.counted.now.described.job.priors) line _ _ stands (look.told fs told);
      came_to = λ fs told. come-on e _ _ fs (g.S.Shelf.state c.load.new.shelf) (λ f held comes. (line, stands, comes.is_file, comes.is_name)) (look.came_to fs told);
      shelf = look.shelf;
      cause = cause-as e _ _ look.cause;
      sound = tt;
    })

pub returns-in_err-state : goal.returns-in_err-state
returns-in_err-state g c =
    let p = err_from_is_err_and c.from_residual-in_err-state.result c.from_residual-in_err-state.ensures.1 in
    let r = c.in_err-state.field-0.0 in
    let line = c.in-Some.line.now in
    let stands = sym (c.in-Some.ensures ∙ ap (prior_line c.args.t) c.as_slice.ensures) in
    let first = c.in_ok-bytes.ensures in
    rw (p.1, p.2) (record {
      told = λ fs told inputs is.
          stop-fails r _
          (prior-contents-stop fs inputs c.args.t (prior_line c.args.t c.args.counted.now.described.job.priors) line c.as_slice-2.result.now _ _ stands (first.told fs told ∙ ap Ok (sym c.as_slice-2.ensures.value)) (c.in_err-state.ensures.told inputs is));
      came_to = λ fs told. contents-come r _ fs (g.S.Shelf.state c.load.new.shelf);
      shelf = first.shelf;
      cause = contents-cause r _ _ c.in_err-state.ensures.contents;
      sound = tt;
    })

pub returns : goal.returns
returns g c =
    let line = c.in-Some.line.now in
    let stands = sym (c.in-Some.ensures ∙ ap (prior_line c.args.t) c.as_slice.ensures) in
    let first = c.in_ok-bytes.ensures in
    record {
      told = λ fs told inputs is.
          prior-file-is fs inputs c.args.t (prior_line c.args.t c.args.counted.now.described.job.priors) line c.as_slice-2.result.now _ _ stands
          (first.told fs told ∙ ap Ok (sym c.as_slice-2.ensures.value)) (c.in_ok-state.ensures.told inputs is);
      came_to = λ fs told f is. absurd cc;
      shelf = first.shelf;
      cause = record { absent = λ f is. absurd cc; too_long = λ f is. absurd cc; read_fault = λ f is. absurd cc; tree = λ f is. absurd cc };
      sound = c.in_ok-state.ensures.fit;
    }
