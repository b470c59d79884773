use Rattle.std.proofs.Common.{arith, Err, ap, sym, ◌∙◌}
use Rattle.std.proofs.lemmas.Result.{err_from_is_err_and}
use Rattle.office_io.specs.Trays.{TrayState}
use Rattle.job_run.proofs.PutSteps.{put-more, put-part, some-whole, counted-more}
use Rattle.job_run.proofs.puts.put_files.Goals as goal

pub loop-next-preserved : goal.loop-next-preserved
loop-next-preserved g c = record {
  done = put-more c.args.puts.now c.loop-next.next-index c.next-item.result _ _ _ c.loop-next-test.true c.next-item.is c.loop-next.invariant.done c.in_ok-put_file.ensures.has_put.files;
  none = λ none. absurd (omega arith);
  once = λ _. counted-more _ _ _ c.loop-next.next-index (λ first. ap (λ (t : TrayState). t.puts) (c.loop-next.invariant.none first)) c.loop-next.invariant.once c.in_ok-put_file.ensures.has_put.puts;
  faults = omega (arith, c.loop-next.invariant.faults, c.put_file.ensures.faults_stay);
}

pub returns-in_err-put_file-clause-part : goal.returns-in_err-put_file-clause-part
returns-in_err-put_file-clause-part g c =
    λ f is.
    let p = err_from_is_err_and c.from_residual.result c.from_residual.ensures.1 in
    let part = c.in_err-put_file.ensures.part f (ap Err (sym p.2) ∙ sym p.1 ∙ is) in
    put-part c.args.puts.now c.loop-next.next-index c.next-item.result f _ _ _ c.loop-next-test.true c.next-item.is part.0 c.loop-next.invariant.done c.loop-next.invariant.none c.loop-next.invariant.once part.1

pub returns-in_err-put_file-clause-memory : goal.returns-in_err-put_file-clause-memory
returns-in_err-put_file-clause-memory g c =
    λ is.
    let p = err_from_is_err_and c.from_residual.result c.from_residual.ensures.1 in
    some-whole c.args.puts.now c.loop-next.next-index _ _ _ c.loop-next-test.true c.loop-next.invariant.done c.loop-next.invariant.none c.loop-next.invariant.once (c.in_err-put_file.ensures.memory (ap Err (sym p.2) ∙ sym p.1 ∙ is))
