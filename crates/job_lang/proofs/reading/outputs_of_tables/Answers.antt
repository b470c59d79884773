use Rattle.std.proofs.Common.{◌+◌, ◌-◌, sym, ◌∙◌, arith}
use Rattle.std.proofs.lemmas.Result.{err_from_is_err_and}
use Rattle.job_lang.proofs.OutputLists.{outputs_go_on, outputs_stop, outputs_end}
use Rattle.job_lang.proofs.reading.outputs_of_tables.Goals as goal

pub returns-in_err-output : goal.returns-in_err-output
returns-in_err-output c =
    let p = err_from_is_err_and c.from_residual.result c.from_residual.ensures.1 in
    rw (p.1, p.2, ← c.loop-place.invariant)
    (outputs_stop c.in_err-output.field-0.0 (c.args.count - c.loop-place.place) (c.args.count - (c.loop-place.place + 1)) c.loop-place.place c.loop-place.outputs _ (omega arith) c.in_err-output.ensures)

pub loop-place-preserved : goal.loop-place-preserved
loop-place-preserved c =
    rw c.in_ok-push.ensures.ok
    (outputs_go_on (c.args.count - c.loop-place.place) (c.args.count - (c.loop-place.place + 1)) c.loop-place.place c.loop-place.outputs _ _ (omega arith) c.in_ok-output.ensures ∙ c.loop-place.invariant)

pub returns : goal.returns
returns c = sym c.loop-place.invariant ∙ outputs_end (c.args.count - c.loop-place.place) _ c.loop-place.outputs _ (omega arith)
