use Rattle.std.proofs.Common.{sym, subst}
use Rattle.std.proofs.lemmas.Result.{err_from_is_err_and}
use Rattle.sdc_base.specs.declared.system.System.{System}
use Rattle.interval_audit.specs.Outcomes.{CanBeAsked, IsQuestionOutcome}
use Rattle.interval_audit.proofs.Outcomes.{question_memory}
use Rattle.interval_audit.proofs.asking.ask.Goals as goal

pub returns-in_err-signed : goal.returns-in_err-signed
returns-in_err-signed c =
    let p = err_from_is_err_and c.from_residual.result c.from_residual.ensures.1 in
    rw (p.1, p.2) (question_memory c.args.system.now c.args.cells.now c.args.hidden.now.flags c.args.question c.args.limit)

pub ask-requires : goal.ask-requires
ask-requires c =
    subst (λ (own : System). CanBeAsked own c.args.cells.now c.args.hidden.now.flags c.args.question.cell c.args.limit) (sym c.in_ok-signed.ensures) c.requires

pub returns : goal.returns
returns c =
    subst (λ (own : System). IsQuestionOutcome own c.args.cells.now c.args.hidden.now.flags c.args.question c.args.limit c.ask.result) c.in_ok-signed.ensures c.ask.ensures
