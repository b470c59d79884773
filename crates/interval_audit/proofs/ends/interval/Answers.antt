use Rattle.std.proofs.Common.{sym, subst}
use Rattle.std.proofs.lemmas.Result.{err_from_is_err_and}
use Rattle.sdc_base.specs.declared.system.System.{System}
use Rattle.interval_audit.specs.Outcomes.{CanBeAsked, IsIntervalOutcome}
use Rattle.interval_audit.proofs.Outcomes.{interval_memory}
use Rattle.interval_audit.proofs.ends.interval.Goals as goal

pub returns-in_err-signed : goal.returns-in_err-signed
returns-in_err-signed c =
    let p = err_from_is_err_and c.from_residual.result c.from_residual.ensures.1 in
    rw (p.1, p.2) (interval_memory c.args.system.now c.args.cells.now c.args.hidden.now.flags c.args.cell c.args.limit)

pub signed_interval-requires : goal.signed_interval-requires
signed_interval-requires c =
    subst (λ (own : System). CanBeAsked own c.args.cells.now c.args.hidden.now.flags c.args.cell c.args.limit) (sym c.in_ok-signed.ensures) c.requires

pub returns : goal.returns
returns c =
    subst (λ (own : System). IsIntervalOutcome own c.args.cells.now c.args.hidden.now.flags c.args.cell c.args.limit c.signed_interval.result) c.in_ok-signed.ensures c.signed_interval.ensures
