use Rattle.std.proofs.Common.{◌∙◌, ℕ, List, Option, Ok, refl, ap, sym, subst, length}
use Rattle.std.proofs.lemmas.Result.{err_from_is_err_and}
use Rattle.sdc_base.specs.declared.rows.Row.{Row}
use Rattle.attackers.specs.Alone.{AreSoles}
use Rattle.job_check.proofs.Judgements.{guarded-so, plain-accepted, plain-fault}
use Rattle.job_check.proofs.judging.judge_case.Goals as goal

pub returns-in_ok-soles-in-Some : goal.returns-in_ok-soles-in-Some
returns-in_ok-soles-in-Some c = λ settled is same.
    let book = c.args.case.now.book.now in
    let soles = c.in_ok-soles-in-Some.soles.items in
    guarded-so c.args.case.now settled c.deref.result.now c.args.certificate.now c.in-Some.extra c.args.extra.now c.args.tables.now c.accept_guarded.result c.in-Some.is c.accept_guarded.ensures.exact c.accept_guarded.ensures.shows is c.requires.is_case
    (record {
      one_each = ap length c.deref.ensures.value ∙ c.in_ok-soles-in-Some.ensures.one_each;
      are_soles = subst (λ (all : List (Option ℕ)). AreSoles book settled.inputs.records.rows all) (sym c.deref.ensures.value) (subst (λ (rows : List Row). AreSoles book rows soles) same c.in_ok-soles-in-Some.ensures.soles);
    })

pub returns-in_err-accept-in-None : goal.returns-in_err-accept-in-None
returns-in_err-accept-in-None c = λ settled is same.
    let p = err_from_is_err_and c.from_residual-in_err-accept-in-None.result c.from_residual-in_err-accept-in-None.ensures.1 in
    rw (p.1, p.2)
    (plain-fault c.args.case.now settled c.args.certificate.now c.args.extra.now c.args.tables.now c.in_err-accept-in-None.field-0.0 c.in-None.is c.in_err-accept-in-None.ensures.exact is c.requires.is_case)

pub returns-in_ok-accept-in-None : goal.returns-in_ok-accept-in-None
returns-in_ok-accept-in-None c = λ settled is same.
    plain-accepted c.args.case.now settled c.args.certificate.now c.args.extra.now c.args.tables.now (Ok tt) c.in-None.is refl c.in_ok-accept-in-None.ensures.of_case c.in_ok-accept-in-None.ensures.suppressed c.in_ok-accept-in-None.ensures.rounded
    c.in_ok-accept-in-None.ensures.exact is c.requires.is_case
