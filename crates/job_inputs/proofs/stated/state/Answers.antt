use Rattle.std.proofs.Common.{List, Result, refl, subst, sym, ◌∙◌}
use Rattle.sdc_base.specs.Answers.{Fails}
use Rattle.apriori.specs.Faults.{LineOf, prior_fault_of}
use Rattle.apriori.specs.declared.faults.PriorWhy.{PriorWhy}
use Rattle.apriori.specs.declared.prior.Prior.{Prior}
use Rattle.job_inputs.proofs.Stating.{apply-same}
use Rattle.job_inputs.proofs.Refusing.{prior_refuses}
use Rattle.job_inputs.proofs.stated.state.Goals as goal

pub returns-in-Ok-clause-told : goal.returns-in-Ok-clause-told
returns-in-Ok-clause-told c = λ inputs is.
    let same = sym (apply-same inputs c.args.counted.now c.args.t c.args.line.now c.args.bytes.now c.args.priors.now.items is) ∙ c.in-Ok.ensures.exact in
    rw same refl

pub returns-in-Err-clause-told : goal.returns-in-Err-clause-told
returns-in-Err-clause-told c = λ inputs is.
    let e = c.in-Err.error in
    let same = apply-same inputs c.args.counted.now c.args.t c.args.line.now c.args.bytes.now c.args.priors.now.items is in
    rw (c.prior_refusal.ensures) (prior_refuses e _ (subst (λ (r : Result (List Prior) (LineOf × PriorWhy)). Fails (prior_fault_of e) r) same c.in-Err.ensures.exact))
