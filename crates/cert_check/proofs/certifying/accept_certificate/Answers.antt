use Rattle.std.proofs.Common.{Result, sym, subst}
use Rattle.sdc_base.specs.Answers.{Gives}
use Rattle.cert_check.specs.declared.faults.CheckFault.{CheckFault}
use Rattle.cert_check.specs.Acceptance.{IsAccepted, IsOfCase}
use Rattle.cert_check.specs.FirstFault.{check_fault_of, acceptance_fault}
use Rattle.cert_check.specs.OwnTexts.{own_texts}
use Rattle.cert_check.proofs.AcceptedWhole.{accepted_where, of_case_where}
use Rattle.cert_check.proofs.OwnTables.{own_fault, accepted_with}
use Rattle.cert_check.proofs.certifying.accept_certificate.Goals as goal

pub returns-clause-exact : goal.returns-clause-exact
returns-clause-exact c =
    subst (λ (meant : Result (Unit {0}) CheckFault). Gives check_fault_of (λ hidden. tt) c.certify.result meant) (sym (own_fault c.args.case.now c.args.certificate.now c.requires.hides)) c.certify.ensures.exact

pub returns-clause-of_case : goal.returns-clause-of_case
returns-clause-of_case c =
    let own = own_texts c.args.case.now c.args.certificate.now in
    accepted_with c.certify.result (acceptance_fault c.args.case.now own c.args.certificate.now) (IsOfCase c.args.case.now c.args.certificate.now)
    (subst (λ (meant : Result (Unit {0}) CheckFault). Gives check_fault_of (λ hidden. tt) c.certify.result meant) (sym (own_fault c.args.case.now c.args.certificate.now c.requires.hides)) c.certify.ensures.exact)
    (of_case_where c.args.case.now own c.args.certificate.now)

pub returns-clause-shown : goal.returns-clause-shown
returns-clause-shown c =
    let own = own_texts c.args.case.now c.args.certificate.now in
    accepted_with c.certify.result (acceptance_fault c.args.case.now own c.args.certificate.now) (IsAccepted c.args.case.now own c.args.certificate.now)
    (subst (λ (meant : Result (Unit {0}) CheckFault). Gives check_fault_of (λ hidden. tt) c.certify.result meant) (sym (own_fault c.args.case.now c.args.certificate.now c.requires.hides)) c.certify.ensures.exact)
    (accepted_where c.args.case.now own c.args.certificate.now c.requires.is_case c.requires.hides)
