use Rattle.std.proofs.Common.{◌≡◌, ◌∙◌, ℕ, List, ap, length, of_z, refl, subst, sym, to_z, true}
use Rattle.std.specs.Int.{w128}
use Rattle.std.proofs.lemmas.Int.{to_z-of_z}
use Rattle.std.proofs.lemmas.List.{length-replicate}
use Rattle.std.proofs.lemmas.Result.{err_from_is_err_and}
use Rattle.sdc_base.specs.declared.cell.Cell.{Cell}
use Rattle.sdc_base.specs.declared.system.System.{System}
use Rattle.sdc_base.specs.Patterns.{IsPattern}
use Rattle.sdc_base.specs.Kinds.{is_primary_at}
use Rattle.sdc_base.specs.Roundings.{IsRounding}
use Rattle.sdc_base.specs.Signs.{AreSigns}
use Rattle.cell_intervals.specs.IntervalFaults.{HasSmallComponent}
use Rattle.rounding_audit.specs.AuditFaults.{IsQuestionFault}
use Rattle.rounding_audit.specs.Audits.{IsAudit}
use Rattle.rounding_audit.specs.ReaderFaults.{truths_of}
use Rattle.rounding_audit.specs.Readers.{AreReaderCells, all_hidden}
use Rattle.rounding_audit.proofs.Ending.{known_few}
use Rattle.rounding_audit.proofs.Primaries.{fault_of_audit, question_no_walk, reader_no_walk}
use Rattle.rounding_audit.proofs.auditing.audit_of.Goals as goal

pub invariant_of-reader : goal.invariant_of-reader
invariant_of-reader c =
    let known = c.in_ok-known.ensures.known in
    let are = subst (λ (cells : List Cell). AreReaderCells c.args.cells.now c.args.values.now (to_z w128 (of_z w128 c.args.base)) cells) (sym c.as_slice.ensures) known in
    record {
      each_cell = c.requires.can.each_cell ∙ ap (λ (own : System). own.cells) (sym c.in_ok-signed.ensures);
      known_are = are;
      flags = c.in_ok-hidden.ensures ∙ ap (λ (own : System). all_hidden own.cells) (sym c.in_ok-signed.ensures);
      ground = subst (λ (own : System). IsPattern own c.as_slice.result.now c.in_ok-hidden.hidden.flags) (sym c.in_ok-signed.ensures) (record {
        each_cell = are.each ∙ c.requires.can.each_cell;
        each_flag = ap length c.in_ok-hidden.ensures ∙ length-replicate c.args.system.now.cells true;
      });
      truths = known_few c.args.cells.now c.args.values.now (to_z w128 (of_z w128 c.args.base)) c.as_slice.result.now are c.requires.can.truths;
    }

pub returns-in_err-audited-clause-fault : goal.returns-in_err-audited-clause-fault
returns-in_err-audited-clause-fault c =
    let e = c.in_err-audited.field-0.0 in
    let own = subst (λ (own : System). IsQuestionFault own c.args.cells.now c.as_slice.result.now c.args.limit e) c.in_ok-signed.ensures c.in_err-audited.ensures.fault in
    let fault = subst (λ (known : List Cell). IsQuestionFault c.args.system.now c.args.cells.now known c.args.limit e) c.as_slice.ensures own in
    let known = subst (λ base. AreReaderCells c.args.cells.now c.args.values.now base c.in_ok-known.known) (to_z-of_z w128 c.args.base c.ranges.base) c.in_ok-known.ensures.known in
    let p = err_from_is_err_and c.from_residual-in_err-audited.result c.from_residual-in_err-audited.ensures.1 in
    let rounding = subst (λ base. IsRounding c.args.system.now (truths_of c.args.cells.now) base c.args.values.now) (to_z-of_z w128 c.args.base c.ranges.base) (c.in_ok-known.ensures.rounded refl) in
    rw (p.1, p.2) (fault_of_audit c.args.system.now c.args.cells.now c.args.values.now c.args.base c.in_ok-known.known c.args.limit e rounding known fault)

pub returns-in_err-audited-clause-signed : goal.returns-in_err-audited-clause-signed
returns-in_err-audited-clause-signed c = λ signs are.
    let p = err_from_is_err_and c.from_residual-in_err-audited.result c.from_residual-in_err-audited.ensures.1 in
    rw (p.1, p.2) (question_no_walk c.in_err-audited.field-0.0 (c.in_err-audited.ensures.signed signs (subst (λ (own : System). AreSigns own.relations signs) (sym c.in_ok-signed.ensures) are)))

pub returns-in_err-known-clause-signed : goal.returns-in_err-known-clause-signed
returns-in_err-known-clause-signed c = λ signs are.
    let p = err_from_is_err_and c.from_residual.result c.from_residual.ensures.1 in
    rw (p.1, p.2) (reader_no_walk c.in_err-known.field-0.0)

pub returns-clause-audit : goal.returns-clause-audit
returns-clause-audit c =
    subst (λ base. IsAudit c.args.system.now c.args.cells.now c.args.values.now base c.in_ok-audited.audited) (to_z-of_z w128 c.args.base c.ranges.base)
    (subst (λ (own : System). IsAudit own c.args.cells.now c.args.values.now (to_z w128 (of_z w128 c.args.base)) c.in_ok-audited.audited) c.in_ok-signed.ensures c.in_ok-audited.ensures.audit)

pub returns-clause-whole : goal.returns-clause-whole
returns-clause-whole c = λ signs are. c.in_ok-audited.ensures.whole signs (subst (λ (own : System). AreSigns own.relations signs) (sym c.in_ok-signed.ensures) are)

pub returns-clause-small : goal.returns-clause-small
returns-clause-small c =
    subst (λ (own : System). (number : ℕ) → is_primary_at c.args.cells.now number ≡ true → HasSmallComponent own (all_hidden own.cells) number) c.in_ok-signed.ensures c.in_ok-audited.ensures.small

pub returns-in-Some-clause-audit : goal.returns-in-Some-clause-audit
returns-in-Some-clause-audit c =
    subst (λ base. IsAudit c.args.system.now c.args.cells.now c.args.values.now base c.in-Some.found) (to_z-of_z w128 c.args.base c.ranges.base)
    (subst (λ (own : System). IsAudit own c.args.cells.now c.args.values.now (to_z w128 (of_z w128 c.args.base)) c.in-Some.found) c.in_ok-signed.ensures c.in-Some.ensures.audit)

pub returns-in-Some-clause-whole : goal.returns-in-Some-clause-whole
returns-in-Some-clause-whole c = λ signs are. absurd (c.in-Some.ensures.no_signs signs (subst (λ (own : System). AreSigns own.relations signs) (sym c.in_ok-signed.ensures) are))

pub returns-in-Some-clause-small : goal.returns-in-Some-clause-small
returns-in-Some-clause-small c =
    subst (λ (own : System). (number : ℕ) → is_primary_at c.args.cells.now number ≡ true → HasSmallComponent own (all_hidden own.cells) number) c.in_ok-signed.ensures c.in-Some.ensures.small
