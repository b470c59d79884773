use Rattle.std.proofs.Common.{◌≡◌, ◌++◌, ◌∷◌, ◌+◌, ◌-◌, ◌<◌, [], All, List, ℕ, arith, ap, filter, length, map, subst, sym, true, false, ◌∙◌}
use Rattle.std.specs.List.{range_with_len}
use Rattle.std.proofs.lemmas.List.Elements.{All-push}
use Rattle.std.proofs.lemmas.Result.{err_from_is_err_and}
use Rattle.sdc_base.specs.Kinds.{is_primary_at}
use Rattle.sdc_base.specs.declared.system.System.{System}
use Rattle.cell_intervals.specs.IntervalFaults.{HasBothEnds}
use Rattle.rounding_audit.specs.Audits.{HasWholeEnds, IsAuditedCell, primary_cells}
use Rattle.rounding_audit.specs.Readers.{all_hidden}
use Rattle.rounding_audit.specs.declared.audited.AuditedCell.{AuditedCell}
use Rattle.rounding_audit.proofs.Primaries.{below_next, fault_at, next_in, next_out, numbers_more, primary_at, small_where_ended}
use Rattle.rounding_audit.proofs.auditing.audit_cells.Goals as goal
use Rattle.rounding_audit.proofs.auditing.audit_cells.Goals.{then-is_primary+in_ok-one+in_ok-push, else-is_primary}

pub returns-in_err-one-clause-fault : goal.returns-in_err-one-clause-fault
returns-in_err-one-clause-fault c =
    let r = c.args.reader.now in
    let number = c.cells.number in
    let below : number < r.system.now.cells = subst (λ (own : System). number < own.cells) c.system.ensures c.cells-test.true in
    let inside : number < length r.cells.now = omega (arith, below, r.each_cell) in
    let primary : is_primary_at r.cells.now number ≡ true = primary_at r.cells.now number c.index-reader-number.result inside ∙ sym c.is_primary.ensures ∙ c.if-is_primary.true in
    let p = err_from_is_err_and c.from_residual.result c.from_residual.ensures.1 in
    rw (p.1, p.2) (fault_at r.system.now r.cells.now r.known.now c.args.limit number c.in_err-one.field-0.0 primary c.cells.invariant.ended c.in_err-one.ensures.cause)

pub cells-preserved : goal.cells-preserved
cells-preserved c =
    let r = c.args.reader.now in
    let number = c.cells.number in
    let P : AuditedCell → Type 0 = IsAuditedCell r.system.now r.cells.now r.values.now r.base in
    let test = is_primary_at r.cells.now in
    let rest : List ℕ = filter test (range_with_len (number + 1) (r.system.now.cells - (number + 1))) in
    let below : number < r.system.now.cells = subst (λ (own : System). number < own.cells) c.system.ensures c.cells-test.true in
    let inside : number < length r.cells.now = omega (arith, below, r.each_cell) in
    let kind = primary_at r.cells.now number c.index-reader-number.result inside ∙ sym c.is_primary.ensures in
    elim c.if-is_primary.branch [
      | then-is_primary+in_ok-one+in_ok-push w ↦
          let one : AuditedCell = w.in_ok-one.one in
          let primary : test number ≡ true = kind ∙ w.if-is_primary.true in
          let grown : c.if-is_primary.audited ≡ c.cells.audited ++ one ∷ [] = w.audited-is ∙ w.in_ok-push.ensures.ok in
          record {
            numbers =
                ap (λ (numbers : List ℕ). numbers ++ rest) (numbers_more c.cells.audited one number c.if-is_primary.audited grown w.in_ok-one.ensures.number)
                ∙ next_in test r.system.now.cells (map (λ (cell : AuditedCell). cell.cell) c.cells.audited) (primary_cells r.cells.now) number below primary c.cells.invariant.numbers;
            each = subst (All P) (sym grown) (All-push P c.cells.audited one c.cells.invariant.each w.in_ok-one.ensures.right);
            whole = λ signs are. subst (All HasWholeEnds) (sym grown) (All-push HasWholeEnds c.cells.audited one (c.cells.invariant.whole signs are) (w.in_ok-one.ensures.whole signs are));
            ended = below_next (HasBothEnds r.system.now r.known.now (all_hidden r.system.now.cells)) test number c.cells.invariant.ended (λ _. w.in_ok-one.ensures.ended);
          }
      | else-is_primary w ↦
          let other : test number ≡ false = kind ∙ w.if-is_primary.false in
          let same : c.if-is_primary.audited ≡ c.cells.audited = w.audited-is in
          record {
            numbers =
                ap (λ (audited : List AuditedCell). map (λ (cell : AuditedCell). cell.cell) audited ++ rest) same
                ∙ next_out test r.system.now.cells (map (λ (cell : AuditedCell). cell.cell) c.cells.audited) (primary_cells r.cells.now) number below other c.cells.invariant.numbers;
            each = subst (All P) (sym same) c.cells.invariant.each;
            whole = λ signs are. subst (All HasWholeEnds) (sym same) (c.cells.invariant.whole signs are);
            ended = below_next (HasBothEnds r.system.now r.known.now (all_hidden r.system.now.cells)) test number c.cells.invariant.ended (λ primary. let clash : false ≡ true = sym other ∙ primary in absurd cc);
          }
    ]

pub returns-clause-small : goal.returns-clause-small
returns-clause-small c =
    let r = c.args.reader.now in
    let many : r.system.now.cells ≡ c.system.result.now.cells = ap (λ (own : System). own.cells) (sym c.system.ensures) in
    small_where_ended r.system.now r.cells.now r.known.now c.cells.number (omega (arith, many, c.cells-test.false, r.each_cell)) c.cells.invariant.ended
