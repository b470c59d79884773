use Rattle.std.proofs.Common.{◌≡◌, ◌++◌, ◌∷◌, ◌+◌, ◌-◌, ◌<◌, [], All, List, ℕ, arith, ap, filter, length, map, subst, sym, true, false, ◌∙◌}
use Rattle.std.specs.List.{range_with_len}
use Rattle.std.proofs.lemmas.List.Elements.{All-push}
use Rattle.sdc_base.specs.Kinds.{is_primary_at}
use Rattle.sdc_base.specs.declared.system.System.{System}
use Rattle.rounding_audit.specs.Audits.{IsAuditedCell, primary_cells}
use Rattle.rounding_audit.specs.declared.audited.AuditedCell.{AuditedCell}
use Rattle.rounding_audit.proofs.Primaries.{next_in, next_out, numbers_more, primary_at, small_where_searched}
use Rattle.rounding_audit.proofs.auditing.find_cells.Goals as goal
use Rattle.rounding_audit.proofs.auditing.find_cells.Goals.{then-is_primary+in_ok-one+in-Ok, else-is_primary}

pub cells-preserved : goal.cells-preserved
cells-preserved c =
    let r = c.args.reader.now in
    let number = c.cells.number in
    let P : AuditedCell → Type 0 = IsAuditedCell r.system.now r.cells.now r.values.now r.base in
    let test = is_primary_at r.cells.now in
    let rest : List ℕ = filter test (range_with_len (number + 1) (r.system.now.cells - (number + 1))) in
    let below : number < r.system.now.cells = subst (λ (own : System). number < own.cells) c.system.ensures c.cells-test.true in
    let inside : number < length r.cells.now = omega (arith, below, r.each_cell) in
    let kind = primary_at r.cells.now number c.index-reader-number.result inside ∙ sym c.is_primary.ensures in
    elim c.if-is_primary.branch [
      | then-is_primary+in_ok-one+in-Ok w ↦
          let one : AuditedCell = w.in_ok-one.one in
          let primary : test number ≡ true = kind ∙ w.if-is_primary.true in
          let grown : c.if-is_primary.audited ≡ c.cells.audited ++ one ∷ [] = w.audited-is ∙ w.in-Ok.ensures.ok in
          record {
            numbers =
                ap (λ (numbers : List ℕ). numbers ++ rest) (numbers_more c.cells.audited one number c.if-is_primary.audited grown w.in_ok-one.ensures.number)
                ∙ next_in test r.system.now.cells (map (λ (cell : AuditedCell). cell.cell) c.cells.audited) (primary_cells r.cells.now) number below primary c.cells.invariant.numbers;
            each = subst (All P) (sym grown) (All-push P c.cells.audited one c.cells.invariant.each w.in_ok-one.ensures.right);
          }
      | else-is_primary w ↦
          let other : test number ≡ false = kind ∙ w.if-is_primary.false in
          let same : c.if-is_primary.audited ≡ c.cells.audited = w.audited-is in
          record {
            numbers =
                ap (λ (audited : List AuditedCell). map (λ (cell : AuditedCell). cell.cell) audited ++ rest) same
                ∙ next_out test r.system.now.cells (map (λ (cell : AuditedCell). cell.cell) c.cells.audited) (primary_cells r.cells.now) number below other c.cells.invariant.numbers;
            each = subst (All P) (sym same) c.cells.invariant.each;
          }
    ]

pub returns-clause-small : goal.returns-clause-small
returns-clause-small c =
    let r = c.args.reader.now in
    small_where_searched r.system.now r.cells.now r.hidden.now.flags r.each_cell r.flags c.in_ok-search.ensures.small
