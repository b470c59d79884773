use Rattle.std.proofs.Common.{List, ℕ, ap, sym, ◌∙◌}
use Rattle.std.proofs.lemmas.Result.{err_from_is_err_and}
use Rattle.certificate.specs.Certificates.{is_next}
use Rattle.certificate.proofs.LineSteps.{items_go_on, items_fail, items_end, item_smaller}
use Rattle.certificate.proofs.line_kind.read_items.Goals as goal

pub returns-in_err-item : goal.returns-in_err-item
returns-in_err-item g c =
    let p = err_from_is_err_and c.from_residual.result c.from_residual.ensures.1 in
    let named = sym (ap (λ (w : List ℕ). is_next w c.lines.reader.lines) c.first_word.ensures) ∙ sym c.is_next.ensures ∙ c.lines-test.true in
    rw (p.1, p.2, ← c.lines.invariant) (items_fail c.in_err-item.field-0.0 (g.K.LineKind.word c.args.kind.now) (g.K.LineKind.meaning c.args.kind.now) c.lines.items c.lines.reader.given c.lines.reader.lines named c.in_err-item.ensures)

pub lines-smaller : goal.lines-smaller
lines-smaller g c = item_smaller (g.K.LineKind.word c.args.kind.now) (g.K.LineKind.meaning c.args.kind.now) c.lines.reader.given c.lines.reader.lines _ _ c.in_ok-item.ensures

pub lines-preserved : goal.lines-preserved
lines-preserved g c =
    let named = sym (ap (λ (w : List ℕ). is_next w c.lines.reader.lines) c.first_word.ensures) ∙ sym c.is_next.ensures ∙ c.lines-test.true in
    rw c.in_ok-push.ensures.ok (items_go_on (g.K.LineKind.word c.args.kind.now) (g.K.LineKind.meaning c.args.kind.now) c.lines.items c.lines.reader.given c.lines.reader.lines _ _ named c.in_ok-item.ensures ∙ c.lines.invariant)

pub returns : goal.returns
returns g c =
    let other = sym (ap (λ (w : List ℕ). is_next w c.lines.reader.lines) c.first_word.ensures) ∙ sym c.is_next.ensures ∙ c.lines-test.false in
    sym c.lines.invariant ∙ items_end (g.K.LineKind.word c.args.kind.now) (g.K.LineKind.meaning c.args.kind.now) c.lines.items c.lines.reader.given c.lines.reader.lines other
