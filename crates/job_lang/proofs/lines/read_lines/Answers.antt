use Rattle.std.proofs.Common.{ap, sym, ◌∙◌, length, arith, refl}
use Rattle.std.proofs.lemmas.Result.{err_from_is_err_and}
use Rattle.job_lang.proofs.LineSteps.{lines_next, lines_stop, lines_end}
use Rattle.job_lang.proofs.lines.read_lines.Goals as goal

pub overflow_cast-line : goal.overflow_cast-line
overflow_cast-line c =
    let more = ap length c.in-Some.ensures.text in
    omega (arith, more, c.in-Some.ensures.number, c.lines-reader.ensures.no_more_than_bytes)

pub each-preserved : goal.each-preserved
each-preserved c =
    let more = ap length c.in-Some.ensures.text in
    record {
      said = lines_next c.each.reader.given c.in-Some.line.number _ c.each.draft _ _ _ _ c.in-Some.ensures.text c.in-Some.ensures.number c.in-Some.ensures.given c.in_ok-read_line.ensures ∙ c.each.invariant.said;
      count = omega (arith, more, c.in-Some.ensures.number, c.in-Some.ensures.given);
    }

pub returns-in_err-read_line : goal.returns-in_err-read_line
returns-in_err-read_line c =
    let p = err_from_is_err_and c.from_residual.result c.from_residual.ensures.1 in
    rw (p.1, p.2, ← c.each.invariant.said) (lines_stop c.in_err-read_line.field-0.0 c.each.reader.given c.in-Some.line.number c.each.draft _ _ _ c.in-Some.ensures.text c.in-Some.ensures.number c.in_err-read_line.ensures)

pub returns : goal.returns
returns c = sym c.each.invariant.said ∙ lines_end c.each.reader.given c.each.draft _ (c.in_default.ensures.end.0 refl)
