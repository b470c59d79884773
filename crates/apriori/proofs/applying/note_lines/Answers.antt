use Rattle.std.proofs.Common.{ap, sym, ◌∙◌, length, arith, refl}
use Rattle.std.proofs.lemmas.Result.{err_from_is_err_and}
use Rattle.apriori.specs.KnownCells.{basis_of}
use Rattle.apriori.proofs.Notes.{lines_next, lines_stop, lines_end}
use Rattle.apriori.proofs.applying.note_lines.Goals as goal

pub overflow_cast-line : goal.overflow_cast-line
overflow_cast-line c =
    let more = ap length c.in-Some.ensures.text in
    omega (arith, more, c.in-Some.ensures.number, c.lines-reader.ensures.no_more_than_bytes)

pub lines-preserved : goal.lines-preserved
lines-preserved c =
    let more = ap length c.in-Some.ensures.text in
    record {
      told = lines_next (basis_of c.args.book.now) c.args.form c.lines.reader.given c.in-Some.line.number _ c.lines.priors.items _ _ _ _ c.in-Some.ensures.text c.in-Some.ensures.number c.in-Some.ensures.given c.in_ok-note_line.ensures.exact ∙ c.lines.invariant.told;
      count = omega (arith, more, c.in-Some.ensures.number, c.in-Some.ensures.given);
      few = omega (arith, c.in-Some.ensures.bytes, c.lines.invariant.few);
      priors = c.in_ok-note_line.ensures.priors;
    }

pub returns-in_err-note_line-clause-exact : goal.returns-in_err-note_line-clause-exact
returns-in_err-note_line-clause-exact c =
    let p = err_from_is_err_and c.from_residual.result c.from_residual.ensures.1 in
    rw (p.1, p.2, ← c.lines.invariant.told) (lines_stop c.in_err-note_line.field-0.0 (basis_of c.args.book.now) c.args.form c.lines.reader.given c.in-Some.line.number c.lines.priors.items _ _ _ c.in-Some.ensures.text c.in-Some.ensures.number c.in_err-note_line.ensures.exact)

pub returns-clause-exact : goal.returns-clause-exact
returns-clause-exact c = sym c.lines.invariant.told ∙ lines_end (basis_of c.args.book.now) c.args.form c.lines.reader.given c.lines.priors.items _ (c.in_default.ensures.end.0 refl)
