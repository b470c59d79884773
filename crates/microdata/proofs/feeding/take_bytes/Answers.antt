use Rattle.std.proofs.Common.{◌++◌, Some}
use Rattle.std.proofs.lemmas.Result.{err_from_is_err_and}
use Rattle.microdata.specs.Feeding.{StopsLong, IsKeptOf}
use Rattle.microdata.proofs.Cuts.{kept-line, kept-rest, grown-stops, both-plain, said-so}
use Rattle.microdata.proofs.feeding.take_bytes.Goals as goal

pub returns-in_err-end_line-clause-stops : goal.returns-in_err-end_line-clause-stops
returns-in_err-end_line-clause-stops c =
    let p = err_from_is_err_and c.from_residual.result c.from_residual.ensures.1 in
    rw (p.1, p.2)
    (kept-line c.args.measures.now c.args.so_far.now c.lines.so_far (c.args.begun.now.items ++ c.args.piece.now) c.lines.begun.items c.in-Some.line.now c.in-Some.behind.now c.lines.rest.now c.lines.begun.items c.args.begun.now.items c.in_err-end_line.field-0.0
    c.in-Some.ensures.cut_behind_line c.lines.invariant.says c.in_err-end_line.ensures.stops)

pub returns-clause-stops : goal.returns-clause-stops
returns-clause-stops c =
    let m = c.args.measures.now in
    let first = c.args.so_far.now in
    let whole = c.args.begun.now.items ++ c.args.piece.now in
    let line = c.lines.begun.items ++ c.lines.rest.now in
    said-so c.grow_line.result (λ e. StopsLong e c.lines.so_far.number line) (λ e. IsKeptOf (Some e) m first whole first c.args.begun.now.items)
    (λ e h. kept-rest m first c.lines.so_far whole line line c.args.begun.now.items e c.lines.invariant.says
    (grown-stops m c.lines.so_far line line e (both-plain c.lines.begun.items c.lines.rest.now c.lines.invariant.plain c.in_default.ensures.none) h))
    c.grow_line.ensures.stops
