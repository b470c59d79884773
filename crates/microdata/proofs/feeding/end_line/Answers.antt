use Rattle.std.proofs.Common.{◌++◌, ◌∷◌, []}
use Rattle.std.proofs.lemmas.Result.{err_from_is_err_and}
use Rattle.microdata.proofs.Cuts.{kept-more, grown-stops, both-plain}
use Rattle.microdata.proofs.feeding.end_line.Goals as goal

pub returns-in_err-grow_line-clause-stops : goal.returns-in_err-grow_line-clause-stops
returns-in_err-grow_line-clause-stops c =
    let p = err_from_is_err_and c.from_residual.result c.from_residual.ensures.1 in
    let m = c.args.measures.now in
    let line = c.args.begun.now.items ++ c.args.bytes.now in
    let e = c.in_err-grow_line.field-0.0 in
    rw (p.1, p.2)
    (kept-more m c.args.so_far.now c.args.so_far.now line c.args.begun.now.items (10 ∷ []) e
    (grown-stops m c.args.so_far.now line c.args.begun.now.items e (both-plain c.args.begun.now.items c.args.bytes.now c.requires.plain c.requires.inside) c.in_err-grow_line.ensures.stops))
