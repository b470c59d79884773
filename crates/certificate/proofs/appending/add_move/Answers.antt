use Rattle.std.proofs.Common.{rules, arith, Fits, w32}
use Rattle.certificate.proofs.Widths.{wide_of}
use Rattle.certificate.proofs.appending.add_move.Goals as goal

pub returns-clause-wide : goal.returns-clause-wide
returns-clause-wide c =
    let fits : Fits w32 c.args.one.now.cell = search rules in
    (omega (arith, fits.fits), wide_of c.args.one.now.by (search rules))
