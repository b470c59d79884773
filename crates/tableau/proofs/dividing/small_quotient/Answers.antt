use Rattle.std.proofs.Common.{pos, ◌*ℤ◌, ◌<ℤ◌, ap, ◌∙◌, arith}
use Rattle.std.specs.Int.{w64}
use Rattle.std.proofs.lemmas.Int.{ints, quot_is, quot_fits}
use Rattle.tableau.proofs.Divisors.{exact}
use Rattle.tableau.proofs.dividing.small_quotient.Goals as goal

pub returns : goal.returns
returns c =
    let n = c.args.number in
    let by = c.args.by in
    let up : pos 0 <ℤ by = omega (arith, ints, c.requires.by) in
    ap (λ t. t *ℤ by) (quot_is w64 n by c.ranges.number c.ranges.by (quot_fits w64 n by c.ranges.number up)) ∙ exact n by c.requires.divides
