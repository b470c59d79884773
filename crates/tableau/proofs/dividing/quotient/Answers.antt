use Rattle.std.proofs.Common.{◌≡◌, ℤ, pos, ◌*ℤ◌, ◌<ℤ◌, ap, sym, subst, ◌∙◌, arith, rules, unsigned_abs, FitsSigned, to_z, of_z}
use Prim.Native.Nat.{◌∣◌}
use Rattle.std.specs.Int.{w128, w64}
use Rattle.std.proofs.lemmas.Int.{ints, quot_is, quot_fits, to_z-of_z}
use Rattle.tableau.proofs.Divisors.{exact}
use Rattle.tableau.proofs.dividing.quotient.Goals as goal

pub returns : goal.returns
returns c =
    let n = c.args.number in
    let by = c.args.by in
    let up : pos 0 <ℤ by = omega (arith, ints, c.requires.by) in
    ap (λ t. t *ℤ by) (quot_is w128 n by c.ranges.number c.ranges.by (quot_fits w128 n by c.ranges.number up)) ∙ exact n by c.requires.divides

pub small_quotient-requires-clause-divides : goal.small_quotient-requires-clause-divides
small_quotient-requires-clause-divides c =
    let small : ℤ = c.in-Ok.small in
    let small_by : ℤ = c.in-Ok-try_from.small_by in
    let fits : FitsSigned w64 small = search rules in
    let by_fits : FitsSigned w64 small_by = search rules in
    let same : small ≡ c.args.number = search rules in
    let by_same : small_by ≡ c.args.by = search rules in
    subst (λ b. unsigned_abs b ∣ unsigned_abs (to_z w64 (of_z w64 small))) (sym (to_z-of_z w64 small_by by_fits ∙ by_same))
    (subst (λ n. unsigned_abs c.args.by ∣ unsigned_abs n) (sym (to_z-of_z w64 small fits ∙ same)) c.requires.divides)
