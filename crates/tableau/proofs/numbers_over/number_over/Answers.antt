use Rattle.std.proofs.Common.{◌≡◌, ◌*ℤ◌, ℤ, pos, ap, sym, ◌∙◌, arith, to_z}
use Rattle.std.specs.Int.{w128}
use Rattle.std.proofs.lemmas.Int.{ints, to_z-of_z}
use Rattle.tableau.proofs.numbers_over.number_over.Goals as goal

pub returns-then-times-eq1-clause-over : goal.returns-then-times-eq1-clause-over
returns-then-times-eq1-clause-over c =
    let number : ℤ = c.args.number in
    let times_is : c.args.times ≡ pos 1 = sym (to_z-of_z w128 c.args.times c.ranges.times) ∙ ap (to_z w128) c.if-times-eq1.true in
    let once : number *ℤ pos 1 ≡ number = omega (arith, ints) in
    to_z-of_z w128 number c.ranges.number ∙ sym (ap (λ z. number *ℤ z) times_is ∙ once)
