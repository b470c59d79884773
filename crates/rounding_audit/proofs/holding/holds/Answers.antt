use Rattle.std.proofs.Common.{List, ℕ, ◌-ℤ◌, to_z, refl, get_or, arith, pos, subst, ◌≢◌}
use Rattle.std.specs.Int.{w128}
use Rattle.std.proofs.lemmas.Int.{ints}
use Rattle.sdc_base.specs.Systems.{Numbers, number_at}
use Rattle.sdc_base.specs.Totals.{sum_of}
use Rattle.rounding_audit.proofs.Parts.{each_from_zero, more_than_left}
use Rattle.rounding_audit.proofs.holding.holds.Goals as goal

pub returns-then-value-left : goal.returns-then-value-left
returns-then-value-left c =
    let values : Numbers = number_at c.args.values.now in
    let total : ℕ = c.args.relation.now.total in
    let parts : List ℕ = c.as_slice-part-items.result.now in
    let place : ℕ = c.loop-part.part-index in
    let none = more_than_left values (values total) (to_z w128 c.loop-part.left-bits) parts place (get_or parts place 0) (λ cell. each_from_zero c.args.values.now cell c.requires.from_zero) c.loop-part-test.true refl c.loop-part.invariant.left_is (omega (arith, ints, c.if-value-left.true)) in
    ((λ told. absurd cc), (λ is. absurd (subst (λ (own : List ℕ). values total -ℤ sum_of values own ≢ pos 0) c.as_slice-part-items.ensures none is)))
