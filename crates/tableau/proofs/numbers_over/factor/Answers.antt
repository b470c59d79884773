use Rattle.std.proofs.Common.{◌≡◌, ◌*ℤ◌, ℤ, unsigned_abs, ap, sym, subst, ◌∙◌, rules, FitsSigned, to_z, of_z}
use Prim.Native.Nat.{◌∣◌}
use Rattle.std.specs.Int.{w128}
use Rattle.std.proofs.lemmas.Int.{to_z-of_z}
use Rattle.tableau.specs.OwnRows.{own_den, factor_of}
use Rattle.tableau.proofs.OwnRows.{cancel, factor_times}
use Rattle.tableau.proofs.numbers_over.factor.Goals as goal

pub quotient-requires-clause-divides : goal.quotient-requires-clause-divides
quotient-requires-clause-divides c =
    let fits : FitsSigned w128 c.den_of.result = search rules in
    let own_is : to_z w128 (of_z w128 c.den_of.result) ≡ own_den c.args.width c.args.entries.now = to_z-of_z w128 c.den_of.result fits ∙ c.den_of.ensures in
    subst (λ (z : ℤ). unsigned_abs (to_z w128 (of_z w128 c.den_of.result)) ∣ unsigned_abs z) (sym (to_z-of_z w128 c.args.den c.ranges.den)) (subst (λ (z : ℤ). unsigned_abs z ∣ unsigned_abs c.args.den) (sym own_is) c.requires.divides)

pub returns : goal.returns
returns c =
    let fits : FitsSigned w128 c.den_of.result = search rules in
    let q : ℤ = c.quotient.result in
    let q_fits : FitsSigned w128 q = search rules in
    let own : ℤ = own_den c.args.width c.args.entries.now in
    let own_is : to_z w128 (of_z w128 c.den_of.result) ≡ own = to_z-of_z w128 c.den_of.result fits ∙ c.den_of.ensures in
    let times : q *ℤ own ≡ c.args.den = ap (λ z. q *ℤ z) (sym own_is) ∙ c.quotient.ensures ∙ to_z-of_z w128 c.args.den c.ranges.den in
    to_z-of_z w128 q q_fits ∙ cancel q (factor_of c.args.den c.args.width c.args.entries.now) own c.requires.own (times ∙ sym (factor_times c.args.den own c.requires.above c.requires.own c.requires.divides))
